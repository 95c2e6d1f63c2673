use Rattle.law.specs.Promise.{without_marriages}
use Rattle.register.proofs.Promises.{right_within, keeps_within, answers_kept, relatives_alone}
use Rattle.register.proofs.without_marriages.Goals as goal

pub returns : goal.returns
returns c =
    record { right = right_within without_marriages; keeps = keeps_within without_marriages; same = answers_kept without_marriages; relatives = relatives_alone }
