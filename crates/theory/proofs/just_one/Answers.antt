use Rattle.theory.proofs.OneAnswer.{just_one}
use Rattle.theory.proofs.just_one.Goals as goal

pub returns : goal.returns
returns c = just_one
