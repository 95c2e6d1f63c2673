use Rattle.theory.proofs.Heirs.{only_living, heirs_are_there}
use Rattle.theory.proofs.only_living.Goals as goal

pub returns : goal.returns
returns c = record { promised = only_living; stronger = heirs_are_there }
