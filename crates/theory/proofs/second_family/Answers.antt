use Rattle.theory.proofs.Examples.{second_family}
use Rattle.theory.proofs.second_family.Goals as goal

pub returns : goal.returns
returns c = second_family
