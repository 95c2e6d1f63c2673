use Rattle.theory.proofs.Examples.{first_family}
use Rattle.theory.proofs.first_family.Goals as goal

pub returns : goal.returns
returns c = first_family
