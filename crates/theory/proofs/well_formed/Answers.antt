use Rattle.theory.proofs.Families.{reached_well_formed}
use Rattle.theory.proofs.well_formed.Goals as goal

pub returns : goal.returns
returns c = reached_well_formed
