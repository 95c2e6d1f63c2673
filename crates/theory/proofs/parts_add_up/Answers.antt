use Rattle.theory.proofs.Parts.{adds_up, adds_up_by_rank}
use Rattle.theory.proofs.parts_add_up.Goals as goal

pub returns : goal.returns
returns c = record { promised = adds_up; stronger = adds_up_by_rank }
