use Rattle.theory.proofs.Living.{living_lines_are_one_set}
use Rattle.theory.proofs.living_lines_are_one_set.Goals as goal

pub returns : goal.returns
returns c = living_lines_are_one_set
