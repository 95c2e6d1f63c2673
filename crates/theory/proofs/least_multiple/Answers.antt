use Rattle.theory.proofs.Multiples.{least_multiple}
use Rattle.theory.proofs.least_multiple.Goals as goal

pub returns : goal.returns
returns c = least_multiple
