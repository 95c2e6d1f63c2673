use Rattle.amounts.proofs.Cleared.{cleared_right}
use Rattle.amounts.proofs.rows_cleared.Goals as goal

pub returns : goal.returns
returns c = cleared_right
