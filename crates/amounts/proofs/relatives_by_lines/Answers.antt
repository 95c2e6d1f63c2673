use Rattle.amounts.proofs.Orders.{starts_right}
use Rattle.amounts.proofs.relatives_by_lines.Goals as goal

pub returns : goal.returns
returns c = starts_right
