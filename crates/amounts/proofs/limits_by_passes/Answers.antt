use Rattle.amounts.proofs.Starts.{limits_right}
use Rattle.amounts.proofs.limits_by_passes.Goals as goal

pub returns : goal.returns
returns c = limits_right
