use Rattle.amounts.proofs.Estates.{estate_by_passes}
use Rattle.amounts.proofs.estate_by_passes.Goals as goal

pub returns : goal.returns
returns c = estate_by_passes
