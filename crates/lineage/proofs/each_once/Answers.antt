use Rattle.lineage.proofs.Chains.{each_once}
use Rattle.lineage.proofs.each_once.Goals as goal

pub returns : goal.returns
returns c = record { holds = each_once }
