use Rattle.lineage.proofs.Chains.{ways_are_chains}
use Rattle.lineage.proofs.ways_are_chains.Goals as goal

pub returns : goal.returns
returns c = record { holds = ways_are_chains }
