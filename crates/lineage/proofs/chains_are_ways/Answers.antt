use Rattle.lineage.proofs.Chains.{chains_are_ways}
use Rattle.lineage.proofs.chains_are_ways.Goals as goal

pub returns : goal.returns
returns c = record { holds = chains_are_ways }
