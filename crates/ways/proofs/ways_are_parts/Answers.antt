use Rattle.ways.proofs.Laws.{ways_are_parts}
use Rattle.ways.proofs.ways_are_parts.Goals as goal

pub returns : goal.returns
returns c = record { holds = ways_are_parts }
