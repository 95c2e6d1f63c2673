use Rattle.std.proofs.Common.{◌≡◌, ◌<◌, map, drop}
use Rattle.law.specs.Calls.{common_multiple}
use Rattle.ways.specs.Ways.{way_part}
use Rattle.ways.specs.Rows.{law_ways}
use Rattle.reasons.proofs.whole_of.Given as goal

abbrev pub invariant-loop-way : goal.invariant-loop-way
invariant-loop-way l =
    (common_multiple (drop l.way-index (map way_part (law_ways l.ways))) l.number ≡ common_multiple (map way_part (law_ways l.ways)) l.initial.number) × (0 < l.number)
