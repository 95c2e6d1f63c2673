use Rattle.std.proofs.Common.{◌≡◌, ◌++◌, take, vec_items}
use Rattle.ways.specs.Rows.{law_ways}
use Rattle.ways.specs.Going.{ways_below, Marked, family_in}
use Rattle.ways.proofs.Descent.+go_down.Given as goal

abbrev pub decreases-go_down : goal.decreases-go_down
decreases-go_down l = l.steps

abbrev pub invariant-loop-who : goal.invariant-loop-who
invariant-loop-who l =
    Marked l.self →
    law_ways (vec_items l.ways) ≡ law_ways (vec_items l.initial.ways) ++ ways_below l.steps (family_in l.self) l.self.decedent l.above (take l.who-index l.heads) l.by
