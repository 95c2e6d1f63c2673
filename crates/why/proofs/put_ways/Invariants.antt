use Rattle.std.proofs.Common.{◌≡◌, ◌++◌, vec_items}
use Rattle.why.specs.Explained.{explanations, parts_to}
use Rattle.why.proofs.Heirs.{so_far}
use Rattle.why.proofs.put_ways.Given as goal

abbrev pub invariant-loop-way : goal.invariant-loop-way
invariant-loop-way l = explanations (vec_items l.found) ≡ explanations (vec_items l.initial.found) ++ parts_to l.heir (so_far l.up l.ways l.way-index)
