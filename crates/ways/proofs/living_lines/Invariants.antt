use Rattle.std.proofs.Common.{◌≡◌, vec_items}
use Rattle.ways.specs.Rows.{family_of}
use Rattle.ways.proofs.Marks.{seen}
use Rattle.ways.proofs.living_lines.Given as goal

abbrev pub invariant-loop : goal.invariant-loop
invariant-loop l = vec_items l.lives ≡ seen (family_of l.family) l.decedent l.counter
