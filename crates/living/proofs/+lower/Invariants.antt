use Rattle.std.proofs.Common.{◌≡◌, ℕ, ◌-◌, Bool, List, length}
use Rattle.law.specs.Family.{Family}
use Rattle.children.specs.Links.{link_row}
use Rattle.people.specs.Layout.{person_row, laid, limit_in, count_in}
use Rattle.living.specs.Marks.{parents_out}
use Rattle.living.specs.Places.{Held, ParentsThere}
use Rattle.living.proofs.+lower.Given as goal

abbrev pub decreases-lower : goal.decreases-lower
decreases-lower l = l.steps

abbrev pub invariant-loop-turn : goal.invariant-loop-turn
invariant-loop-turn l =
    (limit_in l.memory ≡ limit_in l.initial.memory) × (count_in l.memory ≡ count_in l.initial.memory)
    × ((n : ℕ) (f : Family) (s : ℕ → Bool) (work rest : List ℕ) → Held l.initial.memory n f s work rest → ParentsThere f n →
    l.memory ≡ laid n (length f) (person_row f) (link_row f) (parents_out l.turn (l.steps - 1) f l.who s) work rest)
