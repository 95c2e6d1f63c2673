use Rattle.std.proofs.Common.{◌≡◌, ℕ, ◌≤◌, List, [], length}
use Rattle.std.specs.Array.Iter.{array_into_iter_items}
use Rattle.std.specs.Iterator.Adapters.{flatten_source}
use Rattle.law.specs.Family.{Family}
use Rattle.people.specs.Layout.{limit_in, count_in}
use Rattle.descent.specs.Going.{with_parts}
use Rattle.succession.specs.Orders.{Begun}
use Rattle.succession.specs.Starts.{starts_row}
use Rattle.succession.proofs.Walks.{Walk}
use Rattle.starts.proofs.begin.Given as goal

abbrev pub invariant-loop-start : goal.invariant-loop-start
invariant-loop-start l =
    (goal.iterator-loop-start).can_next l.start-iterator × (goal.iterator-loop-start).is_finite l.start-iterator
    × (limit_in l.memory ≡ limit_in l.initial.memory) × (count_in l.memory ≡ count_in l.initial.memory)
    × (length (starts_row (array_into_iter_items (flatten_source l.initial.start-iterator))) ≤ 4)
    × ((w : Walk (goal.iterator-loop-start).next_gives (starts_row (array_into_iter_items (flatten_source l.initial.start-iterator))) l.start-iterator)
    × (l.count ≡ length w.done)
    × ((n : ℕ) (f : Family) (rk : ℕ → ℕ) (spare rest : List ℕ) → Begun l.initial.memory n f rk [] spare rest 0 → l.memory ≡ with_parts n f w.done spare rest))
