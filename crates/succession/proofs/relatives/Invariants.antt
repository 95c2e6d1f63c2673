use Rattle.std.proofs.Common.{◌≡◌, ℕ, ◌<◌, ◌≤◌, List, [], length}
use Rattle.std.specs.List.{AllByRecursion}
use Rattle.law.specs.Family.{Family}
use Rattle.amounts.specs.Lines.{starts_parts}
use Rattle.people.specs.Layout.{limit_in, count_in}
use Rattle.descent.specs.Going.{with_parts, Small}
use Rattle.succession.specs.Orders.{Begun}
use Rattle.succession.specs.Starts.{starts_row}
use Rattle.succession.proofs.Walks.{Walk}
use Rattle.succession.proofs.relatives.Given as goal

abbrev pub invariant-loop-start : goal.invariant-loop-start
invariant-loop-start l =
    (goal.iterator-loop-start).can_next l.start-iterator × (goal.iterator-loop-start).is_finite l.start-iterator
    × (limit_in l.memory ≡ limit_in l.initial.memory) × (count_in l.memory ≡ count_in l.initial.memory) × (l.count ≤ 4096)
    × ((w : Walk (goal.iterator-loop-start).next_gives (starts_row l.fn.starts) l.start-iterator)
    × ((n : ℕ) (f : Family) (rk : ℕ → ℕ) (spare rest : List ℕ) → Begun l.initial.memory n f rk [] spare rest 0 → AllByRecursion (λ s. s.who < length f) (starts_row l.fn.starts) →
    (l.memory ≡ with_parts n f (starts_parts f w.done) spare rest) × (l.count ≡ length (starts_parts f w.done)) × AllByRecursion Small (starts_parts f w.done)))
