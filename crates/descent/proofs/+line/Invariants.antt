use Rattle.std.proofs.Common.{◌≡◌, ℕ, ◌+◌, ◌≤◌, List, ◌++◌, length, take, drop}
use Rattle.std.specs.List.{AllByRecursion}
use Rattle.law.specs.Family.{Family, Part, children}
use Rattle.children.specs.Links.{first_of}
use Rattle.people.specs.Layout.{limit_in, count_in}
use Rattle.descent.specs.Going.{with_parts, Small, Ready, parts_below}
use Rattle.descent.proofs.+line.Given as goal

abbrev pub decreases-line : goal.decreases-line
decreases-line l = l.steps

abbrev pub invariant-loop-turn : goal.invariant-loop-turn
invariant-loop-turn l =
    (limit_in l.memory ≡ limit_in l.initial.memory) × (count_in l.memory ≡ count_in l.initial.memory) × (l.count ≤ 4096 → l.at ≤ 4096)
    × ((n : ℕ) (f : Family) (rk : ℕ → ℕ) (ps : List Part) (spare rest : List ℕ) → Ready l.initial.memory n f rk ps spare rest l.steps l.who l.count →
    (l.link ≡ first_of (drop l.turn (children f l.who)))
    × (l.memory ≡ with_parts n f (ps ++ parts_below f l.each (take l.turn (children f l.who))) spare rest)
    × (l.at ≡ length ps + length (parts_below f l.each (take l.turn (children f l.who))))
    × (l.at ≤ 4096) × AllByRecursion Small (parts_below f l.each (take l.turn (children f l.who))))
