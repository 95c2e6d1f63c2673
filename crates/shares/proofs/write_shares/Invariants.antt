-- What holds at each turn: no more shares are written than persons looked at, and those before are read and written. Assumes nothing.
use Rattle.std.proofs.Common.{ℕ, ◌-◌, ◌≤◌, List}
use Rattle.law.specs.Family.{Part}
use Rattle.shares.specs.Work.{Held}
use Rattle.shares.proofs.Writing.{Writing}
use Rattle.shares.proofs.write_shares.Given as goal

abbrev pub invariant-loop-who : goal.invariant-loop-who
invariant-loop-who l =
    (l.count ≤ l.from) × (l.from ≤ l.persons)
    × ((m : ℕ) (ps : List Part) (g : ℕ → ℕ) (rest : List ℕ) → Held m ps g rest l.persons l.initial.work
    → Writing m ps g rest l.whole l.persons l.initial.answer l.count l.from l.work l.answer)

abbrev pub decreases-loop-who : goal.decreases-loop-who
decreases-loop-who l = l.persons - l.from
