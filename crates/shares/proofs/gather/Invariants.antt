-- What holds at each turn: whatever each had where the loop began, they have the pieces of the parts so far besides. Assumes nothing.
use Rattle.std.proofs.Common.{ℕ, List, take}
use Rattle.law.specs.Family.{Part}
use Rattle.shares.specs.Work.{Held}
use Rattle.shares.proofs.Pieces.{Gathering, gathered}
use Rattle.shares.proofs.gather.Given as goal

abbrev pub invariant-loop-index : goal.invariant-loop-index
invariant-loop-index l =
    (m : ℕ) (ps : List Part) (g : ℕ → ℕ) (rest : List ℕ) → Held m ps g rest l.persons l.initial.work → Gathering ps g l.persons l.times l.count l.whole
    → Held m ps (gathered g l.times l.whole (take l.index ps)) rest l.persons l.work
