-- What holds at each turn: the parts that are left lead from the number so far to that of all parts. Assumes nothing.
use Rattle.std.proofs.Common.{◌≡◌, ◌-◌, ◌<◌}
use Rattle.law.specs.Calls.{common_multiple}
use Rattle.shares.specs.Work.{parts_in}
use Rattle.shares.proofs.whole.Given as goal

abbrev pub invariant-loop-i : goal.invariant-loop-i
invariant-loop-i l =
    (common_multiple (parts_in l.work l.i (l.count - l.i)) l.number ≡ common_multiple (parts_in l.work 0 l.count) l.initial.number) × (0 < l.number)
