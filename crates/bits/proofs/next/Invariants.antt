-- A loop over the words: what is left has the same first member. Assumes nothing.
use Rattle.std.proofs.Common.{◌≡◌, ◌-◌}
use Rattle.bits.specs.Sets.{member_in, members}
use Rattle.bits.proofs.next.Given as goal

abbrev pub invariant-loop-p : goal.invariant-loop-p
invariant-loop-p l = members (member_in l.memory l.at) l.p l.end ≡ members (member_in l.memory l.at) l.from l.end

abbrev pub decreases-loop-p : goal.decreases-loop-p
decreases-loop-p l = l.end - l.p
