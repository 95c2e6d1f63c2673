use Rattle.std.proofs.Common.{◌≡◌, ℕ, ◌+◌, ◌≤◌, List, length, get_or, sum_by, unwrap_or}
use Rattle.law.specs.Family.{Family, Part}
use Rattle.law.specs.Calls.{common_multiple}
use Rattle.amounts.specs.Passes.{few, numbered}
use Rattle.passes.specs.Rows.{Rows, Rowed}
use Rattle.passes.proofs.line_of.Given as goal

abbrev pub invariant-loop-child : goal.invariant-loop-child
invariant-loop-child l =
    record {
      can : (goal.iterator-loop-child).can_next l.child-iterator;
      finite : (goal.iterator-loop-child).is_finite l.child-iterator;
      words : l.child-iterator.memory.now ≡ l.memory;
      lines : l.lines ≡ length l.yielded;
      fits : l.lines + (goal.iterator-loop-child).remaining l.child-iterator ≤ (goal.iterator-loop-child).remaining l.initial.child-iterator;
      value : (n : ℕ) (f : Family) (ps : List Part) (rows : Rows) (spare rest : List ℕ) → Rowed l.memory n f ps rows spare rest →
          (l.all.parts ≡ few (sum_by (λ p. get_or rows.counts p 0) l.yielded)) × (unwrap_or l.all.multiple 0 ≡ common_multiple (numbered rows.multiples l.yielded) 1);
    }
