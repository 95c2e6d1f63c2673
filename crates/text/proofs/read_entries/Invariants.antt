-- What holds at each turn of the loop over the lines. Assumes nothing.
use Rattle.std.proofs.Common.{◌≡◌, ◌+◌, ◌-◌, [], length, vec_items}
use Rattle.std.specs.Iterator.Adapters.{take_source, take_count}
use Rattle.std.specs.Slice.Iter.{split_inclusive_rest}
use Rattle.text.specs.Reading.{said_in, lines_in}
use Rattle.text.proofs.read_entries.Given as goal

-- what is left gives what the whole gives
abbrev pub invariant-loop-line : goal.invariant-loop-line
invariant-loop-line l = record {
  next : (goal.iterator-loop-line).can_next l.line-iterator;
  ends : (goal.iterator-loop-line).is_finite l.line-iterator;
  value :
      lines_in (65 - length (said_in (vec_items l.entries))) (split_inclusive_rest (take_source l.line-iterator)) (said_in (vec_items l.entries))
      ≡ lines_in 65 l.input [];
  few : length (vec_items l.entries) + take_count l.line-iterator ≡ 64;
  read : l.read + length (split_inclusive_rest (take_source l.line-iterator)) ≡ length l.input;
}
