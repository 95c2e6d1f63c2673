-- What holds at each turn of the loop over the lines. Assumes nothing.
use Rattle.std.proofs.Common.{◌≡◌, [], length, take, drop, vec_items}
use Rattle.text.specs.Households.{names_in, persons_of}
use Rattle.text.specs.Reading.{names_of, said_in, persons_in}
use Rattle.text.proofs.read_members.Given as goal

-- what is left gives what the whole gives
abbrev pub invariant-loop-number : goal.invariant-loop-number
invariant-loop-number l = record {
  value : persons_in (names_of (said_in l.entries)) (drop l.number (said_in l.entries)) (persons_of (vec_items l.members)) ≡ persons_in (names_of (said_in l.entries)) (said_in l.entries) [];
  long : length (vec_items l.members) ≡ l.number;
  names : names_in (vec_items l.members) ≡ take l.number (names_of (said_in l.entries));
}
