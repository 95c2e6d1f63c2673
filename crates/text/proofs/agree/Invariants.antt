-- What holds at each turn of the loop over the persons. Assumes nothing.
use Rattle.std.proofs.Common.{◌≡◌, ◌-◌, length}
use Rattle.text.specs.Households.{names_in, persons_of}
use Rattle.text.specs.Reading.{agreed}
use Rattle.text.proofs.agree.Given as goal

-- what is left gives what the whole gives
abbrev pub invariant-loop-line : goal.invariant-loop-line
invariant-loop-line l = record {
  left : agreed (length l.initial.members - l.line) l.line (persons_of l.members) ≡ agreed (length l.initial.members) 0 (persons_of l.initial.members);
  names : names_in l.members ≡ names_in l.initial.members;
}
