-- What holds at each turn of the loop over the persons. Assumes nothing.
use Rattle.std.proofs.Common.{◌≡◌, ◌++◌, drop, string_bytes}
use Rattle.text.specs.Households.{names_in, persons_of}
use Rattle.text.specs.Printing.{lines_for, text_lines}
use Rattle.text.proofs.put_family.Given as goal

-- with what is left to print, it is what the whole is
abbrev pub invariant-loop-member : goal.invariant-loop-member
invariant-loop-member l =
    string_bytes l.text ++ text_lines (lines_for (names_in l.members) (drop l.member-index (names_in l.members)) (drop l.member-index (persons_of l.members)))
    ≡ string_bytes l.initial.text ++ text_lines (lines_for (names_in l.members) (names_in l.members) (persons_of l.members))
