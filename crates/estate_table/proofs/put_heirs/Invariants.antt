use Rattle.std.proofs.Common.{◌≡◌, ℕ, ◌++◌, string_bytes}
use Rattle.law.specs.Family.{Family}
use Rattle.theory.specs.Families.{WellFormed}
use Rattle.reasons.specs.Estates.{DividedByWays}
use Rattle.reason_lines.specs.Lines.{names_of}
use Rattle.estate_table.specs.Tables.{heirs_lines}
use Rattle.estate_table.proofs.put_heirs.Given as goal

abbrev pub invariant-loop-who : goal.invariant-loop-who
invariant-loop-who l =
    (f : Family) (d : ℕ) → WellFormed f → DividedByWays f d l.estate → string_bytes l.text ≡ string_bytes l.initial.text ++ heirs_lines (names_of l.names) f d l.who
