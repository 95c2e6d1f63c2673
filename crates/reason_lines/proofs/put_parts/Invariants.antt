use Rattle.std.proofs.Common.{◌≡◌, ◌++◌, take, string_bytes}
use Rattle.why.specs.Explained.{explanation}
use Rattle.std.specs.List.{flat_map}
use Rattle.reason_lines.specs.Lines.{names_of, part_line}
use Rattle.reason_lines.proofs.put_parts.Given as goal

abbrev pub invariant-loop-part : goal.invariant-loop-part
invariant-loop-part l = string_bytes l.text ≡ string_bytes l.initial.text ++ flat_map (λ e. l.indent ++ part_line (names_of l.names) (explanation e)) (take l.part-index l.parts)
