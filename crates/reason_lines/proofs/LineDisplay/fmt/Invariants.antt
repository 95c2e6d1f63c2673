use Rattle.std.proofs.Common.{take}
use Rattle.std.specs.Fmt.{HasWritten, IsPlainFormatter}
use Rattle.reason_lines.specs.Lines.{names_of, more_persons}
use Rattle.reason_lines.proofs.LineDisplay.fmt.Given as goal

abbrev pub invariant-loop-who : goal.invariant-loop-who
invariant-loop-who g l =
    IsPlainFormatter l.initial.f → HasWritten g.W.Write.write_str_gives l.initial.f (more_persons (names_of l.names) (take l.who-index l.more)) l.f
