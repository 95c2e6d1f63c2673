-- What holds at each turn of the loop that appends the heirs' lines. Assumes nothing.
use Rattle.std.proofs.Common.{◌≡◌, ◌++◌, string_bytes}
use Rattle.std.specs.List.{flat_map}
use Rattle.wire.specs.Bytes.{shares_left}
use Rattle.report.specs.Lines.{heir_line}
use Rattle.report.proofs.put_share_lines.Given as goal

-- with the lines of the shares that are left, it is the text with all lines
abbrev pub invariant-loop-share : goal.invariant-loop-share
invariant-loop-share g l =
    let line = heir_line (g.N.Naming.named l.naming) in
    string_bytes l.text ++ flat_map line (shares_left l.share-iterator) ≡ string_bytes l.initial.text ++ flat_map line (shares_left l.initial.share-iterator)
