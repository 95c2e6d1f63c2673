-- What holds at each turn of the loop that writes values. Assumes nothing.
use Rattle.std.proofs.Common.{◌≡◌, [], take}
use Rattle.rows.specs.Written.{written}
use Rattle.wire.specs.Bytes.{row_bytes}
use Rattle.wire.proofs.put_row.Given as goal

-- the kind and the values before i are written
abbrev pub invariant-loop-i : goal.invariant-loop-i
invariant-loop-i l = l.out ≡ written 0 (row_bytes l.kind (take l.i l.values) []) l.fn.out
