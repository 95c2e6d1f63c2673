-- What holds at each turn of the loop that writes shares. Assumes nothing.
use Rattle.std.proofs.Common.{◌≡◌, ℕ, List, [], map, length, take}
use Rattle.rows.specs.Written.{written}
use Rattle.wire.specs.Bytes.{law_share, shares_begun}
use Rattle.wire.proofs.put_shares.Given as goal

-- Whatever bytes the count was written over, the shares before i stand behind it in them.
abbrev pub invariant-loop-i : goal.invariant-loop-i
invariant-loop-i l =
    (out : List ℕ) → l.initial.out ≡ written 0 (shares_begun (length l.heirs) []) out
    → l.out ≡ written 0 (shares_begun (length l.heirs) (take l.i (map law_share l.heirs))) out
