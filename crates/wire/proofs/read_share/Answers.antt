-- A share read from an answer. Assumes nothing.
use Rattle.std.proofs.Common.{Some, sym, ap, ◌∙◌, arith}
use Rattle.std.proofs.lemmas.Option.{slice_get_past}
use Rattle.wire.specs.Bytes.{shares_from, share_in}
use Rattle.wire.proofs.ReadBack.{nth_from, length_from, shares_whole, shares_told}
use Rattle.wire.proofs.read_share.Goals as goal

pub returns-then-index-count : goal.returns-then-index-count
returns-then-index-count c =
    let bs = c.args.bytes.now in
    let n = c.in-Shares.count in
    let i = c.args.index in
    let e = shares_told bs c.in_ok-count.field-0 n c.in-Shares.is c.in_ok-count.ensures.value in
    record { value = sym (slice_get_past (shares_from bs 5 n) i (omega (arith, length_from bs 5 n))) ∙ ap (λ a. share_in a i) e }

pub share_at-requires : goal.share_at-requires
share_at-requires c =
    let bs = c.args.bytes.now in
    let n = c.in-Shares.count in
    let e = shares_told bs c.in_ok-count.field-0 n c.in-Shares.is c.in_ok-count.ensures.value in
    record { room = omega (arith, shares_whole bs n e) }

pub returns : goal.returns
returns c =
    let bs = c.args.bytes.now in
    let n = c.in-Shares.count in
    let i = c.args.index in
    let e = shares_told bs c.in_ok-count.field-0 n c.in-Shares.is c.in_ok-count.ensures.value in
    record { value = ap Some c.share_at.ensures.value ∙ (sym (nth_from bs 5 n i (omega arith)) ∙ ap (λ a. share_in a i) e) }
