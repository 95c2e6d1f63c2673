-- The shares in an answer. Assumes nothing.
use Rattle.std.proofs.Common.{◌-◌, length, drop, Some, sym, ap, ◌∙◌, arith}
use Rattle.std.proofs.lemmas.List.{take_all, length-drop}
use Rattle.wire.specs.Bytes.{answer_from, read_shares, shares_from}
use Rattle.wire.proofs.ReadBack.{shares_told, shares_whole, shares_counted}
use Rattle.wire.proofs.shares_in.Goals as goal

pub returns-in-Some-Shares : goal.returns-in-Some-Shares
returns-in-Some-Shares c =
    let bs = c.args.bytes.now in
    let n = c.in-Some-Shares.field-0-0 in
    let e = shares_told bs c.in-Some-Shares.field-0 n c.in-Some-Shares.field-0-is c.in-Some-Shares.ensures.value in
    let l = shares_whole bs n e in
    let whole = take_all (length bs - 5) (drop 5 bs) (omega (arith, length-drop 5 bs)) in
    record { value = rw whole (shares_counted bs n l ∙ ap read_shares e) }

pub returns-in-Some-Refused : goal.returns-in-Some-Refused
unfolding shares_from
returns-in-Some-Refused c =
    let bs = c.args.bytes.now in
    record { value = ap (λ x. read_shares (answer_from (Some x) bs)) (sym c.in-Some-Refused.field-0-is) ∙ ap read_shares c.in-Some-Refused.ensures.value }

pub returns-in-Some-Number : goal.returns-in-Some-Number
unfolding shares_from
returns-in-Some-Number c =
    let bs = c.args.bytes.now in
    record { value = ap (λ x. read_shares (answer_from (Some x) bs)) (sym c.in-Some-Number.field-0-is) ∙ ap read_shares c.in-Some-Number.ensures.value }

pub returns-in-None : goal.returns-in-None
unfolding shares_from
returns-in-None c = record { value = ap read_shares c.in-None.ensures.value }
