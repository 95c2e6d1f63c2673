-- Each answer has room where its length is known. Assumes nothing.
use Rattle.std.proofs.Common.{map, ap, arith}
use Rattle.std.proofs.lemmas.List.{length-map}
use Rattle.law.specs.Calls.{refused, number, shares}
use Rattle.wire.specs.Bytes.{law_share, answer_of}
use Rattle.wire.proofs.Bytes.{length-refused, length-number, length-shares, length-known}
use Rattle.wire.proofs.encode.Goals as goal

pub put_refusal-requires : goal.put_refusal-requires
put_refusal-requires c =
    let n = c.in-Refused.refusal in
    let p = c.in-Refused.place in
    let k = length-known (answer_of c.args.reply) (refused n p) c.in_ok-size.size (ap answer_of c.in-Refused.is) c.in_ok-size.ensures.value in
    record { room = omega (arith, length-refused n p, k.0) }

pub put_number-requires : goal.put_number-requires
put_number-requires c =
    let n = c.in-Number.value in
    let k = length-known (answer_of c.args.reply) (number n) c.in_ok-size.size (ap answer_of c.in-Number.is) c.in_ok-size.ensures.value in
    record { room = omega (arith, length-number n, k.0) }

pub put_shares-requires : goal.put_shares-requires
put_shares-requires c =
    let ss = map law_share c.in-Shares.heirs.now in
    let many = length-map c.in-Shares.heirs.now law_share in
    let k = length-known (answer_of c.args.reply) (shares ss) c.in_ok-size.size (ap answer_of c.in-Shares.is) c.in_ok-size.ensures.value in
    record { room = omega (arith, length-shares ss, k.0); few = omega (arith, k.1) }
