-- The length of each answer. Assumes nothing.
use Rattle.std.proofs.Common.{map, length, Some, sym, ap, arith}
use Rattle.std.proofs.lemmas.List.{length-map}
use Rattle.std.proofs.lemmas.Bool.{lt-ltb}
use Rattle.wire.specs.Bytes.{law_share}
use Rattle.wire.proofs.Bytes.{length-refused, length-number, length-shares}
use Rattle.wire.proofs.reply_length.Goals as goal

pub returns-in-Refused : goal.returns-in-Refused
returns-in-Refused c = rw c.in-Refused.is (record { value = ap Some (sym (length-refused c.in-Refused.field-0 c.in-Refused.field-1)) })

pub returns-in-Number : goal.returns-in-Number
returns-in-Number c = rw c.in-Number.is (record { value = ap Some (sym (length-number c.in-Number.field-0)) })

pub returns-else-heirs : goal.returns-else-heirs
returns-else-heirs c =
    let many = length-map c.in-Shares.heirs.now law_share in
    let e = lt-ltb (length (map law_share c.in-Shares.heirs.now)) 4294967296 (omega arith) in
    let long = length-shares (map law_share c.in-Shares.heirs.now) in
    rw c.in-Shares.is (record { value = rw (e, long, many) })
