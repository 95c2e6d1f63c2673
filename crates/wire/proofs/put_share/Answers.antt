-- A share written into the part of the answer behind the count. Assumes nothing.
use Rattle.std.proofs.Common.{◌≡◌, ◌-◌, ◌*◌, length, take, drop, ap, ◌∙◌, arith}
use borrow.Rule.Slice.PartMut.{put_mid}
use Rattle.rows.specs.Written.{written}
use Rattle.rows.proofs.Written.{rest_written}
use Rattle.wire.specs.Bytes.{share_bytes, law_share}
use Rattle.wire.proofs.put_share.Goals as goal

pub returns : goal.returns
returns c =
    let out = c.args.out.now in
    let n = length out - 5 in
    let bs = share_bytes (law_share c.args.share) in
    let e : c.write_share.new.part ≡ written (20 * c.args.index) bs (take n (drop 5 out)) = c.write_share.ensures.left in
    record { left = ap (put_mid 5 n out) e ∙ rest_written 5 n (20 * c.args.index) bs out (omega arith) }
