use Rattle.std.proofs.Common.{◌+◌, ◌-◌, length, ap, ◌∙◌, arith}
use borrow.Rule.Slice.PartMut.{put_mid}
use Rattle.rows.proofs.put.Goals as goal
use Rattle.rows.proofs.Written.{put_written}

pub returns : goal.returns
returns g c =
    let at = c.args.at in
    let many = at + length c.args.items.now - at in
    record {
      left =
          ap (put_mid at many c.args.row.now) c.copy_from_slice.ensures.after
          ∙ put_written at many c.args.items.now c.args.row.now (omega arith) (omega arith);
    }
