-- A kind and values, written one after the other. Assumes nothing.
use Rattle.std.proofs.Common.{◌+◌, ◌*◌, get_or, ap, ◌∙◌}
use Rattle.rows.specs.Written.{written}
use Rattle.wire.specs.Bytes.{le4}
use Rattle.wire.proofs.Bytes.{row_begun, row_more}
use Rattle.wire.proofs.put_row.Goals as goal

pub loop-i-init : goal.loop-i-init
loop-i-init c = row_begun c.args.kind c.args.out.now

pub loop-i-preserved : goal.loop-i-preserved
unfolding le4
loop-i-preserved c =
    let i = c.loop-i.i in
    c.put.ensures.left
    ∙ (ap (λ r. written (1 + 4 * i) r c.loop-i.out) c.to_le_bytes.ensures
    ∙ (ap (written (1 + 4 * i) (le4 (get_or c.args.values.now i 0))) c.loop-i.invariant ∙ row_more c.args.kind i c.args.values.now c.args.out.now c.loop-i-test.true))
