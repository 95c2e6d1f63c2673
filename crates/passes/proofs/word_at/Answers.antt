use Rattle.std.proofs.Common.{◌+◌, ◌*◌, ap, ◌∙◌, arith}
use Rattle.passes.specs.Rows.{row_number}
use Rattle.passes.proofs.Rows.{rowed_limit, row_read}
use Rattle.passes.proofs.word_at.Goals as goal

pub returns : goal.returns
returns c =
    let row = c.args.row in
    let i = c.args.index in
    record {
      value = λ n f ps rows spare rest held.
          let l = rowed_limit held in
          row_read held row i c.place.result (omega arith) (c.place.ensures.value ∙ ap (λ k. 8450 + (8 + row_number row) * k + i) l);
    }
