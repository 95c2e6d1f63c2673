use Rattle.std.proofs.Common.{◌+◌, ◌*◌, ap, ◌∙◌, arith}
use Rattle.passes.specs.Rows.{row_number}
use Rattle.passes.proofs.Rows.{rowed_limit, row_set}
use Rattle.passes.proofs.put_word.Goals as goal

pub returns-clause-left : goal.returns-clause-left
returns-clause-left c n f ps rows spare rest held =
    let row = c.args.row in
    let i = c.args.index in
    let l = rowed_limit held in
    row_set held row i c.place-at.result c.args.word (omega arith) (c.place-at.ensures.value ∙ ap (λ k. 8450 + (8 + row_number row) * k + i) l)
