use Rattle.std.proofs.Common.{ℕ, ◌∙◌, set, ap, replicate, arith}
use Rattle.rows.specs.Written.{written}
use Rattle.service.proofs.Births.{opened}
use Rattle.service.proofs.prepare.Goals as goal

pub returns : goal.returns
returns c =
    let ws = c.args.memory.now in
    let words = c.words_asked-words.ensures.value in
    record {
      opened =
          opened ws _ c.args.bytes c.args.limit (omega arith) (omega arith) (omega arith)
          (ap (λ later. set later 0 c.args.limit) (c.clear.ensures.left ∙ ap (λ (k : ℕ). written 0 (replicate k 0) ws) words));
    }
