-- The lines that answer a file. Assumes nothing.
use Rattle.std.proofs.Common.{ℕ, Bool, List, [], ◌++◌, refl, ap, ◌∙◌, arith}
use Rattle.std.proofs.lemmas.Result.{IfOk-from_err}
use Rattle.law.specs.Promise.{Right, all_right}
use Rattle.service.specs.Desks.{desk}
use Rattle.register.proofs.Promises.{answers_right}
use Rattle.report.specs.Lines.{file_calls, file_limits, file_lines}
use Rattle.report.proofs.answer_file.Goals as goal

-- every answer is right
file_right : (can : ℕ → Bool) (bs : List ℕ) → all_right (desk can []) (file_limits can) ((desk can []).opened (file_limits can)) [] (file_calls bs)
unfolding Right
file_right can bs = answers_right can [] (file_limits can) (file_calls bs) (omega arith) refl

pub returns-in_err-words : goal.returns-in_err-words
returns-in_err-words g c = record { lines = IfOk-from_err c.from_residual.result _ c.from_residual.ensures.0; right = file_right g.S.Stage.can c.args.input.now }

pub returns-in_err-bytes : goal.returns-in_err-bytes
returns-in_err-bytes g c =
    let r = c.from_residual-in_err-bytes in record { lines = IfOk-from_err r.result _ r.ensures.0; right = file_right g.S.Stage.can c.args.input.now }

pub returns-in_err-put_file : goal.returns-in_err-put_file
returns-in_err-put_file g c =
    let r = c.from_residual-in_err-put_file in record { lines = IfOk-from_err r.result _ r.ensures.0; right = file_right g.S.Stage.can c.args.input.now }

pub returns : goal.returns
returns g c =
    record {
      lines = c.in_ok-put_file.ensures.lines ∙ ap (λ s. s ++ file_lines g.S.Stage.can c.args.input.now) c.new-text.ensures.bytes;
      right = file_right g.S.Stage.can c.args.input.now;
    }
