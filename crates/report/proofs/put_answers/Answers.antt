-- The calls of a file, one after the other. Assumes nothing.
use Rattle.std.proofs.Common.{[], string_bytes, sym, refl, ap, ◌∙◌}
use Rattle.std.proofs.lemmas.Result.{err_from_is_err_and}
use Rattle.service.specs.Desks.{desk}
use Rattle.register.proofs.Promises.{resumed_right}
use Rattle.report.specs.Lines.{file_calls, memory_of}
use Rattle.report.proofs.Files.{none_yet, one_more, no_more}
use Rattle.report.proofs.put_answers.Goals as goal

pub loop-row-preserved : goal.loop-row-preserved
loop-row-preserved g c =
    let done = c.in_ok-answer_call.ensures in (
      one_more (desk g.S.Stage.can []) (string_bytes c.args.text.now) (memory_of c.args.register.now) c.args.input.now
          (string_bytes c.loop-row.text) (string_bytes c.answer_call.new.text) (memory_of c.loop-row.register) (memory_of c.answer_call.new.register)
          c.loop-row.row-iterator.rest.now c.in-Some.row.now c.next.new.self.rest.now c.loop-row.invariant.0 c.in-Some.ensures.steps done.lines done.left,
      done.words ∙ c.loop-row.invariant.1,
      done.bytes ∙ c.loop-row.invariant.2,
    )

pub returns-in_err-answer_call : goal.returns-in_err-answer_call
returns-in_err-answer_call g c =
    let start = memory_of c.args.register.now in
    let p = err_from_is_err_and c.from_residual.result c.from_residual.ensures.1 in
    let done = c.in_err-answer_call.ensures in
    rw p.1 (record {
      lines = tt;
      left = tt;
      right = resumed_right g.S.Stage.can start.words [] (file_calls c.args.input.now) c.args.register.now.sound;
      words = done.words ∙ c.loop-row.invariant.1;
      bytes = done.bytes ∙ c.loop-row.invariant.2;
    })

pub returns : goal.returns
returns g c =
    let start = memory_of c.args.register.now in
    let end =
    no_more (desk g.S.Stage.can []) (string_bytes c.args.text.now) start c.args.input.now
    (string_bytes c.loop-row.text) (memory_of c.loop-row.register) c.loop-row.row-iterator.rest.now c.loop-row.invariant.0 c.in-None.ensures.steps.0
    in
    record {
      lines = end.0;
      left = end.1;
      right = resumed_right g.S.Stage.can start.words [] (file_calls c.args.input.now) c.args.register.now.sound;
      words = c.loop-row.invariant.1;
      bytes = c.loop-row.invariant.2;
    }
