use Rattle.std.proofs.Common.{sym, ◌∙◌}
use Rattle.service.proofs.Stages.{stage_replied, not_taken}
use Rattle.service.proofs.serve.Goals as goal

pub returns-then-not-takes : goal.returns-then-not-takes
returns-then-not-takes g c =
    record {
      replied = λ ok. not_taken g.S.Stage.can c.args.memory.now c.args.answer.now c.args.request ok (sym c.takes.ensures ∙ c.if-not-takes.true);
    }

pub returns : goal.returns
returns g c =
    record {
      replied = λ ok. stage_replied g.S.Stage.can _ _ _ _ _ (sym c.takes.ensures ∙ c.if-not-takes.false) _ (c.take.ensures.replied ok);
    }
