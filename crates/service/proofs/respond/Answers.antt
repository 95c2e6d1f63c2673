use Rattle.std.proofs.Common.{sym, ap, ◌∙◌, subst, Err}
use Rattle.std.proofs.lemmas.Result.{err_from_is_err_and}
use Rattle.wire.specs.Bytes.{read}
use Rattle.service.specs.Service.{Replied}
use Rattle.service.proofs.Births.{unreadable_refused}
use Rattle.service.proofs.Estates.{refused_replied}
use Rattle.service.proofs.respond.Goals as goal

pub returns-in_err-request : goal.returns-in_err-request
returns-in_err-request g c =
    let can = g.S.Stage.can in
    let ws = c.args.memory.now in
    let lent = c.args.answer.now in
    let p = err_from_is_err_and c.from_residual.result c.from_residual.ensures.1 in
    record {
      replied = λ ok.
          subst (λ r. Replied can ws ws (read c.args.row.now) lent lent r) (sym (p.1 ∙ ap Err p.2))
          (refused_replied can _ _ _ _ _ (unreadable_refused can ws _ _ ok c.in_err-request.ensures.value));
    }
