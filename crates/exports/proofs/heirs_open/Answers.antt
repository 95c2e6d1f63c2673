use Rattle.std.proofs.Common.{sym, refl, ap, ◌∙◌}
use Rattle.service.specs.Service.{left_by}
use Rattle.service.specs.Refusals.{refusal_number, refusal_place}
use Rattle.exports.specs.Results.{signed_opening}
use Rattle.exports.proofs.Replies.{few_refusals, bits_back, below_zero}
use Rattle.exports.proofs.heirs_open.Goals as goal

pub returns-in-Err : goal.returns-in-Err
returns-in-Err c =
    let e = c.in-Err.refusal in
    let opened = c.in-Err.ensures.opened in
    let told = bits_back c.signed_by.result c.signed_by.type_inv ∙ c.signed_by.ensures.value in
    record {
      left = opened.left ∙ ap (λ r. left_by r c.args.memory.now c.args.limit) opened.value;
      value = told ∙ ap signed_opening opened.value;
      said = refl;
      ready = λ is. absurd (below_zero (refusal_number e) (refusal_place e) 0 (few_refusals e).0 (sym told ∙ is));
    }
