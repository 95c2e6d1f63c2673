use Rattle.std.proofs.Common.{◌∙◌, arith}
use Rattle.exports.specs.Results.{signed_refusal}
use Rattle.exports.proofs.Replies.{few_refusals, bits_back}
use Rattle.exports.proofs.signed_by.Goals as goal

pub signed_refusal-requires : goal.signed_refusal-requires
signed_refusal-requires c = record { few = omega (arith, c.number.ensures, (few_refusals c.args.refusal).1) }

pub returns : goal.returns
returns c =
    record {
      value = bits_back c.signed_refusal.result c.signed_refusal.type_inv ∙ c.signed_refusal.ensures.value ∙ (λ i. signed_refusal (c.number.ensures i) (c.place.ensures i));
    }
