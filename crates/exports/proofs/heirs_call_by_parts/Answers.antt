use Rattle.std.proofs.Common.{sym, ◌∙◌, subst}
use Rattle.wire.specs.Bytes.{read}
use Rattle.exports.specs.Results.{Called, Untouched}
use Rattle.exports.proofs.Replies.{bits_back}
use Rattle.exports.proofs.heirs_call_by_parts.Goals as goal

pub returns : goal.returns
returns c =
    let ws = c.args.memory.now in
    let lent = c.args.answer.now in
    let later = c.answer_row.new.memory in
    let bytes = c.answer_row.new.answer in
    let told = c.answer_row.ensures in
    let back = bits_back c.answer_row.result c.answer_row.type_inv in
    record {
      called = λ ready. subst (λ z. Called ws later (read c.args.row.now) lent bytes z) (sym back) (told.called ready);
      within = λ k e. told.within k (sym back ∙ e);
      unfit = λ none. subst (λ z. Untouched ws later lent bytes z 7 0) (sym back) (told.unfit none);
      small = λ room less. subst (λ z. Untouched ws later lent bytes z 3 1) (sym back) (told.small room less);
    }
