use Rattle.std.proofs.Common.{sym, ◌∙◌, arith}
use Rattle.service.specs.Refusals.{refusal_number, refusal_place}
use Rattle.exports.proofs.Replies.{short_answer, called_taken, called_refused, few_refusals, bits_back, below_zero}
use Rattle.exports.proofs.answer_row.Goals as goal

pub returns-in-Ok : goal.returns-in-Ok
returns-in-Ok g c =
    let ws = c.args.memory.now in
    let lent = c.args.answer.now in
    let later = c.respond.new.memory in
    let bytes = c.respond.new.answer in
    let back = bits_back c.signed_length.result c.signed_length.type_inv in
    record {
      called = λ ready.
          let replied = c.in-Ok.ensures.replied ready.0 in
          let short = short_answer ws later c.args.row.now lent bytes ready c.in-Ok.long replied in
          called_taken ws later c.args.row.now lent bytes ready c.in-Ok.long _ replied (back ∙ c.signed_length.ensures.value (omega (arith, short.0, c.respond.auto.answer)) short.1);
      within = λ k e. c.signed_length.ensures.within k (sym back ∙ e);
      unfit = λ none. absurd (none (c.fits.ensures.yes c.if-not-fits.false));
      small = λ room less. absurd (omega (arith, c.if-answer-bytes_asked.false, c.bytes_asked.ensures.value));
    }

pub returns-in-Err : goal.returns-in-Err
returns-in-Err g c =
    let ws = c.args.memory.now in
    let e = c.in-Err.refusal in
    let told = bits_back c.signed_by.result c.signed_by.type_inv ∙ c.signed_by.ensures.value in
    record {
      called = λ ready.
          called_refused ws c.respond.new.memory c.args.row.now c.args.answer.now c.respond.new.answer ready e _ (c.in-Err.ensures.replied ready.0) told;
      within = λ k is. absurd (below_zero (refusal_number e) (refusal_place e) k (few_refusals e).0 (sym told ∙ is));
      unfit = λ none. absurd (none (c.fits.ensures.yes c.if-not-fits.false));
      small = λ room less. absurd (omega (arith, c.if-answer-bytes_asked.false, c.bytes_asked.ensures.value));
    }
