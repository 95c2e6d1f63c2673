use Rattle.std.proofs.Common.{◌≡◌, ◌+◌, ◌-◌, ◌*◌, ◌<◌, ◌++◌, length, Some, None, sym, ap, ◌∙◌, subst, arith}
use Rattle.std.specs.List.{AllByRecursion}
use Rattle.std.proofs.lemmas.Bool.{cond-false}
use Rattle.law.specs.Family.{Part}
use Rattle.law.specs.Calls.{pieces}
use Rattle.rows.proofs.Written.{get_or-put_before}
use Rattle.theory.specs.Decedent.{kept_estate}
use Rattle.theory.proofs.Shares.{pieces_past}
use Rattle.bits.specs.Sets.{no_member}
use Rattle.people.specs.Layout.{working, limit_in, count_in}
use Rattle.people.proofs.Layouts.{limit_working, count_working}
use Rattle.shares.specs.Parts.{lead_parts, dividable}
use Rattle.shares.specs.Work.{no_pieces, has_pieces, divided}
use Rattle.shares.proofs.Settling.{not_divided, settled_some}
use Rattle.amounts.specs.Estates.{relatives_number, estate_starts}
use Rattle.amounts.proofs.Orders.{kept_starts_few}
use Rattle.estates.specs.Passing.{spare_zeros, amounts_by, EstateDivided}
use Rattle.estates.proofs.Areas.{none_divided, handed_on, put_back}
use Rattle.estates.proofs.Shares.{row_sound, row_within, pieces_small, pieces_sum, lead_there}
use Rattle.estates.proofs.write_answer.Goals as goal

pub returns-in_err-number-clause-answered : goal.returns-in_err-number-clause-answered
returns-in_err-number-clause-answered c n f d rest done t lead =
    let ws = c.args.memory.now in
    let none : EstateDivided n f d rest ws None = subst (λ r. EstateDivided n f d rest ws r) c.in_err-number.was done in
    let no = not_divided (kept_estate f d) none.number in
    record {
      left = none.words ∙ ap (λ a. working n f a rest) (none_divided n (estate_starts f d) (spare_zeros n));
      said = sym (cond-false (dividable (kept_estate f d)) _ c.args.answer.now no);
      next = c.from_residual.ensures ∙ sym (cond-false (dividable (kept_estate f d)) _ None no);
    }

pub returns : goal.returns
returns c =
    let ws = c.args.memory.now in
    let at = c.work_at-at.result in
    let begins = c.work_at-at.ensures.value in
    let number = c.in_ok-number.number in
    record {
      limit = get_or-put_before at (length ws - at) 0 ws c.write_shares.new.work 0 (omega arith) (omega arith);
      count = get_or-put_before at (length ws - at) 1 ws c.write_shares.new.work 0 (omega arith) (omega arith);
      answered = λ n f d rest done t lead.
          let some : EstateDivided n f d rest ws (Some number) = subst (λ r. EstateDivided n f d rest ws r) c.in_ok-number.was done in
          let ss = estate_starts f d in
          let row = kept_estate f d in
          let amounts = amounts_by n f d (Some number) in
          let spare = spare_zeros n in
          let area = divided n ss amounts spare in
          let l = ap limit_in some.words ∙ limit_working n f area rest in
          let k : count_in ws ≡ length f = ap count_in some.words ∙ count_working n f area rest in
          let start : at ≡ 130 + 8 * n = omega arith in
          let few = kept_starts_few f d (relatives_number f d) in
          let room = t.room in
          let there : AllByRecursion (λ (q : Part). q.who < count_in ws) row = subst (λ m. AllByRecursion (λ (q : Part). q.who < m) row) (sym k) (row_sound f n d t).there in
          let written =
          c.write_shares.ensures.shares n ss (pieces number row) (spare ++ rest)
          (c.add_first.ensures.left n ss amounts (pieces number row) (spare ++ rest)
          (record { words = handed_on n f ss spare rest (has_pieces amounts) amounts ws at some.words start; few = omega arith; within = omega arith })
          (subst (λ m. AllByRecursion (λ (q : Part). q.who < m) (lead_parts c.args.lead)) (sym k) (lead_there f n d number t some.number (lead_parts c.args.lead) lead))
          (pieces_sum f n d number t some.number (lead_parts c.args.lead) lead) (pieces_small f n d number t some.number)) (λ w h. pieces_past (count_in ws) number w row there h) in
          let settled =
          settled_some n ss (spare ++ rest) (count_in ws) row number c.write_shares.new.work c.args.answer.now c.write_shares.new.answer c.write_shares.result some.number there (λ _. written)
          (row_within f n d number t some.number) in
          record {
            left = put_back n f ss spare rest (has_pieces amounts) amounts ws at some.words start no_member no_pieces c.write_shares.new.work settled.left;
            said = settled.said;
            next = settled.next;
          };
    }
