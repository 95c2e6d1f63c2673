use Rattle.std.proofs.Common.{◌≡◌, ◌++◌, vec_items, sym, ap, ◌∙◌, subst}
use Rattle.law.specs.Family.{estate}
use Rattle.shares.specs.Parts.{dividable, number_of}
use Rattle.ways.specs.Ways.{relatives_ways, kin_ways}
use Rattle.ways.specs.Going.{Beyond, family_in}
use Rattle.ways.specs.Rows.{law_ways}
use Rattle.ways.proofs.Going.{refused_by, handed_on}
use Rattle.reasons.proofs.Orders.{lines_order}
use Rattle.reasons.proofs.Wholes.{number_there, number_missing}
use Rattle.reasons.proofs.Beside.{Parted, parted, parted_beyond, parted_row}
use Rattle.reasons.proofs.estate_of.Goals as goal

pub returns-in_err-relatives : goal.returns-in_err-relatives
returns-in_err-relatives c =
    record {
      value = λ rk k.
          let f = family_in c.args.descent.now in
          let d = c.args.descent.now.decedent in
          let b = c.beside_spouse-beside.result in
          let p : Parted f d b =
          parted f d c.order_of.result c.living_spouse-spouse.result b c.living_spouse-spouse.ensures.value
          (c.order_of.ensures.value ∙ sym (lines_order k c.in_ok-lines.lines c.in_ok-lines.ensures.value)) c.beside_spouse-beside.ensures.numbers in
          handed_on c.from_residual-in_err-relatives.result _ (Beyond (law_ways (vec_items c.new-ways.result)) (relatives_ways f d b.by)) _ c.in_err-relatives.field-0.0
          c.from_residual-in_err-relatives.ensures.1
          (λ h. parted_beyond p (subst (λ r. Beyond r (relatives_ways f d b.by)) (ap law_ways c.new-ways.ensures.items) h))
          (c.in_err-relatives.ensures.put rk k c.in_ok-lines.ensures.value);
    }

pub returns-in_err-whole : goal.returns-in_err-whole
returns-in_err-whole c =
    record {
      value = λ rk k.
          let f = family_in c.args.descent.now in
          let d = c.args.descent.now.decedent in
          let b = c.beside_spouse-beside.result in
          let p : Parted f d b =
          parted f d c.order_of.result c.living_spouse-spouse.result b c.living_spouse-spouse.ensures.value
          (c.order_of.ensures.value ∙ sym (lines_order k c.in_ok-lines.lines c.in_ok-lines.ensures.value)) c.beside_spouse-beside.ensures.numbers in
          let went : law_ways (vec_items c.relatives.new.ways) ≡ kin_ways f d =
          c.in_ok-relatives.ensures.put rk k c.in_ok-lines.ensures.value
          ∙ ap (λ r. r ++ relatives_ways f d b.by) (ap law_ways c.new-ways.ensures.items)
          ∙ p.kin in
          let row = parted_row p (law_ways c.deref.result.now) (ap law_ways c.deref.ensures.value ∙ went) in
          handed_on c.from_residual-in_err-whole.result _ (dividable (estate f d) ≡ _) _ c.in_err-whole.field-0.0 c.from_residual-in_err-whole.ensures.1 (λ h. h)
          (refused_by _ c.in_err-whole.field-0.0 (number_missing (estate f d) (sym c.in_err-whole.ensures.ok_part ∙ c.whole_of.ensures.value ∙ ap number_of row)));
    }

pub returns : goal.returns
returns c =
    record {
      value = λ rk k.
          let f = family_in c.args.descent.now in
          let d = c.args.descent.now.decedent in
          let b = c.beside_spouse-beside.result in
          let p : Parted f d b =
          parted f d c.order_of.result c.living_spouse-spouse.result b c.living_spouse-spouse.ensures.value
          (c.order_of.ensures.value ∙ sym (lines_order k c.in_ok-lines.lines c.in_ok-lines.ensures.value)) c.beside_spouse-beside.ensures.numbers in
          let went : law_ways (vec_items c.relatives.new.ways) ≡ kin_ways f d =
          c.in_ok-relatives.ensures.put rk k c.in_ok-lines.ensures.value
          ∙ ap (λ r. r ++ relatives_ways f d b.by) (ap law_ways c.new-ways.ensures.items)
          ∙ p.kin in
          let row = parted_row p (law_ways c.deref.result.now) (ap law_ways c.deref.ensures.value ∙ went) in
          let there = number_there (estate f d) c.in_ok-whole.whole (sym c.in_ok-whole.ensures.ok_part ∙ c.whole_of.ensures.value ∙ ap number_of row) in
          record { spouse = p.lead; up = p.times; ways = went; within = there.0; whole = there.1 };
    }
