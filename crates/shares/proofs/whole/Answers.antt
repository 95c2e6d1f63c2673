-- The number of the parts so far is brought over each part that is left, or there is none. Assumes nothing.
use Rattle.std.proofs.Common.{sym, ◌∙◌, arith}
use Rattle.law.specs.Calls.{common_multiple}
use Rattle.shares.specs.Parts.{law_part, lead_parts, whole_row}
use Rattle.shares.specs.Work.{parts_in}
use Rattle.shares.proofs.Multiples.{length-row, multiple_lead, number_lead, number_many, number_some, row_end, row_off, row_on, word_some}
use Rattle.shares.proofs.whole.Goals as goal

pub returns-then-parts_listed-from : goal.returns-then-parts_listed-from
returns-then-parts_listed-from c =
    let ps = parts_in c.args.work.now 0 c.args.count in
    let row = whole_row c.args.lead c.args.times ps in
    let listed = length-row c.args.work.now c.args.lead c.args.times c.args.count in
    record { value = sym (number_many row (omega arith)) }

pub returns-in_err-number : goal.returns-in_err-number
returns-in_err-number c =
    let ps = parts_in c.args.work.now 0 c.args.count in
    record { value = c.from_residual.ensures ∙ sym (number_lead c.args.lead c.args.times ps c.in_err-number.ensures.value) }

pub returns-then-times-eq0 : goal.returns-then-times-eq0
returns-then-times-eq0 c =
    let ps = parts_in c.args.work.now 0 c.args.count in
    let row = whole_row c.args.lead c.args.times ps in
    let n = c.in_ok-number.number in
    let listed = length-row c.args.work.now c.args.lead c.args.times c.args.count in
    let first = c.in_ok-number.ensures.value in
    record {
      value =
          sym (number_some row n (omega arith) (multiple_lead c.args.lead c.args.times ps n first c.if-times-eq0.true) (word_some (common_multiple (lead_parts c.args.lead) 1) n first).some);
    }

pub returns-in_err-number-2 : goal.returns-in_err-number-2
returns-in_err-number-2 c =
    record {
      value =
          c.from_residual-in_err-number-2.ensures
          ∙ sym (row_off c.args.work.now c.args.lead c.args.times c.args.count c.in_ok-number.number c.loop-i.i c.loop-i.number c.loop-i.invariant.0 c.in_ok-number.ensures.value c.if-times-eq0.false (law_part c.part_at.result) c.part_at.ensures.value c.loop-i-test.true c.in_err-number-2.ensures.value);
    }

pub loop-i-preserved : goal.loop-i-preserved
loop-i-preserved c =
    row_on c.args.work.now c.args.lead c.args.times c.args.count c.in_ok-number.number c.loop-i.i c.loop-i.number c.loop-i.invariant.0
    (law_part c.part_at.result) c.in_ok-number-2.number c.part_at.ensures.value c.loop-i-test.true c.in_ok-number-2.ensures.value

pub returns : goal.returns
returns c =
    let listed = length-row c.args.work.now c.args.lead c.args.times c.args.count in
    record {
      value =
          sym (row_end c.args.work.now c.args.lead c.args.times c.args.count c.in_ok-number.number c.loop-i.i c.loop-i.number c.loop-i.invariant.0 c.in_ok-number.ensures.value c.if-times-eq0.false c.loop-i-test.false c.loop-i.invariant.1 (omega arith));
    }
