use Rattle.std.proofs.Common.{sym, refl, ◌∙◌, arith}
use Rattle.std.proofs.lemmas.Bool.{leb-true, leb-false}
use Rattle.law.specs.Calls.{common_multiple}
use Rattle.shares.specs.Parts.{lead_parts, whole_row}
use Rattle.shares.proofs.Multiples.{number_many, number_lead, word_some}
use Rattle.reasons.proofs.Wholes.{parts_of, length_whole, way_on, way_off, way_end}
use Rattle.reasons.proofs.whole_of.Goals as goal

pub returns-then-not-parts_fit : goal.returns-then-not-parts_fit
returns-then-not-parts_fit c =
    let ws = c.args.ways.now in
    let long = length_whole c.args.spouse c.args.up ws in
    let many = leb-false _ 4096 (sym c.parts_fit.ensures.value ∙ c.if-not-parts_fit.true) in
    record { value = sym (number_many (whole_row c.args.spouse c.args.up (parts_of ws)) (omega arith)) }

pub returns-in_err-number : goal.returns-in_err-number
returns-in_err-number c =
    record { value = c.from_residual.ensures ∙ sym (number_lead c.args.spouse c.args.up (parts_of c.args.ways.now) c.in_err-number.ensures.value) }

pub loop-way-init : goal.loop-way-init
loop-way-init c = (refl, (word_some (common_multiple (lead_parts c.args.spouse) 1) c.in_ok-number.number c.in_ok-number.ensures.value).some)

pub loop-way-preserved : goal.loop-way-preserved
loop-way-preserved c =
    way_on c.args.ways.now c.args.spouse c.args.up c.in_ok-number.number c.loop-way.way-index c.loop-way.number c.loop-way.invariant.0 c.way-item.result
    c.in_ok-number-2.number c.loop-way-test.true c.way-item.is c.in_ok-number-2.ensures.value

pub returns-in_err-number-2 : goal.returns-in_err-number-2
returns-in_err-number-2 c =
    record {
      value =
          c.from_residual-in_err-number-2.ensures
          ∙ sym (way_off c.args.ways.now c.args.spouse c.args.up c.in_ok-number.number c.loop-way.way-index c.loop-way.number c.loop-way.invariant.0 c.in_ok-number.ensures.value c.requires.some c.way-item.result c.loop-way-test.true c.way-item.is c.in_err-number-2.ensures.value);
    }

pub returns : goal.returns
returns c =
    let ws = c.args.ways.now in
    let long = length_whole c.args.spouse c.args.up ws in
    let few = leb-true _ 4096 (sym c.parts_fit.ensures.value ∙ c.if-not-parts_fit.false) in
    record {
      value =
          sym (way_end ws c.args.spouse c.args.up c.in_ok-number.number c.loop-way.way-index c.loop-way.number c.loop-way.invariant.0 c.in_ok-number.ensures.value c.requires.some c.loop-way-test.false c.loop-way.invariant.1 (omega arith));
    }
