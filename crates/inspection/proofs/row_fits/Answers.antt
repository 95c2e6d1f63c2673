use Rattle.std.proofs.Common.{◌≡◌, ◌+◌, ◌*◌, ◌-◌, ◌≤◌, true, false, ◌&&◌, leb, length, get_or, sym, ◌∙◌, subst, arith}
use Rattle.std.proofs.lemmas.Bool.{le-leb}
use Rattle.law.specs.Family.{person}
use Rattle.people.specs.Layout.{family_in, parents_fit, spouse_fits}
use Rattle.people.specs.Persons.{law_person}
use Rattle.people.proofs.Layouts.{person_found}
use Rattle.inspection.proofs.row_fits.Goals as goal

pub returns-then-parents_fit : goal.returns-then-parents_fit
returns-then-parents_fit c =
    let ws = c.args.memory.now in
    let f = family_in ws in
    let p = c.args.who in
    let q : law_person c.read-someone.result ≡ person f p = c.read-someone.ensures.value ∙ sym (person_found ws p c.requires.there) in
    let word : get_or ws (c.row_at.result + 2) 0 ≤ 1 = omega arith in
    let small : leb (get_or ws (2 + 4 * p + 2) 0) 1 ≡ true = le-leb _ 1 (subst (λ at. get_or ws (at + 2) 0 ≤ 1) c.row_at.ensures.value word) in
    let parents : parents_fit p (person f p).mother (person f p).father ≡ true =
    (λ i. parents_fit p (sym q i).mother (sym q i).father) ∙ sym c.parents_fit.ensures.value ∙ c.if-parents_fit.true in
    record {
      value = c.spouse_fits.ensures.value ∙ (λ i. spouse_fits (length f) p (q i).spouse (person f ((q i).spouse - 1)).spouse)
          ∙ (λ i. sym small i && (sym parents i && spouse_fits (length f) p (person f p).spouse (person f ((person f p).spouse - 1)).spouse));
    }

pub returns-else-parents_fit : goal.returns-else-parents_fit
returns-else-parents_fit c =
    let ws = c.args.memory.now in
    let f = family_in ws in
    let p = c.args.who in
    let q : law_person c.read-someone.result ≡ person f p = c.read-someone.ensures.value ∙ sym (person_found ws p c.requires.there) in
    let word : get_or ws (c.row_at.result + 2) 0 ≤ 1 = omega arith in
    let small : leb (get_or ws (2 + 4 * p + 2) 0) 1 ≡ true = le-leb _ 1 (subst (λ at. get_or ws (at + 2) 0 ≤ 1) c.row_at.ensures.value word) in
    let parents : parents_fit p (person f p).mother (person f p).father ≡ false =
    (λ i. parents_fit p (sym q i).mother (sym q i).father) ∙ sym c.parents_fit.ensures.value ∙ c.if-parents_fit.false in
    record {
      value = c.if-parents_fit.false
          ∙ (λ i. sym small i && (sym parents i && spouse_fits (length f) p (person f p).spouse (person f ((person f p).spouse - 1)).spouse));
    }
