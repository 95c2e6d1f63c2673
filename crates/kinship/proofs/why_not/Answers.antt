use Rattle.std.proofs.Common.{◌≡◌, Bool, true, List, ◌<◌, length, vec_items, sym, ap, ◌∙◌, subst, ap₂, arith}
use Rattle.std.proofs.lemmas.List.{get_or-map, length-map}
use Rattle.law.specs.Family.{Person, person, nobody}
use Rattle.people.specs.Persons.{law_person}
use Rattle.ways.specs.Rows.{family_of, in_row}
use Rattle.reasons.proofs.KnownFamilies.{known_by}
use Rattle.kinship.specs.Forebears.{LinesTo}
use Rattle.kinship.specs.Causes.{order_in, cause_by, CauseHolds}
use Rattle.kinship.proofs.Kin.{nearest_is, cause_right, order_few}
use Rattle.kinship.proofs.why_not.Goals as goal

pub returns-in_default : goal.returns-in_default
returns-in_default c = record { holds = λ rk s there none. let size = length-map c.args.family.now law_person in let past = c.in_default.ensures.lookup in omega arith }

pub returns : goal.returns
returns c =
    record {
      holds = λ rk s there none.
          let f = family_of c.args.family.now in
          let d = c.args.decedent in
          let w = c.args.who in
          let size = length-map c.args.family.now law_person in
          let k = known_by c.args.family.now d rk c.deref.result.now (vec_items c.in_ok-lives.lives) s there c.deref.ensures.value c.in_ok-lives.ensures.value in
          let above = c.deref-2.result.now in
          let found = c.in-Some.ensures.lookup in
          let here : w < length c.args.family.now = omega arith in
          let to : LinesTo f w (in_row above) =
          subst (λ (row : List Bool). LinesTo f w (in_row row)) (sym c.deref-2.ensures.value) (c.in_ok-above.ensures.value rk s here) in
          let lives : (person f w).lives ≡ true =
          ap (λ (p : Person). p.lives) (get_or-map law_person c.args.family.now w c.in-Some.person.now nobody here ∙ ap law_person (sym found.1)) ∙ c.if-not-person.false in
          subst (CauseHolds f d w) (sym (c.cause_of.ensures.value ∙ ap₂ cause_by c.in_ok-inherits.ensures.value c.in_ok-nearest.ensures.value))
          (cause_right s d w c.if-who-decedent.false lives k (order_in (in_row above) f d) (nearest_is s d w c.if-who-decedent.false (in_row above) to) none (order_few (in_row above) f d));
    }
