use Rattle.std.proofs.Common.{◌≡◌, ℕ, ◌+◌, ◌-◌, ◌*◌, ◌≤◌, Bool, true, false, ◌&&◌, eqb, List, [], ◌∷◌, length, get_or, take, drop, sym, refl, ap, ◌∙◌, inl, inr, arith}
use lib.Pointwise.{pointwise}
use Rattle.std.proofs.lemmas.List.{drop_more}
use Rattle.law.specs.Family.{Person, person, children_in, children}
use Rattle.children.specs.Links.{first_of, last_of, behind}
use Rattle.people.specs.Layout.{family_in, count_in}
use Rattle.people.proofs.Layouts.{length-family, person_found}
use Rattle.people.specs.Persons.{law_person}
use Rattle.inspection.specs.Words.{links_at}
use Rattle.inspection.proofs.link_fits.Goals as goal

four_words :
    (ws : List ℕ) (at : ℕ) → at + 4 ≤ length ws →
    take (at + 4 - at) (drop at ws) ≡ get_or ws at 0 ∷ (get_or ws (at + 1) 0 ∷ (get_or ws (at + 2) 0 ∷ (get_or ws (at + 3) 0 ∷ [])))
four_words ws at room =
    let n : at + 4 - at ≡ 4 = omega arith in
    let to : (i : ℕ) → at + i + 1 ≡ at + (i + 1) = λ i. omega arith in
    let third = drop_more ws (at + 3) 0 (omega arith) in
    let second = drop_more ws (at + 2) 0 (omega arith) ∙ ap (λ r. get_or ws (at + 2) 0 ∷ r) (ap (λ i. drop i ws) (to 2) ∙ third) in
    let first = drop_more ws (at + 1) 0 (omega arith) ∙ ap (λ r. get_or ws (at + 1) 0 ∷ r) (ap (λ i. drop i ws) (to 1) ∙ second) in
    let all = drop_more ws at 0 (omega arith) ∙ ap (λ r. get_or ws at 0 ∷ r) first in
    λ i. take (n i) (all i)

four_tests : (a b c d : Bool) → (a && (b && (c && (d && true)))) ≡ ((a && b) && (c && d))
four_tests false b c d = refl
four_tests true false c d = refl
four_tests true true false d = refl
four_tests true true true false = refl
four_tests true true true true = refl

pub returns : goal.returns
returns c =
    let ws = c.args.memory.now in
    let f = family_in ws in
    let p = c.args.who in
    let at = links_at ws p in
    let l : count_in ws - 0 ≡ length f = omega (arith, length-family ws) in
    let q : law_person c.read-someone.result ≡ person f p = c.read-someone.ensures.value ∙ sym (person_found ws p c.requires.there) in
    let m = ap (λ (x : Person). x.mother) q in
    let d = ap (λ (x : Person). x.father) q in
    let place : c.links_at.result + 4 * p ≡ at = ap (λ k. k + 4 * p) c.links_at.ensures.value in
    let first = c.child_from.ensures.value ∙ ap (λ k. first_of (children_in f p k 0)) l in
    let of_mother = c.child_behind.ensures.value (inl (sym m)) ∙ ap (λ j. behind f j p) m in
    let of_father = c.child_behind-2.ensures.value (inr (sym d)) ∙ ap (λ j. behind f j p) d in
    let x = get_or ws at 0 in
    let y = get_or ws (at + 1) 0 in
    let z = get_or ws (at + 2) 0 in
    let w = get_or ws (at + 3) 0 in
    record {
      value = c.eq.ensures
          ∙ (λ i. pointwise eqb (take (place i + 4 - place i) (drop (place i) ws)) (first i ∷ (c.last_child.ensures.value i ∷ (of_mother i ∷ (of_father i ∷ [])))))
          ∙ ap (λ xs. pointwise eqb xs (first_of (children f p) ∷ (last_of (children f p) ∷ (behind f (person f p).mother p ∷ (behind f (person f p).father p ∷ [])))))
          (four_words ws at (omega (arith, c.requires.there)))
          ∙ four_tests (eqb x (first_of (children f p))) (eqb y (last_of (children f p))) (eqb z (behind f (person f p).mother p)) (eqb w (behind f (person f p).father p));
    }
