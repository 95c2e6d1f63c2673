-- What a call leaves and answers, from what it does with the words: a refusal, and an acceptance. Assumes nothing.
use Rattle.std.proofs.Common.{◌≡◌, ℕ, ◌<◌, ◌≤◌, Bool, true, false, eqb, List, length, sym, refl, ap, ◌∙◌, subst, arith}
use Rattle.std.proofs.lemmas.Bool.{eq-eqb, ne_eqb, cond-true, cond-false}
use Rattle.law.specs.Family.{Family}
use Rattle.law.specs.Calls.{Call, refused, refusal, place, after, changed}
use Rattle.people.specs.Layout.{image, limit_in, count_in, family_in, rest_in, Valid, Sound}
use Rattle.people.proofs.Layouts.{length-image, limit_image, count_image, family_image, rest_image}
use Rattle.theory.specs.Answers.{answer_taken}
use Rattle.service.specs.Desks.{limits_of, state}
use Rattle.service.specs.Service.{Served}

-- the memory of a valid family is sound
pub sound_image : (n : ℕ) (f : Family) (rest ws : List ℕ) → n ≤ 4096 → length f ≤ n → Valid f → ws ≡ image n f rest → Sound ws
sound_image n f rest ws most room ok w =
    let limit : limit_in (image n f rest) ≡ n = limit_image n f rest in
    let count : count_in (image n f rest) ≡ length f = count_image n f rest in
    let family : family_in (image n f rest) ≡ f = family_image n f rest room in
    let behind : rest_in (image n f rest) ≡ rest = rest_image n f rest in
    let long = length-image n f rest in
    subst Sound (sym w) (
      (λ i. image (sym limit i) (sym family i) (sym behind i)),
      (omega arith, omega arith, omega arith),
      subst Valid (sym family) ok,
    )

-- a call that is turned away leaves the words as they were
pub refusal_served :
    (can : ℕ → Bool) (ws : List ℕ) (c : Call) (t p : ℕ) → Sound ws → refusal (limits_of can (limit_in ws)) (family_in ws) c ≡ t → 0 < t → place c ≡ p → Served can ws ws c (refused t p)
refusal_served can ws c t p ok e pos at =
    let l = limits_of can (limit_in ws) in
    let f = family_in ws in
    let turned : eqb (refusal l f c) 0 ≡ false = ne_eqb (refusal l f c) 0 (omega arith) in
    let same : after l f c ≡ f = cond-false _ _ _ turned in
    record {
      left = ap state ok.0 ∙ ap (λ g. state (image (limit_in ws) g (rest_in ws))) (sym same);
      said = sym (cond-false _ _ _ turned ∙ (λ i. refused (e i) (at i)));
      sound = ok;
      limit = refl;
    }

-- a call that is taken leaves the memory of the changed family
pub taken_served :
    (can : ℕ → Bool) (ws later : List ℕ) (c : Call) → Sound ws → refusal (limits_of can (limit_in ws)) (family_in ws) c ≡ 0 → length (changed (family_in ws) c) ≤ limit_in ws →
    Valid (changed (family_in ws) c) → later ≡ image (limit_in ws) (changed (family_in ws) c) (rest_in ws) → Served can ws later c (answer_taken (family_in ws) c)
taken_served can ws later c ok e room valid w =
    let l = limits_of can (limit_in ws) in
    let f = family_in ws in
    let taken : eqb (refusal l f c) 0 ≡ true = eq-eqb (refusal l f c) 0 e in
    let same : after l f c ≡ changed f c = cond-true _ _ _ taken in
    record {
      left = ap state w ∙ ap (λ g. state (image (limit_in ws) g (rest_in ws))) (sym same);
      said = sym (cond-true _ _ _ taken);
      sound = sound_image (limit_in ws) (changed f c) (rest_in ws) later ok.1.2 room valid w;
      limit = ap limit_in w ∙ limit_image (limit_in ws) (changed f c) (rest_in ws);
    }
