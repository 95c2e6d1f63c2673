-- Spouses who answer. Assumes nothing.
use Rattle.std.proofs.Common.{◌≡◌, ℕ, zero, suc, ◌+◌, ◌-◌, ◌<◌, ◌≤◌, false, cond, eqb, ◌≢◌, List, [], ◌∷◌, length, get_or, set, Ok, Err, Result, sym, refl, ap, ◌∙◌, arith}
use Rattle.std.proofs.lemmas.List.{get_or_past, set_past}
use Rattle.std.proofs.lemmas.Bool.{eq-eqb, ne_eqb, cond-true, cond-false}
use Rattle.law.specs.Family as law
use Rattle.law.specs.Family.{person, nobody}
use Rattle.law.specs.Calls.{with_spouse}
use Rattle.people.specs.Persons.{law_person}
use Rattle.text.specs.declared.Member.{Member}
use Rattle.text.specs.Households.{persons_of}
use Rattle.text.specs.declared.Reason.{Reason}
use Rattle.text.specs.declared.Reason.TheVariants.{SecondSpouse}
use Rattle.text.specs.declared.Fault.{Fault}
use Rattle.text.specs.Reading.{fault, answered, agreed}

-- past the last person of the code stands nobody, too
abbrev pub nobody_there : Member
nobody_there = record { name = record { ref_ptr = (0, 0); now = [] }; person = record { mother = 0; father = 0; lives = false; spouse = 0 } }

pub person_there : (ms : List Member) (i : ℕ) → person (persons_of ms) i ≡ law_person (get_or ms i nobody_there).person
person_there [] i = refl
person_there (p ∷ ps) zero = refl
person_there (p ∷ ps) (suc i) = person_there ps i

module _ (f : law.Family) (i : ℕ) where
  -- what is said of a spouse who is named
  abbrev pub theirs : ℕ → Result law.Family Reason
  theirs s =
      cond (eqb (person f (s - 1)).spouse 0) (Ok (set f (s - 1) (with_spouse (person f (s - 1)) (suc i)))) (cond (eqb (person f (s - 1)).spouse (suc i)) (Ok f) (Err SecondSpouse))

  named : (person f i).spouse ≢ 0 → theirs (person f i).spouse ≡ answered f i
  unfolding answered
  named h = sym (cond-false (eqb (person f i).spouse 0) (Ok f) (theirs (person f i).spouse) (ne_eqb (person f i).spouse 0 h))

  pub answered_none : (person f i).spouse ≡ 0 → Ok f ≡ answered f i
  unfolding answered
  answered_none h = sym (cond-true (eqb (person f i).spouse 0) (Ok f) (theirs (person f i).spouse) (eq-eqb (person f i).spouse 0 h))

  pub answered_new : (s : ℕ) → (person f i).spouse ≡ s → s ≢ 0 → (person f (s - 1)).spouse ≡ 0 → Ok (set f (s - 1) (with_spouse (person f (s - 1)) (suc i))) ≡ answered f i
  answered_new s q h e =
      sym (cond-true (eqb (person f (s - 1)).spouse 0) (Ok (set f (s - 1) (with_spouse (person f (s - 1)) (suc i)))) _ (eq-eqb (person f (s - 1)).spouse 0 e))
      ∙ (ap theirs (sym q) ∙ named (λ z. h (sym q ∙ z)))

  pub answered_past : (s : ℕ) → (person f i).spouse ≡ s → s ≢ 0 → length f < s → Ok f ≡ answered f i
  answered_past s q h l =
      let past : length f ≤ s - 1 = omega arith in
      ap Ok (sym (set_past f (s - 1) (with_spouse (person f (s - 1)) (suc i)) past)) ∙ answered_new s q h (ap (λ (x : law.Person). x.spouse) (get_or_past f (s - 1) nobody past))

  pub answered_same : (s t : ℕ) → (person f i).spouse ≡ s → s ≢ 0 → (person f (s - 1)).spouse ≡ t → t ≢ 0 → t ≡ suc i → Ok f ≡ answered f i
  answered_same s t q h e n m =
      sym (cond-true (eqb (person f (s - 1)).spouse (suc i)) (Ok f) (Err SecondSpouse) (eq-eqb (person f (s - 1)).spouse (suc i) (e ∙ m)))
      ∙ (sym (cond-false (eqb (person f (s - 1)).spouse 0) (Ok (set f (s - 1) (with_spouse (person f (s - 1)) (suc i)))) _ (ne_eqb (person f (s - 1)).spouse 0 (λ z. n (sym e ∙ z))))
      ∙ (ap theirs (sym q) ∙ named (λ z. h (sym q ∙ z))))

  pub answered_other : (s t : ℕ) → (person f i).spouse ≡ s → s ≢ 0 → (person f (s - 1)).spouse ≡ t → t ≢ 0 → t ≢ suc i → Err SecondSpouse ≡ answered f i
  answered_other s t q h e n m =
      sym (cond-false (eqb (person f (s - 1)).spouse (suc i)) (Ok f) (Err SecondSpouse) (ne_eqb (person f (s - 1)).spouse (suc i) (λ z. m (sym e ∙ z))))
      ∙ (sym (cond-false (eqb (person f (s - 1)).spouse 0) (Ok (set f (s - 1) (with_spouse (person f (s - 1)) (suc i)))) _ (ne_eqb (person f (s - 1)).spouse 0 (λ z. n (sym e ∙ z))))
      ∙ (ap theirs (sym q) ∙ named (λ z. h (sym q ∙ z))))

-- one person more
agreed_at : (n i : ℕ) (f : law.Family) → i < n → agreed (n - i) i f ≡ elim (answered f i) [ Ok g ↦ agreed (n - (i + 1)) (i + 1) g | Err r ↦ Err (fault i r) ]
unfolding agreed
agreed_at n i f h =
    let turns : n - i ≡ suc (n - (i + 1)) = omega arith in
    let next : suc i ≡ i + 1 = omega arith in
    ap (λ (k : ℕ). agreed k i f) turns ∙ ap (λ (k : ℕ). elim (answered f i) [ Ok g ↦ agreed (n - (i + 1)) k g | Err r ↦ Err (fault i r) ]) next

module _ (n i : ℕ) (f : law.Family) (P : Result law.Family Fault) where
  pub agreed_more : (g : law.Family) → i < n → Ok g ≡ answered f i → agreed (n - i) i f ≡ P → agreed (n - (i + 1)) (i + 1) g ≡ P
  agreed_more g h e inv =
      ap (λ (x : Result law.Family Reason). elim x [ Ok y ↦ agreed (n - (i + 1)) (i + 1) y | Err r ↦ Err (fault i r) ]) e ∙ (sym (agreed_at n i f h) ∙ inv)

  pub agreed_fault : (r : Reason) → i < n → Err r ≡ answered f i → agreed (n - i) i f ≡ P → Err (fault i r) ≡ P
  agreed_fault r h e inv =
      ap (λ (x : Result law.Family Reason). elim x [ Ok y ↦ agreed (n - (i + 1)) (i + 1) y | Err q ↦ Err (fault i q) ]) e ∙ (sym (agreed_at n i f h) ∙ inv)

  pub agreed_all : n ≤ i → agreed (n - i) i f ≡ P → Ok f ≡ P
  unfolding agreed
  agreed_all h inv = let none : n - i ≡ 0 = omega arith in sym (ap (λ (k : ℕ). agreed k i f) none) ∙ inv
