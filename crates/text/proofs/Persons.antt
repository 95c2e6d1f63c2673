-- The persons of lines, one after the other. Assumes nothing.
use Rattle.std.proofs.Common.{◌≡◌, ℕ, ◌+◌, ◌<◌, ◌≤◌, Bool, true, false, not, ◌&&◌, eqb, ◌≢◌, List, [], ◌∷◌, ◌++◌, length, get_or, drop, Ok, Err, Result, sym, refl, ap, ◌∙◌}
use Rattle.std.proofs.lemmas.List.{drop_more, drop_all}
use Rattle.std.proofs.lemmas.Bool.{cond-true, cond-false, and_from, eq-eqb, ne_eqb}
use Rattle.law.specs.Family.{Person, Family}
use Rattle.lines.specs.Grammar.{Line}
use Rattle.text.specs.declared.Reason.{Reason}
use Rattle.text.specs.declared.Reason.TheVariants.{SameParents}
use Rattle.text.specs.declared.Fault.{Fault}
use Rattle.text.specs.Reading.{fault, person_with, person_made, person_of, persons_in}

-- whether a mother who is known is the father
pub one_person : (a b : ℕ) → a ≢ 0 → a ≡ b → true ≡ (not (eqb a 0) && eqb a b)
one_person a b h e = sym (and_from (not (eqb a 0)) (eqb a b) (ap not (ne_eqb a 0 h)) (eq-eqb a b e))

pub other_persons : (a b : ℕ) → a ≢ b → false ≡ (not (eqb a 0) && eqb a b)
other_persons a b h = by (eqb a 0) (eqb a b) (ne_eqb a b h) where
  by : (s t : Bool) → t ≡ false → false ≡ (not s && t)
  by true t e = refl
  by false t e = sym e

pub no_person : (a b : ℕ) → a ≡ 0 → false ≡ (not (eqb a 0) && eqb a b)
no_person a b e = sym (ap (λ (s : Bool). not s && eqb a b) (eq-eqb a 0 e))

-- what parents and a spouse make
module _ (m f s : Result ℕ Reason) (died : Bool) where
  pub no_mother : (r : Reason) → Err r ≡ m → Err r ≡ person_made m f died s
  no_mother r e = ap (λ (x : Result ℕ Reason). person_made x f died s) e

  pub no_father : (r : Reason) (a : ℕ) → Ok a ≡ m → Err r ≡ f → Err r ≡ person_made m f died s
  no_father r a e g = (λ i. person_made (e i) (g i) died s)

  pub one_parent : (a b : ℕ) → Ok a ≡ m → Ok b ≡ f → true ≡ (not (eqb a 0) && eqb a b) → Err SameParents ≡ person_made m f died s
  one_parent a b e g t = sym (cond-true (not (eqb a 0) && eqb a b) (Err SameParents) (person_with a b died s) (sym t)) ∙ (λ i. person_made (e i) (g i) died s)

  pub with_parents : (a b : ℕ) (t : Result ℕ Reason) → Ok a ≡ m → Ok b ≡ f → false ≡ (not (eqb a 0) && eqb a b) → t ≡ s → person_with a b died t ≡ person_made m f died s
  with_parents a b t e g n q =
      ap (person_with a b died) q ∙ (sym (cond-false (not (eqb a 0) && eqb a b) (Err SameParents) (person_with a b died s) (sym n)) ∙ (λ i. person_made (e i) (g i) died s))

-- one line more
persons_at : (ns : List (List ℕ)) (ls : List Line) (f : Family) (i : ℕ) (d : Line) → i < length ls
    → persons_in ns (drop i ls) f ≡ elim (person_of ns (length f) (get_or ls i d)) [ Ok p ↦ persons_in ns (drop (i + 1) ls) (f ++ (p ∷ [])) | Err r ↦ Err (fault (length f) r) ]
unfolding persons_in
persons_at ns ls f i d h = ap (λ (xs : List Line). persons_in ns xs f) (drop_more ls i d h)

module _ (ns : List (List ℕ)) (ls : List Line) (f : Family) (i : ℕ) (P : Result Family Fault) where
  pub persons_more : (d : Line) (p : Person) → i < length ls → length f ≡ i → Ok p ≡ person_of ns i (get_or ls i d) → persons_in ns (drop i ls) f ≡ P →
      persons_in ns (drop (i + 1) ls) (f ++ (p ∷ [])) ≡ P
  persons_more d p h n e inv =
      ap (λ (x : Result Person Reason). elim x [ Ok q ↦ persons_in ns (drop (i + 1) ls) (f ++ (q ∷ [])) | Err r ↦ Err (fault (length f) r) ])
      (e ∙ ap (λ (k : ℕ). person_of ns k (get_or ls i d)) (sym n)) ∙ (sym (persons_at ns ls f i d h) ∙ inv)

  pub persons_fault : (d : Line) (r : Reason) → i < length ls → length f ≡ i → Err r ≡ person_of ns i (get_or ls i d) → persons_in ns (drop i ls) f ≡ P → Err (fault i r) ≡ P
  persons_fault d r h n e inv =
      ap (λ (k : ℕ). Err (fault k r)) (sym n)
      ∙ (ap (λ (x : Result Person Reason). elim x [ Ok q ↦ persons_in ns (drop (i + 1) ls) (f ++ (q ∷ [])) | Err y ↦ Err (fault (length f) y) ])
      (e ∙ ap (λ (k : ℕ). person_of ns k (get_or ls i d)) (sym n)) ∙ (sym (persons_at ns ls f i d h) ∙ inv))

  pub persons_all : length ls ≤ i → persons_in ns (drop i ls) f ≡ P → Ok f ≡ P
  unfolding persons_in
  persons_all h inv = sym (ap (λ (xs : List Line). persons_in ns xs f) (drop_all i ls h)) ∙ inv
