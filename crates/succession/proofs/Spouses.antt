-- A living spouse, and the estate beside one. Assumes nothing.
use Rattle.std.proofs.Common.{◌≡◌, ℕ, suc, ◌-◌, Bool, true, false, cond, eqb, List, [], ◌∷◌, ◌++◌, Some, None, sym, refl, ap, ◌∙◌, ⊎_elim, arith, ◌<◌, ◌≤◌, ◌⊎◌, Option, MatchOption}
use Rattle.std.specs.Bool.{then_some}
use Rattle.std.proofs.lemmas.List.{append-nil}
use Rattle.std.proofs.lemmas.Bool.{cases_Bool, cond-true, cond-false, and_from, and_left, and_right, not_from_true, not_from_false, eq-eqb, ne_eqb}
use Rattle.law.specs.Family.{Family, Part, person, has_living_spouse, spouse_parts, repeated}
use Rattle.theory.specs.Decedent.{kept_order, kept_relatives, kept_estate}
use Rattle.amounts.specs.Estates.{relatives_number}
use Rattle.shares.specs.Parts.{whole_row}
use Rattle.succession.specs.Orders.{spouse_in}
use Rattle.succession.proofs.Inheriting.{relatives_none}

-- what is found of a spouse
pub spouse_none : (f : Family) (d : ℕ) → (person f d).spouse ≡ 0 → None ≡ spouse_in f d
spouse_none f d e =
    sym (cond-false (has_living_spouse f d) (Some ((person f d).spouse - 1)) None (and_left _ _ (not_from_true _ (eq-eqb (person f d).spouse 0 e))))

pub spouse_dead : (f : Family) (d w : ℕ) → (person f d).spouse ≡ suc w → (person f w).lives ≡ false → None ≡ spouse_in f d
spouse_dead f d w e h =
    let z : (person f d).spouse - 1 ≡ w = omega arith in
    sym (cond-false (has_living_spouse f d) (Some ((person f d).spouse - 1)) None (and_right _ _ (ap (λ i. (person f i).lives) z ∙ h)))

pub spouse_lives : (f : Family) (d w : ℕ) → (person f d).spouse ≡ suc w → (person f w).lives ≡ true → Some w ≡ spouse_in f d
spouse_lives f d w e h =
    let z : (person f d).spouse - 1 ≡ w = omega arith in
    ap (λ i. Some i) (sym z)
    ∙ sym (cond-true (has_living_spouse f d) (Some ((person f d).spouse - 1)) None
    (and_from _ _ (not_from_false _ (ne_eqb (person f d).spouse 0 (λ q. omega arith))) (ap (λ i. (person f i).lives) z ∙ h)))

-- the spouse who is found within the limit, where a test says who lives
pub spouse_found :
    (f : Family) (d limit link : ℕ) (o r : Option ℕ) {P : ℕ → Bool → Type 0} → link ≡ (person f d).spouse → link ≤ limit →
    MatchOption o ((link ≡ 0) ⊎ (limit < link)) (λ p. (link ≡ suc p) × (p < limit)) → MatchOption o (r ≡ None) (λ p. (b : Bool) × P p b × (r ≡ then_some b p)) →
    ((p : ℕ) (b : Bool) → p < limit → P p b → b ≡ (person f p).lives) → r ≡ spouse_in f d
spouse_found f d limit link None r is le met said says = said ∙ spouse_none f d (sym is ∙ ⊎_elim (λ z. z) (λ z. absurd (omega arith)) met)
spouse_found f d limit link (Some p) r is le met said says = said.2 ∙ go said.0 (says p said.0 met.1 said.1)
  where
    go : (b : Bool) → b ≡ (person f p).lives → then_some b p ≡ spouse_in f d
    go true e = spouse_lives f d p (sym is ∙ met.0) (sym e)
    go false e = spouse_dead f d p (sym is ∙ met.0) (sym e)

no_spouse : (f : Family) (d : ℕ) → None ≡ spouse_in f d → has_living_spouse f d ≡ false
no_spouse f d e =
    ⊎_elim (λ h. absurd (let w = e ∙ cond-true (has_living_spouse f d) (Some ((person f d).spouse - 1)) None h in let x : ◌≡◌ {A = ℕ} 0 1 = cc in omega arith)) (λ h. h)
    (cases_Bool (has_living_spouse f d))

some_spouse : (f : Family) (d w : ℕ) → Some w ≡ spouse_in f d → (has_living_spouse f d ≡ true) × (w ≡ (person f d).spouse - 1)
some_spouse f d w e =
    ⊎_elim (λ h. (h, let z = e ∙ cond-true (has_living_spouse f d) (Some ((person f d).spouse - 1)) None h in cc))
    (λ h. absurd (let z = e ∙ cond-false (has_living_spouse f d) (Some ((person f d).spouse - 1)) None h in let x : ◌≡◌ {A = ℕ} 0 1 = cc in omega arith))
    (cases_Bool (has_living_spouse f d))

-- the estate without a spouse
pub estate_alone : (f : Family) (d : ℕ) → None ≡ spouse_in f d → whole_row None 1 (kept_relatives f d 1) ≡ kept_estate f d
unfolding repeated
estate_alone f d e =
    append-nil (kept_relatives f d 1)
    ∙ sym (cond-false (has_living_spouse f d) _ (kept_relatives f d 1) (no_spouse f d e))

-- and beside one, by the order that inherits
by_order : Family → ℕ → ℕ → List Part
by_order f d o =
    cond (eqb o 1) (spouse_parts f d 4 ++ repeated 3 (kept_relatives f d 4)) (cond (eqb o 4) (spouse_parts f d 1) (spouse_parts f d 2 ++ kept_relatives f d 2))

beside : (f : Family) (d w o : ℕ) → Some w ≡ spouse_in f d → o ≡ kept_order f d → kept_estate f d ≡ by_order f d o
unfolding by_order
beside f d w o e is = cond-true (has_living_spouse f d) (by_order f d (kept_order f d)) (kept_relatives f d 1) (some_spouse f d w e).0 ∙ ap (by_order f d) (sym is)

lead_is : (f : Family) (d w b : ℕ) → Some w ≡ spouse_in f d → record { who = w; by = b } ∷ [] ≡ spouse_parts f d b
lead_is f d w b e = ap (λ i. record { who = i; by = b } ∷ []) (some_spouse f d w e).1

pub beside_nobody : (f : Family) (d w : ℕ) → Some w ≡ spouse_in f d → 4 ≡ kept_order f d → whole_row (Some (record { who = w; by = 1 })) 1 (kept_relatives f d 1) ≡ kept_estate f d
unfolding by_order repeated
beside_nobody f d w e is =
    ap (λ r. (record { who = w; by = 1 } ∷ []) ++ (r ++ [])) (relatives_none f d 1 is) ∙ lead_is f d w 1 e ∙ sym (beside f d w 4 e is)

beside_half : (f : Family) (d w o : ℕ) → Some w ≡ spouse_in f d → o ≡ kept_order f d → by_order f d o ≡ spouse_parts f d 2 ++ kept_relatives f d 2 →
    whole_row (Some (record { who = w; by = 2 })) 1 (kept_relatives f d 2) ≡ kept_estate f d
unfolding repeated
beside_half f d w o e is half = (λ i. lead_is f d w 2 e i ++ append-nil (kept_relatives f d 2) i) ∙ sym half ∙ sym (beside f d w o e is)

pub beside_parents : (f : Family) (d w : ℕ) → Some w ≡ spouse_in f d → 2 ≡ kept_order f d → whole_row (Some (record { who = w; by = 2 })) 1 (kept_relatives f d 2) ≡ kept_estate f d
unfolding by_order
beside_parents f d w e is = beside_half f d w 2 e is refl

pub beside_grandparents : (f : Family) (d w : ℕ) → Some w ≡ spouse_in f d → 3 ≡ kept_order f d → whole_row (Some (record { who = w; by = 2 })) 1 (kept_relatives f d 2) ≡ kept_estate f d
unfolding by_order
beside_grandparents f d w e is = beside_half f d w 3 e is refl

-- by how many the relatives go
pub number_some : (f : Family) (d : ℕ) → 0 < relatives_number f d
number_some f d = go (has_living_spouse f d) (eqb (kept_order f d) 1) (eqb (kept_order f d) 4)
  where
    go : (h x y : Bool) → 0 < cond h (cond x 4 (cond y 1 2)) 1
    go true true y = omega arith
    go true false true = omega arith
    go true false false = omega arith
    go false x y = omega arith
