-- Which order inherits, and what its parts are. Assumes nothing.
use Rattle.std.proofs.Common.{◌≡◌, ℕ, ◌<◌, ◌*◌, false, cond, eqb, List, [], ◌∷◌, length, filter, sym, ap, ◌∙◌, arith}
use Rattle.std.specs.List.{flat_map}
use Rattle.std.proofs.lemmas.Bool.{cond-true, cond-false, not_from_true, not_from_false, eq-eqb, ne_eqb}
use Rattle.law.specs.Family.{Family, Part, parents, line_parts, couple_parts}
use Rattle.theory.specs.Living.{alive}
use Rattle.theory.specs.Decedent.{kept_sides, kept_order, kept_relatives}
use Rattle.amounts.specs.Lines.{couple_starts, kept_starts}
use Rattle.succession.specs.Starts.{sides_starts}

module _ (f : Family) (d : ℕ) where
  pub order_second : alive f d ≡ false → 0 < length (filter (alive f) (parents f d)) → 2 ≡ kept_order f d
  order_second dead some =
      sym (cond-false {A = ℕ} (alive f d) 1 _ dead ∙ cond-true {A = ℕ} _ 2 _ (not_from_false _ (ne_eqb (length (filter (alive f) (parents f d))) 0 (λ e. omega arith))))

  pub order_third : alive f d ≡ false → length (filter (alive f) (parents f d)) ≡ 0 → 0 < length (kept_sides f d) → 3 ≡ kept_order f d
  order_third dead none some =
      sym (cond-false {A = ℕ} (alive f d) 1 _ dead ∙ cond-false {A = ℕ} _ 2 _ (not_from_true _ (eq-eqb (length (filter (alive f) (parents f d))) 0 none))
      ∙ cond-true {A = ℕ} _ 3 4 (not_from_false _ (ne_eqb (length (kept_sides f d)) 0 (λ e. omega arith))))

  pub order_nobody : alive f d ≡ false → length (filter (alive f) (parents f d)) ≡ 0 → length (kept_sides f d) ≡ 0 → 4 ≡ kept_order f d
  order_nobody dead none no-side =
      sym (cond-false {A = ℕ} (alive f d) 1 _ dead ∙ cond-false {A = ℕ} _ 2 _ (not_from_true _ (eq-eqb (length (filter (alive f) (parents f d))) 0 none))
      ∙ cond-false {A = ℕ} _ 3 4 (not_from_true _ (eq-eqb (length (kept_sides f d)) 0 no-side)))

  -- by the order that inherits
  relatives_by : ℕ → ℕ → List Part
  relatives_by b o =
      cond (eqb o 1) (line_parts f (length f) d b)
      (cond (eqb o 2) (couple_parts f (length f) (parents f d) b)
      (cond (eqb o 3) (flat_map (λ p. couple_parts f (length f) (parents f p) (b * length (kept_sides f d))) (kept_sides f d)) []))

  pub relatives_none : (b : ℕ) → 4 ≡ kept_order f d → kept_relatives f d b ≡ []
  unfolding relatives_by
  relatives_none b e = ap (relatives_by b) (sym e)

  starts_by : ℕ → ℕ → List Part
  starts_by b o = cond (eqb o 1) (record { who = d; by = b } ∷ []) (cond (eqb o 2) (couple_starts f (parents f d) b) (cond (eqb o 3) (sides_starts f (parents f d) b) []))

  pub starts_second : (b : ℕ) → 2 ≡ kept_order f d → kept_starts f d b ≡ couple_starts f (parents f d) b
  unfolding starts_by
  starts_second b e = ap (starts_by b) (sym e)

  pub starts_third : (b : ℕ) → 3 ≡ kept_order f d → kept_starts f d b ≡ sides_starts f (parents f d) b
  unfolding starts_by
  starts_third b e = ap (starts_by b) (sym e)
