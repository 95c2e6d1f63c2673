-- The row of parts of every estate is sound: it can be settled. Assumes nothing.
use Rattle.std.proofs.Common.{◌≡◌, ℕ, ◌≤◌, true, cond, eqb, ◌≢◌, List, ◌++◌, length, sym, ap, subst, inl, inr, ⊎_elim, arith}
use Rattle.std.proofs.lemmas.Bool.{cases_Bool, cases_eq, cond-false}
use Rattle.law.specs.Family.{Family, Part, order, relatives_parts, has_living_spouse, spouse_parts, repeated, estate}
use Rattle.law.specs.Calls.{common_multiple, divides_all, all_pieces}
use Rattle.theory.specs.Families.{WellFormed}
use Rattle.theory.proofs.Heirs.{estate_there}
use Rattle.theory.proofs.Multiples.{common_multiple_divides}
use Rattle.theory.proofs.Orders.{relatives_cases}
use Rattle.theory.proofs.Parts.{estate_adds, estate_positive}
use Rattle.shares.specs.Settling.{SoundRow}
use Rattle.shares.proofs.Settling.{nothing_divided}

-- where nobody inherits, there are no parts; else they are the estate
estate_le : (f : Family) (d n : ℕ) → WellFormed f → divides_all n (estate f d) ≡ true → all_pieces n (estate f d) ≤ n
unfolding all_pieces
estate_le f d n w h =
    elim (cases_Bool (has_living_spouse f d)) [
      | inl s ↦ let e = estate_adds w.ranked d n (λ _. s) h in omega arith
      | inr s ↦
          elim (cases_eq (order f d) 4) [
            | inl o ↦
                subst (λ (ps : List Part). all_pieces n ps ≤ n)
                (sym (cond-false (has_living_spouse f d) (cond (eqb (order f d) 1) (spouse_parts f d 4 ++ repeated 3 (relatives_parts f d 4)) (cond (eqb (order f d) 4) (spouse_parts f d 1) (spouse_parts f d 2 ++ relatives_parts f d 2))) (relatives_parts f d 1) s))
                (relatives_cases f d 1 (λ (ps : List Part). all_pieces n ps ≤ n) (λ e _. absurd (other 1 e o (omega arith))) (λ e _. absurd (other 2 e o (omega arith))) (λ e _. absurd (other 3 e o (omega arith)))
                (λ _. omega arith))
            | inr o ↦ let e = estate_adds w.ranked d n (λ k. absurd (o k)) h in omega arith
          ]
    ]
  where
    other : (k : ℕ) → order f d ≡ k → order f d ≡ 4 → k ≤ 3 → ⊥
    other k e o l = omega (arith, sym e, o)

pub estate_sound : (f : Family) (d : ℕ) → WellFormed f → SoundRow (length f) (estate f d)
estate_sound f d w =
    record {
      there = estate_there f d w;
      positive = estate_positive f d;
      within =
          ⊎_elim
          (λ (z : common_multiple (estate f d) 1 ≡ 0).
          let e = ap (λ n. all_pieces n (estate f d)) z in let none = nothing_divided (estate f d) in omega arith)
          (λ (z : common_multiple (estate f d) 1 ≢ 0). estate_le f d (common_multiple (estate f d) 1) w (common_multiple_divides (estate f d) 1 z).1) (cases_eq (common_multiple (estate f d) 1) 0);
    }
