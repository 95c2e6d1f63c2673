-- Upward along a list: what holds of everybody's number, if it follows from the numbers of those below. Assumes nothing.
use Rattle.std.proofs.Common.{◌≡◌, ℕ, ◌<◌, true, false, List, [], ◌∷◌, length, get_or, set, sym, refl, ap, ◌∙◌, ⊎_elim, arith}
use Rattle.std.specs.List.{AllByRecursion}
use Rattle.std.proofs.lemmas.List.{length-set, get_or-set_same, get_or-set_other}
use Rattle.std.proofs.ByRecursion.{All-weaker}
use Rattle.std.proofs.lemmas.Bool.{cases_eq}
use Rattle.amounts.specs.Passes.{is_in, InDescentOrder, filled_up}
use Rattle.amounts.proofs.Members.{in_none, in_cases, in_not, out_parts}

module _ (step : List ℕ → List ℕ → ℕ) (below : ℕ → List ℕ) where
  pub length-filled : (os row : List ℕ) → length (filled_up step below os row) ≡ length row
  unfolding filled_up
  length-filled [] row = refl
  length-filled (q ∷ qs) row = length-set (filled_up step below qs row) q (step (below q) (filled_up step below qs row)) ∙ length-filled qs row

  -- who is not in the list keeps their number
  pub filled_other : (os row : List ℕ) (w : ℕ) → is_in w os ≡ false → get_or (filled_up step below os row) w 0 ≡ get_or row w 0
  unfolding filled_up
  filled_other [] row w h = refl
  filled_other (q ∷ qs) row w h =
      let r = out_parts w q qs h in
      get_or-set_other (filled_up step below qs row) q w (step (below q) (filled_up step below qs row)) 0 r.0 ∙ filled_other qs row w r.1

  -- everybody in the list has the value that follows from the values of those below
  pub filled_right : (value : ℕ → ℕ) (os row : List ℕ) → InDescentOrder below os → AllByRecursion (λ q. q < length row) os
      → AllByRecursion (λ q. (r : List ℕ) → AllByRecursion (λ c. get_or r c 0 ≡ value c) (below q) → step (below q) r ≡ value q) os
      → (w : ℕ) → is_in w os ≡ true → get_or (filled_up step below os row) w 0 ≡ value w
  unfolding filled_up InDescentOrder
  filled_right value [] row t l h w m = absurd (in_none w m)
  filled_right value (q ∷ qs) row t l h w m =
      let b : List ℕ = filled_up step below qs row in
      ⊎_elim
      (λ (e : w ≡ q).
      let v : step (below q) b ≡ value q =
      h.0 b (All-weaker (λ c. is_in c qs ≡ true) (λ c. get_or b c 0 ≡ value c) (λ c k. filled_right value qs row t.2 l.1 h.1 c k) (below q) t.1) in
      ap (λ (k : ℕ). get_or (set b q (step (below q) b)) k 0) e
      ∙ (get_or-set_same b q (step (below q) b) 0 (let x = l.0 in omega (arith, length-filled qs row)) ∙ (v ∙ ap value (sym e))))
      (λ (k : is_in w qs ≡ true).
      ⊎_elim (λ (e : w ≡ q). absurd (in_not w q qs k t.0 e))
      (λ (n : w ≡ q → ⊥). get_or-set_other b q w (step (below q) b) 0 n ∙ filled_right value qs row t.2 l.1 h.1 w k) (cases_eq w q))
      (in_cases w q qs m)
