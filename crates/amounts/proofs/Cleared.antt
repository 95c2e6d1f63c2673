-- Rows in which nobody has anything, and rows that are cleared. Assumes nothing.
use Rattle.std.proofs.Common.{◌≡◌, ℕ, zero, suc, ◌<◌, ◌≤◌, true, false, List, [], ◌∷◌, length, get_or, set, replicate, sum, refl, ap, ◌∙◌, ⊎_elim, arith}
use Rattle.std.proofs.lemmas.List.{length-set, get_or-set_same, get_or-set_other, get_or_past}
use Rattle.std.proofs.lemmas.List.Sums.{sum_by-cons}
use Rattle.std.proofs.lemmas.Bool.{cases_eq, cases_lt, cases_Bool}
use Rattle.amounts.specs.Passes.{is_in, cleared}
use Rattle.amounts.specs.Statements.{NoAmounts, ClearedRight}
use Rattle.amounts.proofs.Members.{in_none, in_cases}

pub sum_nothing : (row : List ℕ) → NoAmounts row → sum row ≡ 0
sum_nothing [] z = refl
sum_nothing (x ∷ xs) z = let a = z 0 in let b = sum_nothing xs (λ w. z (suc w)) in let e = sum_by-cons (λ (y : ℕ). y) x xs in omega arith

pub nothing_replicate : (row : List ℕ) → NoAmounts row → row ≡ replicate (length row) 0
nothing_replicate [] z = refl
nothing_replicate (x ∷ xs) z = λ i. z 0 i ∷ nothing_replicate xs (λ w. z (suc w)) i

pub replicate_nothing : (n : ℕ) → NoAmounts (replicate n 0)
replicate_nothing zero w = refl
replicate_nothing (suc n) zero = refl
replicate_nothing (suc n) (suc w) = replicate_nothing n w

pub length-cleared : (os row : List ℕ) → length (cleared os row) ≡ length row
unfolding cleared
length-cleared [] row = refl
length-cleared (q ∷ qs) row = length-cleared qs (set row q 0) ∙ length-set row q 0

-- who has nothing before, or is cleared, has nothing
set_nothing : (row : List ℕ) (q w : ℕ) → (w ≡ q → ⊥) → get_or row w 0 ≡ 0 → get_or (set row q 0) w 0 ≡ 0
set_nothing row q w n z = get_or-set_other row q w 0 0 n ∙ z

pub set_own : (row : List ℕ) (q : ℕ) → get_or (set row q 0) q 0 ≡ 0
set_own row q =
    ⊎_elim (λ (l : q < length row). get_or-set_same row q 0 0 l) (λ (l : length row ≤ q). get_or_past (set row q 0) q 0 (let e = length-set row q 0 in omega arith)) (cases_lt q (length row))

cleared_stays : (os row : List ℕ) (w : ℕ) → get_or row w 0 ≡ 0 → get_or (cleared os row) w 0 ≡ 0
unfolding cleared
cleared_stays [] row w z = z
cleared_stays (q ∷ qs) row w z =
    cleared_stays qs (set row q 0) w
    (⊎_elim (λ (e : w ≡ q). ap (λ (k : ℕ). get_or (set row q 0) k 0) e ∙ set_own row q) (λ (n : w ≡ q → ⊥). set_nothing row q w n z) (cases_eq w q))

cleared_inside : (os row : List ℕ) (w : ℕ) → is_in w os ≡ true → get_or (cleared os row) w 0 ≡ 0
unfolding cleared
cleared_inside [] row w i = absurd (in_none w i)
cleared_inside (q ∷ qs) row w i =
    ⊎_elim (λ (e : w ≡ q). cleared_stays qs (set row q 0) w (ap (λ (k : ℕ). get_or (set row q 0) k 0) e ∙ set_own row q))
    (λ (k : is_in w qs ≡ true). cleared_inside qs (set row q 0) w k) (in_cases w q qs i)

pub cleared_nothing : (os row : List ℕ) → ((w : ℕ) → is_in w os ≡ false → get_or row w 0 ≡ 0) → NoAmounts (cleared os row)
cleared_nothing os row h w =
    ⊎_elim (λ (i : is_in w os ≡ true). cleared_inside os row w i) (λ (i : is_in w os ≡ false). cleared_stays os row w (h w i)) (cases_Bool (is_in w os))

pub cleared_right : ClearedRight
unfolding ClearedRight
cleared_right os row h =
    nothing_replicate (cleared os row) (cleared_nothing os row h) ∙ ap (λ (n : ℕ). replicate n 0) (length-cleared os row)
