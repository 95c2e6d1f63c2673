-- The table of an estate, piece by piece, and that its last line is right. Assumes nothing.
use Rattle.std.proofs.Common.{◌≡◌, ℕ, zero, suc, ◌+◌, ◌<◌, true, false, List, [], ◌∷◌, ◌++◌, map, length, ap, ◌∙◌, ⊎_elim, arith}
use Rattle.std.specs.List.{range_with_len, flat_map}
use Rattle.std.proofs.lemmas.List.{append-nil, length-append, length-map}
use Rattle.std.proofs.lemmas.Bool.{cases_Bool, cond-false}
use Rattle.law.specs.Family.{Family, order, has_living_spouse, estate}
use Rattle.law.specs.Calls.{common_multiple}
use Rattle.theory.proofs.Lists.{joined_append}
use Rattle.theory.proofs.Multiples.{common_multiple_divides}
use Rattle.theory.proofs.Parts.{estate_adds}
use Rattle.shares.specs.Together.{SettledRight}
use Rattle.shares.proofs.Together.{settled_right}
use Rattle.ways.specs.Ways.{counted, estate_ways, spouse_ways, kin_ways, relatives_up, relatives_by}
use Rattle.reasons.proofs.Orders.{ways_nobody}
use Rattle.why.proofs.Sums.{number_of_some}
use Rattle.estate_table.specs.Tables.{SharesAreOne}

-- all heirs among one person more
counting_more : (a n : ℕ) → range_with_len a (n + 1) ≡ range_with_len a n ++ ((a + n) ∷ [])
counting_more a zero = ap (λ z. z ∷ []) (let e : a ≡ a + 0 = omega arith in e)
counting_more a (suc n) =
    ap (range_with_len a) (let e : suc n + 1 ≡ suc (n + 1) = omega arith in e)
    ∙ ap (λ xs. a ∷ xs) (counting_more (a + 1) n ∙ ap (λ z. range_with_len (a + 1) n ++ (z ∷ [])) (let e : (a + 1) + n ≡ a + suc n = omega arith in e))

pub row_more : (g : ℕ → List ℕ) (n : ℕ) → flat_map g (range_with_len 0 (n + 1)) ≡ flat_map g (range_with_len 0 n) ++ g n
row_more g n =
    ap (flat_map g) (counting_more 0 n ∙ ap (λ z. range_with_len 0 n ++ (z ∷ [])) (let e : 0 + n ≡ n = omega arith in e))
    ∙ joined_append g (range_with_len 0 n) (n ∷ [])
    ∙ ap (λ r. flat_map g (range_with_len 0 n) ++ r) (append-nil (g n))

-- who inherits where there is a way
inherits : (f : Family) (d : ℕ) → 0 < length (estate_ways f d) → order f d ≡ 4 → has_living_spouse f d ≡ true
unfolding estate_ways
inherits f d l o =
    ⊎_elim (λ e. e)
    (λ (e : has_living_spouse f d ≡ false).
    absurd
    (let a : length (map (counted 1) (spouse_ways f d)) ≡ 0 = length-map (spouse_ways f d) (counted 1) ∙ ap length (cond-false (has_living_spouse f d) _ [] e) in
    let b : length (map (counted (relatives_up f d)) (kin_ways f d)) ≡ 0 =
    length-map (kin_ways f d) (counted (relatives_up f d)) ∙ ap length (ways_nobody f d (relatives_by f d) o) in
    omega (arith, length-append (map (counted 1) (spouse_ways f d)) (map (counted (relatives_up f d)) (kin_ways f d)))))
    (cases_Bool (has_living_spouse f d))

pub shares_are_one : SharesAreOne
unfolding SharesAreOne SettledRight
shares_are_one f d formed within some =
    let e = estate_adds formed.ranked d (common_multiple (estate f d) 1) (inherits f d some) (common_multiple_divides (estate f d) 1 (number_of_some (estate f d) within)).1 in
    (settled_right (estate f d) within).1 (omega arith)
