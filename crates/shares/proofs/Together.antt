-- All shares together are all parts together. Assumes nothing.
use Rattle.std.proofs.Common.{◌≡◌, ℕ, zero, suc, ◌+◌, ◌*◌, ◌/◌, ◌<◌, ◌≤◌, true, cond, eqb, ltb, List, [], ◌∷◌, map, sum_by, filter, sym, refl, ap, ◌∙◌, inl, inr, arith}
use native.Mathlib.Nat.{mul-div_right}
use Rattle.std.specs.List.{range_with_len, AllByRecursion}
use Rattle.std.proofs.lemmas.List.Sums.{sum_by-cons}
use Rattle.std.proofs.lemmas.Bool.{cases_eq, cond_both, eq-eqb, ltb-false, ne_eqb}
use Rattle.law.specs.Family.{Part}
use Rattle.law.specs.Calls.{Share, gcd, common_multiple, divides_all, pieces, all_pieces, as_parts}
use Rattle.theory.specs.Shares.{above, lowest_share, shares_from, shares_of}
use Rattle.theory.proofs.Multiples.{common_multiple_divides, gcd_divides, gcd_positive}
use Rattle.theory.proofs.OneAnswer.{one_answer}
use Rattle.theory.proofs.Shares.{above_all, shares_as_parts, shares_right}
use Rattle.shares.specs.Together.{all_shares, SharesTogether, SettledRight}
use Rattle.shares.proofs.Settling.{divided_some}

-- k of n pieces in lowest terms are k pieces
share_pieces : (n k w : ℕ) → 0 < n → n / (lowest_share n k w).down * (lowest_share n k w).up ≡ k
share_pieces n k w h =
    let d = gcd_divides k n in
    go (gcd k n) d.0.0 d.1.0 (gcd_positive k n h) d.0.1 d.1.1
  where
    positive : (g y : ℕ) → n ≡ g * y → 0 < y
    positive g zero e = absurd (omega arith)
    positive g (suc y) e = omega arith

    go : (g x y : ℕ) → 0 < g → k ≡ g * x → n ≡ g * y → n / (n / g) * (k / g) ≡ k
    go g x y l p q =
        let up : k / g ≡ x = ap (λ (z : ℕ). z / g) p ∙ mul-div_right x l in
        let down : n / g ≡ y = ap (λ (z : ℕ). z / g) q ∙ mul-div_right y l in
        let turned : n ≡ y * g = omega arith in
        let back : n / y ≡ g = ap (λ (z : ℕ). z / y) turned ∙ mul-div_right g (positive g y q) in
        (λ j. n / down j * up j) ∙ ap (λ (z : ℕ). z * x) back ∙ sym p

-- so all shares come to what all persons have
shares_sum : (n : ℕ) (g : ℕ → ℕ) (a m : ℕ) → 0 < n → all_shares n (shares_from n g a m) ≡ sum_by g (range_with_len a m)
shares_sum n g a zero h = refl
shares_sum n g a (suc m) h =
    let ih = shares_sum n g (a + 1) m h in
    let all = sum_by-cons g a (range_with_len (a + 1) m) in
    cond_both (ltb 0 (g a)) (a ∷ filter (λ w. ltb 0 (g w)) (range_with_len (a + 1) m)) (filter (λ w. ltb 0 (g w)) (range_with_len (a + 1) m))
    (λ (ws : List ℕ). all_shares n (map (λ w. lowest_share n (g w) w) ws) ≡ sum_by g (range_with_len a (suc m)))
    (λ _.
    sum_by-cons (λ (s : Share). n / s.down * s.up) (lowest_share n (g a) a) (shares_from n g (a + 1) m)
    ∙ (λ j. share_pieces n (g a) a h j + ih j) ∙ sym all)
    (λ e. let z = ltb-false 0 (g a) e in ih ∙ omega (arith, all))

-- what all have of a row of parts is what all parts come to
sum_both : (f g : ℕ → ℕ) (xs : List ℕ) → sum_by (λ w. f w + g w) xs ≡ sum_by f xs + sum_by g xs
sum_both f g [] = omega arith
sum_both f g (x ∷ xs) = omega (arith, sum_by-cons (λ w. f w + g w) x xs, sum_by-cons f x xs, sum_by-cons g x xs, sum_both f g xs)

abbrev one_person : ℕ → ℕ → ℕ → ℕ
one_person who k w = cond (eqb who w) k 0

nobody_else : (who k a m : ℕ) → who < a → sum_by (one_person who k) (range_with_len a m) ≡ 0
nobody_else who k a zero h = refl
nobody_else who k a (suc m) h =
    sum_by-cons (one_person who k) a (range_with_len (a + 1) m)
    ∙ (λ j. cond (ne_eqb who a (λ e. omega arith) j) k 0 + nobody_else who k (a + 1) m (omega arith) j)

somebody : (who k a m : ℕ) → a ≤ who → who < a + m → sum_by (one_person who k) (range_with_len a m) ≡ k
somebody who k a zero h l = absurd (omega arith)
somebody who k a (suc m) h l =
    sum_by-cons (one_person who k) a (range_with_len (a + 1) m)
    ∙ elim (cases_eq who a) [
      | inl e ↦ (λ j. cond (eq-eqb who a e j) k 0 + nobody_else who k (a + 1) m (omega arith) j) ∙ omega arith
      | inr ne ↦ (λ j. cond (ne_eqb who a ne j) k 0 + somebody who k (a + 1) m (omega arith) (omega arith) j) ∙ omega arith
    ]

nothing_sum : (xs : List ℕ) → sum_by (λ w. 0) xs ≡ 0
nothing_sum [] = refl
nothing_sum (x ∷ xs) = sum_by-cons (λ w. 0) x xs ∙ (let e = nothing_sum xs in omega arith)

pieces_sum : (n m : ℕ) (ps : List Part) → AllByRecursion (λ (q : Part). q.who < m) ps → sum_by (pieces n ps) (range_with_len 0 m) ≡ all_pieces n ps
unfolding pieces all_pieces
pieces_sum n m [] a = nothing_sum (range_with_len 0 m)
pieces_sum n m (p ∷ ps) a =
    sum_both (one_person p.who (n / p.by)) (pieces n ps) (range_with_len 0 m)
    ∙ (λ j. somebody p.who (n / p.by) 0 m (omega arith) (let l = a.0 in omega arith) j + pieces_sum n m ps a.1 j)

-- there is just one answer, so this holds of any
together : (ps : List Part) (n : ℕ) (ss : List Share) → 0 < n → divides_all n ps ≡ true → as_parts ps ss → all_shares n ss ≡ all_pieces n ps
together ps n ss h d right =
    ap (all_shares n) (one_answer ps n ss (shares_from n (pieces n ps) 0 (above ps)) h d right (shares_as_parts n (above ps) ps h d (above_all ps)))
    ∙ shares_sum n (pieces n ps) 0 (above ps) h
    ∙ pieces_sum n (above ps) ps (above_all ps)

pub shares_together : SharesTogether
unfolding SharesTogether
shares_together ps n ss h d right = together ps n ss h d right

pub settled_right : SettledRight
unfolding SettledRight
settled_right ps e =
    let some = divided_some ps e in
    let n = common_multiple ps 1 in
    let right = shares_right ps some in
    let l : 0 < n = omega arith in
    (right, λ all. together ps n (shares_of ps) l (common_multiple_divides ps 1 some).1 right ∙ all)
