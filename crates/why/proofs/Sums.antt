-- What somebody's ways come to is the share that the estate names. Assumes nothing.
use Rattle.std.proofs.Common.{◌≡◌, ℕ, ◌/◌, ◌<◌, true, false, cond, not, eqb, leb, ◌≢◌, ◌⊎◌, List, [], ◌∷◌, ◌++◌, map, length, filter, sym, ap, ◌∙◌, ap₂, inl, inr, arith}
use Rattle.std.proofs.lemmas.Bool.{and_parts, not-true, eqb-false, cases_Bool}
use Rattle.law.specs.Family.{Family, Part, estate}
use Rattle.law.specs.Calls.{gcd, common_multiple, pieces, share_of}
use Rattle.theory.specs.Families.{WellFormed}
use Rattle.theory.specs.Shares.{shares_of}
use Rattle.theory.proofs.Fractions.{same_fraction, cross}
use Rattle.theory.proofs.Multiples.{common_multiple_below, common_multiple_divides, gcd_cross, gcd_quotients}
use Rattle.theory.proofs.Parts.{pieces_le_all}
use Rattle.theory.proofs.Shares.{shares_right}
use Rattle.shares.specs.Parts.{dividable}
use Rattle.shares.proofs.Estates.{estate_sound}
use Rattle.ways.specs.Laws.{way_pieces}
use Rattle.ways.specs.Ways.{Way, counted, spouse_ways, kin_ways, relatives_up, estate_ways}
use Rattle.ways.proofs.Laws.{estate_pieces}
use Rattle.reasons.specs.Estates.{DividedByWays}
use Rattle.reasons.specs.declared.Estate.{Estate}
use Rattle.std.specs.List.{AllByRecursion}
use Rattle.kinship.specs.Causes.{NoWay}
use Rattle.why.specs.Explained.{LinePart, line_part, lowest_terms, ends_at, parts_to, ways_to, share_for, ways_held}
use Rattle.why.proofs.Heirs.{parts_append}

-- an estate that can be divided has a number
pub number_of_some : (ps : List Part) → dividable ps ≡ true → common_multiple ps 1 ≢ 0
number_of_some ps e = eqb-false (common_multiple ps 1) 0 (not-true (eqb (common_multiple ps 1) 0) (and_parts (leb (length ps) 4096) (not (eqb (common_multiple ps 1) 0)) e).1)

-- somebody's pieces in lowest terms are their share
pub share_lowest : (ps : List Part) (w : ℕ) → common_multiple ps 1 ≢ 0 →
    lowest_terms (pieces (common_multiple ps 1) ps w) (common_multiple ps 1) ≡ record { up = (share_of (shares_of ps) w).up; down = (share_of (shares_of ps) w).down }
share_lowest ps w z =
    let n = common_multiple ps 1 in
    let k = pieces n ps w in
    let s = share_of (shares_of ps) w in
    let some : 0 < n = omega arith in
    let right = shares_right ps z in
    let whole = (common_multiple_divides ps 1 z).1 in
    let same =
    same_fraction (k / gcd k n) (n / gcd k n) s.up s.down (gcd_quotients k n some) (right.1 w)
    (cross n k (k / gcd k n) (n / gcd k n) s.up s.down some (gcd_cross k n some) (right.2 n w some whole)) in
    ap₂ (λ (u v : ℕ). record { up = u; down = v }) same.0 same.1

-- the ways that the code holds are those of the estate
pub held_ways : (f : Family) (d : ℕ) (e : Estate) → DividedByWays f d e → ways_held e ≡ estate_ways f d
unfolding estate_ways
held_ways f d e h =
    ap₂ (λ xs ys. map (counted 1) xs ++ ys) h.spouse (ap₂ (λ (u : ℕ) ws. map (counted u) ws) h.up h.ways)

-- so their sum, which fits, is the share that the estate names
pub pieces_fit : (f : Family) (d w : ℕ) (e : Estate) → WellFormed f → DividedByWays f d e → way_pieces e.whole (ways_held e) w < 18446744073709551616
pieces_fit f d w e formed h =
    let n = common_multiple (estate f d) 1 in
    let same : way_pieces e.whole (ways_held e) w ≡ pieces n (estate f d) w =
    ap₂ (λ (m : ℕ) rs. way_pieces m rs w) h.whole (held_ways f d e h) ∙ estate_pieces f d n w in
    let a = pieces_le_all n (estate f d) w in
    let b = (estate_sound f d formed).within in
    let c = common_multiple_below (estate f d) 1 (omega arith) in
    omega arith

pub sum_right : (f : Family) (d w : ℕ) (e : Estate) → DividedByWays f d e → lowest_terms (way_pieces e.whole (ways_held e) w) e.whole ≡ share_for f d w
sum_right f d w e h =
    let n = common_multiple (estate f d) 1 in
    ap₂ lowest_terms (ap₂ (λ (m : ℕ) rs. way_pieces m rs w) h.whole (held_ways f d e h) ∙ estate_pieces f d n w) h.whole ∙ share_lowest (estate f d) w (number_of_some (estate f d) h.within)

-- where no way ends at somebody, none of the relatives' does
none_ends : (u w : ℕ) (ws : List Way) → parts_to w (map (counted u) ws) ≡ [] → AllByRecursion (λ (x : Way). x.who ≢ w) ws
none_ends u w [] e = tt
none_ends u w (x ∷ xs) e = go (λ k. none_ends u w xs k) (cases_Bool (eqb x.who w))
  where
    go : (parts_to w (map (counted u) xs) ≡ [] → AllByRecursion (λ (y : Way). y.who ≢ w) xs) → (eqb x.who w ≡ true) ⊎ (eqb x.who w ≡ false) → (x.who ≢ w) × AllByRecursion (λ (y : Way). y.who ≢ w) xs
    go ih (inl t) = absurd (let z : ◌≡◌ {A = ℕ} 0 1 = cc (sym (ap (λ b. map line_part (cond b (counted u x ∷ filter (ends_at w) (map (counted u) xs)) (filter (ends_at w) (map (counted u) xs)))) t) ∙ e) in omega arith)
    go ih (inr t) =
        (eqb-false x.who w t, ih (sym (ap (λ b. map line_part (cond b (counted u x ∷ filter (ends_at w) (map (counted u) xs)) (filter (ends_at w) (map (counted u) xs)))) t) ∙ e))

pub no_way : (f : Family) (d w : ℕ) → ways_to f d w ≡ [] → NoWay f d w
unfolding estate_ways
no_way f d w e =
    none_ends (relatives_up f d) w (kin_ways f d)
    (second_none (parts_to w (map (counted 1) (spouse_ways f d))) (parts_to w (map (counted (relatives_up f d)) (kin_ways f d)))
    (sym (parts_append w (map (counted 1) (spouse_ways f d)) (map (counted (relatives_up f d)) (kin_ways f d))) ∙ e))
  where
    second_none : (xs ys : List LinePart) → xs ++ ys ≡ [] → ys ≡ []
    second_none [] ys h = h
    second_none (x ∷ xs) ys h = absurd (let z : ◌≡◌ {A = ℕ} 0 1 = cc in omega arith)
