-- The shares of parts are as the parts are, in lowest terms. Assumes nothing.
use Rattle.std.proofs.Common.{◌≡◌, ℕ, zero, suc, ◌+◌, ◌*◌, ◌/◌, ◌%◌, ◌<◌, ◌≤◌, max, Bool, true, false, cond, ◌&&◌, eqb, ltb, ◌≢◌, ◌⊎◌, List, [], ◌∷◌, map, filter, sym, refl, ap, ◌∙◌, subst, inl, inr, ⊎_elim, arith}
use native.Mathlib.Nat.{eq_of_mul-eq-mul_right}
use Rattle.std.specs.List.{range_with_len, AllByRecursion}
use Rattle.std.proofs.ByRecursion.{All-weaker, All-map, all_kept_by}
use Rattle.std.proofs.lemmas.Bool.{cases_lt, cases_eq, and_parts, and_from, ltb-true, ltb-false, lt-ltb, eq-eqb, ne_eqb, cond-true, cond-false, cond_both}
use Rattle.law.specs.Family.{Part}
use Rattle.law.specs.Calls.{Share, gcd, common_multiple, divides_all, pieces, in_order, share_of, lowest, as_parts}
use Rattle.theory.specs.Shares.{lowest_share, shares_from, above, shares_of, SharesExist}
use Rattle.theory.proofs.Fractions.{coprime_nothing}
use Rattle.theory.proofs.Multiples.{whole_pieces, gcd_divides, gcd_quotients, gcd_cross, quotient_positive, common_multiple_divides}

-- one number that all parts divide is as good as another
one_cross : (n m b : ℕ) → eqb (n % b) 0 ≡ true → eqb (m % b) 0 ≡ true → n / b * m ≡ m / b * n
one_cross n m b h k = go (n / b) (m / b) (whole_pieces n b h) (whole_pieces m b k)
  where
    go : (x y : ℕ) → x * b ≡ n → y * b ≡ m → x * m ≡ y * n
    go x y p q = omega (arith, ap (λ (z : ℕ). x * z) q, ap (λ (z : ℕ). y * z) p)

pub pieces_cross : (n m w : ℕ) (ps : List Part) → divides_all n ps ≡ true → divides_all m ps ≡ true → pieces n ps w * m ≡ pieces m ps w * n
unfolding divides_all pieces
pieces_cross n m w [] h k = omega arith
pieces_cross n m w (p ∷ ps) h k =
    let a = and_parts (eqb (n % p.by) 0) (divides_all n ps) h in
    let b = and_parts (eqb (m % p.by) 0) (divides_all m ps) k in
    add_up (eqb p.who w) (n / p.by) (m / p.by) (pieces n ps w) (pieces m ps w) (one_cross n m p.by a.0 b.0) (pieces_cross n m w ps a.1 b.1)
  where
    add_up : (t : Bool) (x y u v : ℕ) → x * m ≡ y * n → u * m ≡ v * n → (cond t x 0 + u) * m ≡ (cond t y 0 + v) * n
    add_up true x y u v e g = omega arith
    add_up false x y u v e g = omega arith

pub one_number : (n m w up down : ℕ) (ps : List Part) → 0 < n → divides_all n ps ≡ true → divides_all m ps ≡ true → up * n ≡ pieces n ps w * down
    → up * m ≡ pieces m ps w * down
one_number n m w up down ps l h k e = go (pieces n ps w) (pieces m ps w) e (pieces_cross n m w ps h k)
  where
    go : (x y : ℕ) → up * n ≡ x * down → x * m ≡ y * n → up * m ≡ y * down
    go x y a b = eq_of_mul-eq-mul_right n l (up * m) (y * down) (omega (arith, ap (λ (z : ℕ). z * m) a, ap (λ (z : ℕ). z * down) b))

pub as_parts_by : (n : ℕ) (ps : List Part) (ss : List Share) → 0 < n → divides_all n ps ≡ true → in_order ss ≡ true → ((w : ℕ) → lowest (share_of ss w))
    → ((w : ℕ) → (share_of ss w).up * n ≡ pieces n ps w * (share_of ss w).down) → as_parts ps ss
as_parts_by n ps ss l h o low e = (o, low, λ m w _ k. one_number n m w (share_of ss w).up (share_of ss w).down ps l h k (e w))

-- nobody past all heirs has pieces
pub above_all : (ps : List Part) → AllByRecursion (λ q. q.who < above ps) ps
unfolding above
above_all [] = tt
above_all (p ∷ ps) = (omega arith, All-weaker (λ q. q.who < above ps) (λ q. q.who < max (suc p.who) (above ps)) (λ q l. omega arith) ps (above_all ps))

pub pieces_past : (m n w : ℕ) (ps : List Part) → AllByRecursion (λ q. q.who < m) ps → m ≤ w → pieces n ps w ≡ 0
unfolding pieces
pieces_past m n w [] a l = refl
pieces_past m n w (p ∷ ps) a l = rw (ne_eqb p.who w (λ e. let z = a.0 in omega arith)) (let e = pieces_past m n w ps a.1 l in omega arith)

-- who has no share
none_of : (v : ℕ) (ss : List Share) → AllByRecursion (λ (t : Share). t.who ≢ v) ss → share_of ss v ≡ record { who = v; up = 0; down = 1 }
unfolding share_of
none_of v [] a = refl
none_of v (s ∷ ss) a = cond-false (eqb s.who v) s (share_of ss v) (ne_eqb s.who v a.0) ∙ none_of v ss a.1

-- an heir before the others
order_cons : (s : Share) (ss : List Share) → 0 < s.up → 0 < s.down → AllByRecursion (λ (t : Share). s.who < t.who) ss → in_order ss ≡ true → in_order (s ∷ ss) ≡ true
unfolding in_order
order_cons s [] u d a o = and_from (ltb 0 s.up) (ltb 0 s.down) (lt-ltb 0 s.up u) (lt-ltb 0 s.down d)
order_cons s (t ∷ ts) u d a o =
    and_from (ltb 0 s.up && (ltb 0 s.down && ltb s.who t.who)) (in_order (t ∷ ts))
    (and_from (ltb 0 s.up) (ltb 0 s.down && ltb s.who t.who) (lt-ltb 0 s.up u)
    (and_from (ltb 0 s.down) (ltb s.who t.who) (lt-ltb 0 s.down d) (lt-ltb s.who t.who a.0))) o

-- numbers in a row
counting_all : (P : ℕ → Type 0) (a m : ℕ) → ((v : ℕ) → a ≤ v → v < a + m → P v) → AllByRecursion P (range_with_len a m)
counting_all P a zero h = tt
counting_all P a (suc m) h = (h a (omega arith) (omega arith), counting_all P (a + 1) m (λ v x y. h v (omega arith) (omega arith)))

-- somebody's share of n pieces, in lowest terms
abbrev Fits : ℕ → ℕ → Share → Type 0
Fits n k s = (s.up * n ≡ k * s.down) × lowest s

module _ (n : ℕ) (l : 0 < n) (g : ℕ → ℕ) where
  fits_share : (w : ℕ) → Fits n (g w) (lowest_share n (g w) w)
  fits_share w = (gcd_cross (g w) n l, gcd_quotients (g w) n l)

  fits_nothing : (w : ℕ) → g w ≡ 0 → Fits n (g w) (record { who = w; up = 0; down = 1 })
  fits_nothing w e = (omega arith, coprime_nothing)

  shares_all : (P : Share → Type 0) (a m : ℕ) → ((v : ℕ) → a ≤ v → v < a + m → P (lowest_share n (g v) v)) → AllByRecursion P (shares_from n g a m)
  shares_all P a m h =
      All-map P (λ w. lowest_share n (g w) w) (filter (λ w. ltb 0 (g w)) (range_with_len a m))
      (all_kept_by (λ w. ltb 0 (g w)) (λ w. P (lowest_share n (g w) w)) (range_with_len a m) (counting_all (λ w. P (lowest_share n (g w) w)) a m h))

  pub shares_order : (a m : ℕ) → in_order (shares_from n g a m) ≡ true
  unfolding in_order
  shares_order a zero = refl
  shares_order a (suc m) =
      cond_both (ltb 0 (g a)) (a ∷ filter (λ w. ltb 0 (g w)) (range_with_len (a + 1) m)) (filter (λ w. ltb 0 (g w)) (range_with_len (a + 1) m))
      (λ (ws : List ℕ). in_order (map (λ w. lowest_share n (g w) w) ws) ≡ true)
      (λ e.
      let r = gcd_divides (g a) n in
      order_cons (lowest_share n (g a) a) (shares_from n g (a + 1) m) (quotient_positive (g a) (gcd (g a) n) (ltb-true 0 (g a) e) r.0)
      (quotient_positive n (gcd (g a) n) l r.1) (shares_all (λ (t : Share). a < t.who) (a + 1) m (λ v x y. omega arith)) (shares_order (a + 1) m))
      (λ _. shares_order (a + 1) m)

  share_past : (a m v : ℕ) → (v < a) ⊎ (a + m ≤ v) → share_of (shares_from n g a m) v ≡ record { who = v; up = 0; down = 1 }
  share_past a m v h = none_of v (shares_from n g a m) (shares_all (λ (t : Share). t.who ≢ v) a m (λ u x y e. omega arith))

  share_fits : (a m v : ℕ) → a ≤ v → v < a + m → Fits n (g v) (share_of (shares_from n g a m) v)
  unfolding share_of
  share_fits a zero v x y = absurd (omega arith)
  share_fits a (suc m) v x y =
      cond_both (ltb 0 (g a)) (a ∷ filter (λ w. ltb 0 (g w)) (range_with_len (a + 1) m)) (filter (λ w. ltb 0 (g w)) (range_with_len (a + 1) m))
      (λ (ws : List ℕ). Fits n (g v) (share_of (map (λ w. lowest_share n (g w) w) ws) v))
      (λ e.
      ⊎_elim
      (λ (q : a ≡ v).
      subst (Fits n (g v)) (sym (cond-true (eqb a v) (lowest_share n (g a) a) (share_of (shares_from n g (a + 1) m) v) (eq-eqb a v q)))
      (subst (λ (u : ℕ). Fits n (g u) (lowest_share n (g a) a)) q (fits_share a)))
      (λ (q : a ≡ v → ⊥).
      subst (Fits n (g v)) (sym (cond-false (eqb a v) (lowest_share n (g a) a) (share_of (shares_from n g (a + 1) m) v) (ne_eqb a v q)))
      (share_fits (a + 1) m v (omega arith) (omega arith)))
      (cases_eq a v))
      (λ e.
      ⊎_elim
      (λ (q : a ≡ v).
      subst (Fits n (g v)) (sym (share_past (a + 1) m v (inl (omega arith)))) (fits_nothing v (let z = ltb-false 0 (g a) e in omega (arith, ap g q))))
      (λ (q : a ≡ v → ⊥). share_fits (a + 1) m v (omega arith) (omega arith)) (cases_eq a v))

-- so they are as the parts are, by any number that all parts divide
pub shares_as_parts : (n m : ℕ) (ps : List Part) → 0 < n → divides_all n ps ≡ true → AllByRecursion (λ q. q.who < m) ps → as_parts ps (shares_from n (pieces n ps) 0 m)
shares_as_parts n m ps l h a = as_parts_by n ps (shares_from n (pieces n ps) 0 m) l h (shares_order n l (pieces n ps) 0 m) (λ w. (fits w).1) (λ w. (fits w).0)
  where
    fits : (w : ℕ) → Fits n (pieces n ps w) (share_of (shares_from n (pieces n ps) 0 m) w)
    fits w =
        ⊎_elim (λ (b : w < m). share_fits n l (pieces n ps) 0 m w (omega arith) (omega arith))
        (λ (b : m ≤ w). subst (Fits n (pieces n ps w)) (sym (share_past n l (pieces n ps) 0 m w (inr (omega arith)))) (fits_nothing n l (pieces n ps) w (pieces_past m n w ps a b)))
        (cases_lt w m)

pub shares_right : (ps : List Part) → common_multiple ps 1 ≢ 0 → as_parts ps (shares_of ps)
shares_right ps z = shares_as_parts (common_multiple ps 1) (above ps) ps (omega arith) (common_multiple_divides ps 1 z).1 (above_all ps)

pub shares_exist : SharesExist
unfolding SharesExist
shares_exist ps z = shares_right ps z
