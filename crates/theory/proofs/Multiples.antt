-- Laws of gcd and lcm, and of the least number that all parts divide. Assumes nothing.
use Rattle.std.proofs.Common.{◌≡◌, ℕ, zero, suc, ◌+◌, ◌-◌, ◌*◌, ◌/◌, ◌%◌, ◌<◌, ◌≤◌, Bool, true, false, cond, ◌&&◌, eqb, ltb, ◌≢◌, List, [], ◌∷◌, ◌++◌, sym, refl, ap, ◌∙◌, subst, ap₂, ⊎_elim, mod-lt, div-add-mod', arith}
use native.Mathlib.Nat.{eq_of_mul-eq-mul_left, div-add-mod, mod-eq-sub-mul-div, mul-sub, mul-div_right, mul-mod_right}
use Rattle.std.specs.List.{AllByRecursion}
use Rattle.std.proofs.lemmas.Bool.{cases_eq, and_parts, and_from, ltb-true, ltb-false, lt-ltb, le-ltb, eqb-true, eq-eqb, cond-true, cond-false, cond_both}
use Rattle.law.specs.Family.{Family, line_lives, Part, line_parts, repeated}
use Rattle.law.specs.Calls.{gcd_in, gcd, common_multiple, divides_all}
use Rattle.theory.specs.Families.{Ranked}
use Rattle.theory.specs.Multiples.{Divides, Coprime, lcm, LeastMultiple}
use Rattle.theory.proofs.Parts.{divides_both, divides_repeated, line_divides}
use Rattle.theory.proofs.Fractions.{one_factor, same_fraction}

-- dividing, and the test of it
pub divides_self : (n : ℕ) → Divides n n
divides_self n = (1, omega arith)

pub divides_zero : (k : ℕ) → Divides k 0
divides_zero k = (0, omega arith)

pub divides_trans : (a b c : ℕ) → Divides a b → Divides b c → Divides a c
divides_trans a b c p q = (p.0 * q.0, go p.0 q.0 p.1 q.1)
  where
    go : (x y : ℕ) → b ≡ a * x → c ≡ b * y → c ≡ a * (x * y)
    go x y e g = omega (arith, ap (λ (z : ℕ). z * y) e)

pub divides_le : (k n : ℕ) → 0 < n → Divides k n → (0 < k) × (k ≤ n)
divides_le k n l (zero, e) = (absurd (omega arith), absurd (omega arith))
divides_le zero n l (suc z, e) = (absurd (omega arith), absurd (omega arith))
divides_le (suc k) n l (suc z, e) = (omega arith, omega arith)

pub divides_antisym : (a b : ℕ) → Divides a b → Divides b a → a ≡ b
divides_antisym zero b p q = let e : b ≡ 0 * p.0 = p.1 in omega arith
divides_antisym (suc a) zero p q = let e : suc a ≡ 0 * q.0 = q.1 in absurd (omega arith)
divides_antisym (suc a) (suc b) p q = let x = divides_le (suc a) (suc b) (omega arith) p in let y = divides_le (suc b) (suc a) (omega arith) q in omega arith

pub whole_pieces : (n b : ℕ) → eqb (n % b) 0 ≡ true → n / b * b ≡ n
whole_pieces n b h = let z : n % b ≡ 0 = eqb-true (n % b) 0 h in let e : n / b * b + n % b ≡ n = div-add-mod' n b in omega arith

pub divides_test : (k n : ℕ) → Divides k n → eqb (n % k) 0 ≡ true
divides_test k n p = eq-eqb (n % k) 0 (ap (λ (z : ℕ). z % k) p.1 ∙ mul-mod_right k p.0)

pub test_divides : (k n : ℕ) → eqb (n % k) 0 ≡ true → Divides k n
test_divides k n h = (n / k, let e : n / k * k ≡ n = whole_pieces n k h in omega arith)

pub divides_all_each : (n : ℕ) (ps : List Part) → divides_all n ps ≡ true → AllByRecursion (λ q. Divides q.by n) ps
unfolding divides_all
divides_all_each n [] h = tt
divides_all_each n (p ∷ ps) h = let r = and_parts (eqb (n % p.by) 0) (divides_all n ps) h in (test_divides p.by n r.0, divides_all_each n ps r.1)

pub each_divides_all : (n : ℕ) (ps : List Part) → AllByRecursion (λ q. Divides q.by n) ps → divides_all n ps ≡ true
unfolding divides_all
each_divides_all n [] a = refl
each_divides_all n (p ∷ ps) a = and_from (eqb (n % p.by) 0) (divides_all n ps) (divides_test p.by n a.0) (each_divides_all n ps a.1)

pub divides_more : (n m : ℕ) (ps : List Part) → Divides n m → divides_all n ps ≡ true → divides_all m ps ≡ true
unfolding divides_all
divides_more n m [] p h = refl
divides_more n m (q ∷ qs) p h =
    let r = and_parts (eqb (n % q.by) 0) (divides_all n qs) h in
    and_from (eqb (m % q.by) 0) (divides_all m qs) (divides_test q.by m (divides_trans q.by n m (test_divides q.by n r.0) p)) (divides_more n m qs p r.1)

-- the greatest common divisor: by Euclid's steps, of which there are enough
gcd_enough : (n m a b : ℕ) → b < n → b < m → gcd_in n a b ≡ gcd_in m a b
unfolding gcd_in
gcd_enough zero m a b p q = absurd (omega arith)
gcd_enough (suc n) zero a b p q = absurd (omega arith)
gcd_enough (suc n) (suc m) a zero p q = refl
gcd_enough (suc n) (suc m) a (suc b) p q = let l : a % suc b < suc b = mod-lt a (omega arith) in gcd_enough n m (suc b) (a % suc b) (omega arith) (omega arith)

pub gcd_zero : (a : ℕ) → gcd a 0 ≡ a
unfolding gcd_in
gcd_zero a = refl

pub gcd_step : (a b : ℕ) → 0 < b → gcd a b ≡ gcd b (a % b)
unfolding gcd_in
gcd_step a zero l = absurd (omega arith)
gcd_step a (suc b) l = let m : a % suc b < suc b = mod-lt a (omega arith) in gcd_enough (suc b) (suc (a % suc b)) (suc b) (a % suc b) m (omega arith)

-- it divides both
gcd_in_divides : (n a b : ℕ) → b < n → Divides (gcd_in n a b) a × Divides (gcd_in n a b) b
unfolding gcd_in
gcd_in_divides zero a b h = absurd (omega arith)
gcd_in_divides (suc n) a zero h = ((1, omega arith), (0, omega arith))
gcd_in_divides (suc n) a (suc b) h =
    let m : a % suc b < suc b = mod-lt a (omega arith) in
    let r = gcd_in_divides n (suc b) (a % suc b) (omega arith) in (
      (
        r.0.0 * (a / suc b) + r.1.0,
        go (gcd_in n (suc b) (a % suc b)) r.0.0 r.1.0 (a / suc b) (a % suc b) r.0.1 r.1.1 (div-add-mod a (suc b)),
      ),
      r.0,
    )
  where
    go : (g x y q m : ℕ) → suc b ≡ g * x → m ≡ g * y → suc b * q + m ≡ a → a ≡ g * (x * q + y)
    go g x y q m e k d = omega (arith, ap (λ (z : ℕ). z * q) e)

pub gcd_divides : (a b : ℕ) → Divides (gcd a b) a × Divides (gcd a b) b
gcd_divides a b = gcd_in_divides (suc b) a b (omega arith)

-- and whatever divides both divides it
gcd_in_greatest : (n k x y a b : ℕ) → a ≡ k * x → b ≡ k * y → Divides k (gcd_in n a b)
unfolding gcd_in
gcd_in_greatest zero k x y a b p q = (x, p)
gcd_in_greatest (suc n) k x y a zero p q = (x, p)
gcd_in_greatest (suc n) k x y a (suc b) p q = gcd_in_greatest n k y (x - y * (a / suc b)) (suc b) (a % suc b) q (mod-eq-sub-mul-div a (suc b) ∙ rest (a / suc b))
  where
    rest : (c : ℕ) → a - suc b * c ≡ k * (x - y * c)
    rest c = ap₂ (λ (u v : ℕ). u - v) p (let e : suc b * c ≡ k * (y * c) = omega (arith, ap (λ (z : ℕ). z * c) q) in e) ∙ sym (mul-sub k x (y * c))

pub gcd_greatest : (k a b : ℕ) → Divides k a → Divides k b → Divides k (gcd a b)
gcd_greatest k a b p q = gcd_in_greatest (suc b) k p.0 q.0 a b p.1 q.1

pub gcd_positive : (a b : ℕ) → 0 < b → 0 < gcd a b
gcd_positive a b l = (divides_le (gcd a b) b l (gcd_divides a b).1).0

pub coprime_from_gcd : (a b : ℕ) → gcd a b ≡ 1 → Coprime a b
coprime_from_gcd a b e k x y p q = let c = gcd_greatest k a b (x, p) (y, q) in one_factor k c.0 (sym c.1 ∙ e)

-- quotients by it have nothing in common
quotient : (n g x : ℕ) → 0 < g → n ≡ g * x → n / g ≡ x
quotient n g x l e = ap (λ (z : ℕ). z / g) e ∙ mul-div_right x l

coprime_by : (a b g x y : ℕ) → 0 < g → gcd a b ≡ g → a ≡ g * x → b ≡ g * y → Coprime x y
coprime_by a b g x y l e p q k u v c d =
    let r = gcd_greatest (g * k) a b (u, p ∙ (ap (λ (z : ℕ). g * z) c ∙ assoc u)) (v, q ∙ (ap (λ (z : ℕ). g * z) d ∙ assoc v)) in
    one_factor k r.0 (eq_of_mul-eq-mul_left g l (k * r.0) 1 (go r.0 (sym e ∙ r.1)))
  where
    assoc : (u : ℕ) → g * (k * u) ≡ g * k * u
    assoc u = omega arith

    go : (z : ℕ) → g ≡ g * k * z → g * (k * z) ≡ g * 1
    go z h = omega arith

pub gcd_quotients : (a b : ℕ) → 0 < b → Coprime (a / gcd a b) (b / gcd a b)
gcd_quotients a b l =
    let r = gcd_divides a b in
    let g = gcd_positive a b l in
    subst (λ (z : ℕ). Coprime z (b / gcd a b)) (sym (quotient a (gcd a b) r.0.0 g r.0.1))
    (subst (λ (z : ℕ). Coprime r.0.0 z) (sym (quotient b (gcd a b) r.1.0 g r.1.1)) (coprime_by a b (gcd a b) r.0.0 r.1.0 g refl r.0.1 r.1.1))

-- a of b, in lowest terms
pub gcd_cross : (a b : ℕ) → 0 < b → a / gcd a b * b ≡ a * (b / gcd a b)
gcd_cross a b l =
    let r = gcd_divides a b in
    let g = gcd_positive a b l in
    ap (λ (z : ℕ). z * b) (quotient a (gcd a b) r.0.0 g r.0.1)
    ∙ (go (gcd a b) r.0.0 r.1.0 r.0.1 r.1.1 ∙ ap (λ (z : ℕ). a * z) (sym (quotient b (gcd a b) r.1.0 g r.1.1)))
  where
    go : (g x y : ℕ) → a ≡ g * x → b ≡ g * y → x * b ≡ a * y
    go g x y p q = omega (arith, ap (λ (z : ℕ). x * z) q, ap (λ (z : ℕ). z * y) p)

pub quotient_positive : (n k : ℕ) → 0 < n → Divides k n → 0 < n / k
quotient_positive n k l p = let r = divides_le k n l p in go p.0 (quotient n k p.0 r.0 p.1) p.1
  where
    go : (z : ℕ) → n / k ≡ z → n ≡ k * z → 0 < n / k
    go zero e h = absurd (omega arith)
    go (suc z) e h = omega arith

-- what divides a product, and has nothing in common with one factor, divides the other
gauss : (x y u v : ℕ) → Coprime x y → x * u ≡ y * v → Divides y u
gauss x y zero v h e = divides_zero y
gauss x y (suc u) v h e = go (gcd v (suc u)) (gcd_positive v (suc u) (omega arith)) refl r.0.0 r.1.0 r.0.1 r.1.1
  where
    r : Divides (gcd v (suc u)) v × Divides (gcd v (suc u)) (suc u)
    r = gcd_divides v (suc u)

    go : (g : ℕ) → 0 < g → gcd v (suc u) ≡ g → (a b : ℕ) → v ≡ g * a → suc u ≡ g * b → Divides y (suc u)
    go g l k a b p q =
        let c : x * b ≡ a * y = eq_of_mul-eq-mul_left g l (x * b) (a * y) (omega (arith, ap (λ (z : ℕ). x * z) q, ap (λ (z : ℕ). y * z) p)) in
        let s : y ≡ b = (same_fraction x y a b h (coprime_by v (suc u) g a b l k p q) c).1 in
        (g, omega (arith, ap (λ (z : ℕ). g * z) s))

-- the least common multiple
pub lcm_left : (a b : ℕ) → Divides a (lcm a b)
lcm_left a zero = (0, omega arith)
lcm_left a (suc b) =
    let r = gcd_divides a (suc b) in (
      r.1.0,
      ap (λ (z : ℕ). z * suc b) (quotient a (gcd a (suc b)) r.0.0 (gcd_positive a (suc b) (omega arith)) r.0.1) ∙ go (gcd a (suc b)) r.0.0 r.1.0 r.0.1 r.1.1,
    )
  where
    go : (g x y : ℕ) → a ≡ g * x → suc b ≡ g * y → x * suc b ≡ a * y
    go g x y p q = omega (arith, ap (λ (z : ℕ). x * z) q, ap (λ (z : ℕ). z * y) p)

pub lcm_right : (a b : ℕ) → Divides b (lcm a b)
lcm_right a b = (a / gcd a b, omega arith)

pub lcm_least : (a b n : ℕ) → Divides a n → Divides b n → Divides (lcm a b) n
lcm_least a zero n p q = (0, let e : n ≡ 0 * q.0 = q.1 in omega arith)
lcm_least a (suc b) n p q = go (gcd a (suc b)) (gcd_positive a (suc b) (omega arith)) refl r.0.0 r.1.0 r.0.1 r.1.1
  where
    r : Divides (gcd a (suc b)) a × Divides (gcd a (suc b)) (suc b)
    r = gcd_divides a (suc b)

    last : (g x y u t w : ℕ) → a ≡ g * x → suc b ≡ g * y → n ≡ a * u → u ≡ y * t → w ≡ x → n ≡ w * suc b * t
    last g x y u t w h c d e k =
        omega (arith, ap (λ (z : ℕ). z * u) h, ap (λ (z : ℕ). g * x * z) e, ap (λ (z : ℕ). x * z * t) c, ap (λ (z : ℕ). z * suc b * t) k)

    go : (g : ℕ) → 0 < g → gcd a (suc b) ≡ g → (x y : ℕ) → a ≡ g * x → suc b ≡ g * y → Divides (a / gcd a (suc b) * suc b) n
    go g l k x y h c =
        let d : a / gcd a (suc b) ≡ x = ap (λ (z : ℕ). a / z) k ∙ quotient a g x l h in
        let e : x * p.0 ≡ y * q.0 = eq_of_mul-eq-mul_left g l (x * p.0) (y * q.0) (omega (arith, ap (λ (z : ℕ). z * p.0) h, ap (λ (z : ℕ). z * q.0) c, p.1, q.1)) in
        let t = gauss x y p.0 q.0 (coprime_by a (suc b) g x y l k h c) e in
        (t.0, last g x y p.0 t.0 (a / gcd a (suc b)) h c p.1 t.1 d)

pub lcm_same : (a b : ℕ) → Divides b a → lcm a b ≡ a
lcm_same a b p = divides_antisym (lcm a b) a (lcm_least a b a (divides_self a) p) (lcm_left a b)

-- the least common multiple of a number and all parts, cut off at 2 to the 32nd
pub common_multiple_nothing : (ps : List Part) → common_multiple ps 0 ≡ 0
unfolding common_multiple
common_multiple_nothing [] = refl
common_multiple_nothing (p ∷ ps) =
    let z : lcm 0 p.by ≡ 0 = lcm_same 0 p.by (divides_zero p.by) in
    cond_both (ltb (lcm 0 p.by) 4294967296) (common_multiple ps (lcm 0 p.by)) 0 (λ (r : ℕ). r ≡ 0) (λ _. ap (common_multiple ps) z ∙ common_multiple_nothing ps) (λ _. refl)

pub common_multiple_append : (ps qs : List Part) (n : ℕ) → common_multiple (ps ++ qs) n ≡ common_multiple qs (common_multiple ps n)
unfolding common_multiple
common_multiple_append [] qs n = refl
common_multiple_append (p ∷ ps) qs n = go (ltb (lcm n p.by) 4294967296) (common_multiple_append ps qs (lcm n p.by))
  where
    go : (t : Bool) → common_multiple (ps ++ qs) (lcm n p.by) ≡ common_multiple qs (common_multiple ps (lcm n p.by))
        → cond t (common_multiple (ps ++ qs) (lcm n p.by)) 0 ≡ common_multiple qs (cond t (common_multiple ps (lcm n p.by)) 0)
    go true e = e
    go false e = sym (common_multiple_nothing qs)

-- where it is not cut off, all divide it, and it is below
pub common_multiple_divides : (ps : List Part) (n : ℕ) → common_multiple ps n ≢ 0 → Divides n (common_multiple ps n) × (divides_all (common_multiple ps n) ps ≡ true)
unfolding common_multiple divides_all
common_multiple_divides [] n h = (divides_self n, refl)
common_multiple_divides (p ∷ ps) n h =
    cond_both (ltb (lcm n p.by) 4294967296) (common_multiple ps (lcm n p.by)) 0
    (λ (r : ℕ). r ≢ 0 → Divides n r × ((eqb (r % p.by) 0 && divides_all r ps) ≡ true))
    (λ _ nz.
    let r = common_multiple ps (lcm n p.by) in
    let ih = common_multiple_divides ps (lcm n p.by) nz in (
      divides_trans n (lcm n p.by) r (lcm_left n p.by) ih.0,
      and_from (eqb (r % p.by) 0) (divides_all r ps) (divides_test p.by r (divides_trans p.by (lcm n p.by) r (lcm_right n p.by) ih.0)) ih.1,
    ))
    (λ _ nz. absurd (nz refl)) h

pub common_multiple_below : (ps : List Part) (n : ℕ) → n < 4294967296 → common_multiple ps n < 4294967296
unfolding common_multiple
common_multiple_below [] n l = l
common_multiple_below (p ∷ ps) n l =
    cond_both (ltb (lcm n p.by) 4294967296) (common_multiple ps (lcm n p.by)) 0 (λ (r : ℕ). r < 4294967296)
    (λ e. common_multiple_below ps (lcm n p.by) (ltb-true (lcm n p.by) 4294967296 e)) (λ _. omega arith)

-- it is the least: it divides every number that n and all parts divide; and where it is cut off, no such number is below
pub common_multiple_least : (ps : List Part) (n m : ℕ) → Divides n m → divides_all m ps ≡ true → common_multiple ps n ≢ 0 → Divides (common_multiple ps n) m
unfolding common_multiple divides_all
common_multiple_least [] n m p h k = p
common_multiple_least (q ∷ qs) n m p h k =
    let t = and_parts (eqb (m % q.by) 0) (divides_all m qs) h in
    cond_both (ltb (lcm n q.by) 4294967296) (common_multiple qs (lcm n q.by)) 0 (λ (r : ℕ). r ≢ 0 → Divides r m)
    (λ _ nz. common_multiple_least qs (lcm n q.by) m (lcm_least n q.by m p (test_divides q.by m t.0)) t.1 nz) (λ _ nz. absurd (nz refl)) k

pub common_multiple_cut : (ps : List Part) (n m : ℕ) → 0 < m → Divides n m → divides_all m ps ≡ true → common_multiple ps n ≡ 0 → 4294967296 ≤ m
unfolding common_multiple divides_all
common_multiple_cut [] n m l p h e = let r = divides_le n m l p in absurd (omega arith)
common_multiple_cut (q ∷ qs) n m l p h e =
    let t = and_parts (eqb (m % q.by) 0) (divides_all m qs) h in
    let x : Divides (lcm n q.by) m = lcm_least n q.by m p (test_divides q.by m t.0) in
    cond_both (ltb (lcm n q.by) 4294967296) (common_multiple qs (lcm n q.by)) 0 (λ (r : ℕ). r ≡ 0 → 4294967296 ≤ m)
    (λ _ z. common_multiple_cut qs (lcm n q.by) m l x t.1 z)
    (λ c _. let a = divides_le (lcm n q.by) m l x in let b = ltb-false (lcm n q.by) 4294967296 c in omega arith) e

pub least_multiple : LeastMultiple
unfolding LeastMultiple
least_multiple ps = (
  λ z. ((common_multiple_divides ps 1 z).1, common_multiple_below ps 1 (omega arith), λ n h. common_multiple_least ps 1 n (n, omega arith) h z),
  λ z n l h. common_multiple_cut ps 1 n l (n, omega arith) h z,
)

-- what is the least number that all parts divide is it, or it is cut off
pub common_multiple_is : (ps : List Part) (n : ℕ) → 0 < n → divides_all n ps ≡ true → ((m : ℕ) → divides_all m ps ≡ true → Divides n m)
    → common_multiple ps 1 ≡ cond (ltb n 4294967296) n 0
common_multiple_is ps n l h least =
    ⊎_elim
    (λ (e : common_multiple ps 1 ≡ 0).
    e ∙ sym (cond-false (ltb n 4294967296) n 0 (le-ltb n 4294967296 (common_multiple_cut ps 1 n l (n, omega arith) h e))))
    (λ (z : common_multiple ps 1 ≡ 0 → ⊥).
    let e : common_multiple ps 1 ≡ n =
    divides_antisym (common_multiple ps 1) n (common_multiple_least ps 1 n (n, omega arith) h z) (least (common_multiple ps 1) (common_multiple_divides ps 1 z).1) in
    e ∙ sym (cond-true (ltb n 4294967296) n 0 (lt-ltb n 4294967296 (let b = common_multiple_below ps 1 (omega arith) in omega arith))))
    (cases_eq (common_multiple ps 1) 0)

-- rows that divide the same numbers have the same
same_if_below : (ps qs : List Part) → ((n : ℕ) → divides_all n ps ≡ true → divides_all n qs ≡ true) → ((n : ℕ) → divides_all n qs ≡ true → divides_all n ps ≡ true)
    → common_multiple ps 1 ≢ 0 → common_multiple qs 1 ≡ common_multiple ps 1
same_if_below ps qs to from z =
    common_multiple_is qs (common_multiple ps 1) (omega arith) (to (common_multiple ps 1) (common_multiple_divides ps 1 z).1)
    (λ m h. common_multiple_least ps 1 m (m, omega arith) (from m h) z)
    ∙ cond-true (ltb (common_multiple ps 1) 4294967296) (common_multiple ps 1) 0 (lt-ltb (common_multiple ps 1) 4294967296 (common_multiple_below ps 1 (omega arith)))

pub common_multiple_cong : (ps qs : List Part) → ((n : ℕ) → divides_all n ps ≡ true → divides_all n qs ≡ true)
    → ((n : ℕ) → divides_all n qs ≡ true → divides_all n ps ≡ true) → common_multiple ps 1 ≡ common_multiple qs 1
common_multiple_cong ps qs to from =
    ⊎_elim
    (λ (e : common_multiple ps 1 ≡ 0).
    ⊎_elim (λ (g : common_multiple qs 1 ≡ 0). e ∙ sym g) (λ (g : common_multiple qs 1 ≡ 0 → ⊥). same_if_below qs ps from to g) (cases_eq (common_multiple qs 1) 0))
    (λ (e : common_multiple ps 1 ≡ 0 → ⊥). sym (same_if_below ps qs to from e)) (cases_eq (common_multiple ps 1) 0)

-- a part beside a row, of a number that divides whatever the row does, as a spouse's part: it changes nothing
pub common_multiple_beside : (q : Part) (ps : List Part) → ((n : ℕ) → divides_all n ps ≡ true → Divides q.by n) → common_multiple (q ∷ ps) 1 ≡ common_multiple ps 1
unfolding divides_all
common_multiple_beside q ps h =
    common_multiple_cong (q ∷ ps) ps (λ n e. (and_parts (eqb (n % q.by) 0) (divides_all n ps) e).1)
    (λ n e. and_from (eqb (n % q.by) 0) (divides_all n ps) (divides_test q.by n (h n e)) e)

-- a row once more changes nothing
pub common_multiple_same : (ps : List Part) (n : ℕ) → n < 4294967296 → divides_all n ps ≡ true → common_multiple ps n ≡ n
unfolding common_multiple divides_all
common_multiple_same [] n l h = refl
common_multiple_same (q ∷ qs) n l h =
    let t = and_parts (eqb (n % q.by) 0) (divides_all n qs) h in
    let e : lcm n q.by ≡ n = lcm_same n q.by (test_divides q.by n t.0) in
    cond-true (ltb (lcm n q.by) 4294967296) (common_multiple qs (lcm n q.by)) 0 (lt-ltb (lcm n q.by) 4294967296 (omega arith))
    ∙ (ap (common_multiple qs) e ∙ common_multiple_same qs n l t.1)

pub common_multiple_repeated : (k : ℕ) (ps : List Part) (n : ℕ) → n < 4294967296 → common_multiple (repeated (suc k) ps) n ≡ common_multiple ps n
unfolding repeated
common_multiple_repeated k ps n l =
    common_multiple_append ps (repeated k ps) n
    ∙ ⊎_elim (λ (e : common_multiple ps n ≡ 0). ap (common_multiple (repeated k ps)) e ∙ (common_multiple_nothing (repeated k ps) ∙ sym e))
    (λ (z : common_multiple ps n ≡ 0 → ⊥).
    common_multiple_same (repeated k ps) (common_multiple ps n) (common_multiple_below ps n l) (divides_repeated (common_multiple ps n) k ps (common_multiple_divides ps n z).1))
    (cases_eq (common_multiple ps n) 0)

-- a number that divides it is below; so is what a living line of the row was given
pub below_multiple : (ps : List Part) (b : ℕ) → common_multiple ps 1 ≢ 0 → Divides b (common_multiple ps 1) → (0 < b) × (b ≤ common_multiple ps 1) × (b < 4294967296)
below_multiple ps b z p =
    let r = divides_le b (common_multiple ps 1) (omega arith) p in
    let l = common_multiple_below ps 1 (omega arith) in
    (r.0, r.1, omega arith)

pub line_below : {f : Family} {rk : ℕ → ℕ} → Ranked f rk → (d p b : ℕ) (qs rs : List Part) → line_lives f d p ≡ true
    → common_multiple (qs ++ (line_parts f d p b ++ rs)) 1 ≢ 0 → b < 4294967296
line_below {f} s d p b qs rs v z =
    let n = common_multiple (qs ++ (line_parts f d p b ++ rs)) 1 in
    let h = divides_both n (line_parts f d p b) rs (divides_both n qs (line_parts f d p b ++ rs) (common_multiple_divides (qs ++ (line_parts f d p b ++ rs)) 1 z).1).1 in
    (below_multiple (qs ++ (line_parts f d p b ++ rs)) b z (line_divides s d n p b v h.0)).2
