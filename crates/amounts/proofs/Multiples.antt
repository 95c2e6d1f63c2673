-- The least number that all parts of a row divide, without and with a cut at 2 to the 32nd. Assumes nothing.
use Rattle.std.proofs.Common.{◌≡◌, ℕ, zero, suc, ◌*◌, ◌/◌, ◌%◌, ◌<◌, ◌≤◌, true, cond, eqb, ltb, List, [], ◌∷◌, ◌++◌, map, length, sym, refl, ap, ◌∙◌, subst, ⊎_elim, arith}
use native.Mathlib.Nat.{eq_of_mul-eq-mul_left}
use Rattle.std.specs.List.{flat_map, AllByRecursion}
use Rattle.std.proofs.lemmas.Bool.{cases_lt, cases_eq, and_parts, and_from, lt-ltb, le-ltb, cond-true, cond-false, cond_both}
use Rattle.law.specs.Family.{Part}
use Rattle.law.specs.Calls.{gcd, common_multiple, divides_all}
use Rattle.theory.specs.Multiples.{Divides, lcm}
use Rattle.theory.proofs.Parts.{Positive, divides_append}
use Rattle.theory.proofs.Multiples.{divides_le, divides_antisym, divides_test, test_divides, divides_more, lcm_left, lcm_right, lcm_least, lcm_same, common_multiple_nothing}
use Rattle.amounts.specs.Passes.{word_or_zero}
use Rattle.amounts.specs.Lines.{parts_multiple}
use Rattle.amounts.proofs.Rows.{scaled}

-- products
pub times_positive : (a b : ℕ) → 0 < a → 0 < b → 0 < a * b
times_positive zero b l k = absurd (omega arith)
times_positive (suc a) zero l k = absurd (omega arith)
times_positive (suc a) (suc b) l k = omega arith

pub lcm_positive : (a b : ℕ) → 0 < a → 0 < b → 0 < lcm a b
lcm_positive a b l k = (divides_le (lcm a b) (a * b) (times_positive a b l k) (lcm_least a b (a * b) (b, refl) (a, omega arith))).0

pub divides_scale : (b x y : ℕ) → Divides x y → Divides (b * x) (b * y)
divides_scale b x y p = (p.0, ap (λ (u : ℕ). b * u) p.1 ∙ assoc p.0)
  where
    assoc : (z : ℕ) → b * (x * z) ≡ b * x * z
    assoc z = omega arith

divides_unscale : (b x y : ℕ) → 0 < b → Divides (b * x) (b * y) → Divides x y
divides_unscale b x y l p = (p.0, eq_of_mul-eq-mul_left b l y (x * p.0) (p.1 ∙ assoc p.0))
  where
    assoc : (z : ℕ) → b * x * z ≡ b * (x * z)
    assoc z = omega arith

lcm_scaled : (b x y : ℕ) → lcm (b * x) (b * y) ≡ b * lcm x y
lcm_scaled b x y =
    divides_antisym (lcm (b * x) (b * y)) (b * lcm x y)
    (lcm_least (b * x) (b * y) (b * lcm x y) (divides_scale b x (lcm x y) (lcm_left x y)) (divides_scale b y (lcm x y) (lcm_right x y))) (least b)
  where
    assoc : (b z : ℕ) → b * x * z ≡ b * (x * z)
    assoc b z = omega arith

    least : (b : ℕ) → Divides (b * lcm x y) (lcm (b * x) (b * y))
    least zero = (0, nothing (lcm_left (0 * x) (0 * y)))
      where
        nothing : Divides (0 * x) (lcm (0 * x) (0 * y)) → lcm (0 * x) (0 * y) ≡ 0 * lcm x y * 0
        nothing p = p.1 ∙ zeros p.0 (lcm x y)
          where
            zeros : (z m : ℕ) → 0 * x * z ≡ 0 * m * 0
            zeros z m = omega arith
    least (suc b) =
        let p = lcm_left (suc b * x) (suc b * y) in
        let e : lcm (suc b * x) (suc b * y) ≡ suc b * (x * p.0) = p.1 ∙ assoc (suc b) p.0 in
        subst (Divides (suc b * lcm x y)) (sym e)
        (divides_scale (suc b) (lcm x y) (x * p.0)
        (lcm_least x y (x * p.0) (p.0, refl)
        (divides_unscale (suc b) y (x * p.0) (omega arith) (subst (Divides (suc b * y)) e (lcm_right (suc b * x) (suc b * y))))))

-- the least number that all parts divide
pub multiple_divides : (ps : List Part) → divides_all (parts_multiple ps) ps ≡ true
unfolding parts_multiple divides_all
multiple_divides [] = refl
multiple_divides (q ∷ qs) =
    let m = lcm q.by (parts_multiple qs) in
    and_from (eqb (m % q.by) 0) (divides_all m qs) (divides_test q.by m (lcm_left q.by (parts_multiple qs)))
    (divides_more (parts_multiple qs) m qs (lcm_right q.by (parts_multiple qs)) (multiple_divides qs))

pub multiple_least : (n : ℕ) (ps : List Part) → divides_all n ps ≡ true → Divides (parts_multiple ps) n
unfolding parts_multiple divides_all
multiple_least n [] h = (n, omega arith)
multiple_least n (q ∷ qs) h =
    let r = and_parts (eqb (n % q.by) 0) (divides_all n qs) h in
    lcm_least q.by (parts_multiple qs) n (test_divides q.by n r.0) (multiple_least n qs r.1)

pub multiple_enough : (n : ℕ) (ps : List Part) → Divides (parts_multiple ps) n → divides_all n ps ≡ true
multiple_enough n ps p = divides_more (parts_multiple ps) n ps p (multiple_divides ps)

pub multiple_positive : (ps : List Part) → AllByRecursion Positive ps → 0 < parts_multiple ps
unfolding parts_multiple
multiple_positive [] a = omega arith
multiple_positive (q ∷ qs) a = lcm_positive q.by (parts_multiple qs) a.0 (multiple_positive qs a.1)

pub multiple_append : (ps qs : List Part) → parts_multiple (ps ++ qs) ≡ lcm (parts_multiple ps) (parts_multiple qs)
multiple_append ps qs =
    let m = lcm (parts_multiple ps) (parts_multiple qs) in
    divides_antisym (parts_multiple (ps ++ qs)) m
    (multiple_least m (ps ++ qs)
    (divides_append m ps qs
    ∙ and_from (divides_all m ps) (divides_all m qs) (multiple_enough m ps (lcm_left (parts_multiple ps) (parts_multiple qs)))
    (multiple_enough m qs (lcm_right (parts_multiple ps) (parts_multiple qs)))))
    (let n = parts_multiple (ps ++ qs) in
    let r = and_parts (divides_all n ps) (divides_all n qs) (sym (divides_append n ps qs) ∙ multiple_divides (ps ++ qs)) in
    lcm_least (parts_multiple ps) (parts_multiple qs) n (multiple_least n ps r.0) (multiple_least n qs r.1))

-- of joined rows: that of the multiples of each
pub multiple_joined : (g : ℕ → List Part) (xs : List ℕ) → parts_multiple (flat_map g xs) ≡ parts_multiple (map (λ x. record { who = x; by = parts_multiple (g x) }) xs)
unfolding parts_multiple
multiple_joined g [] = refl
multiple_joined g (x ∷ xs) = multiple_append (g x) (flat_map g xs) ∙ ap (lcm (parts_multiple (g x))) (multiple_joined g xs)

-- of a row whose numbers are so many times larger
pub multiple_scaled : (b : ℕ) (ps : List Part) → 0 < length ps → parts_multiple (map (scaled b) ps) ≡ b * parts_multiple ps
unfolding parts_multiple
multiple_scaled b [] l = absurd (omega arith)
multiple_scaled b (q ∷ []) l = lcm_same (b * q.by) 1 (b * q.by, omega arith) ∙ ap (λ (x : ℕ). b * x) (sym (lcm_same q.by 1 (q.by, omega arith)))
multiple_scaled b (q ∷ (r ∷ rs)) l =
    ap (lcm (b * q.by)) (multiple_scaled b (r ∷ rs) (omega arith)) ∙ lcm_scaled b q.by (parts_multiple (r ∷ rs))

-- the cut
pub word_small : (n : ℕ) → n < 4294967296 → word_or_zero n ≡ n
word_small n l = cond-true (ltb n 4294967296) n 0 (lt-ltb n 4294967296 l)

pub word_large : (n : ℕ) → 4294967296 ≤ n → word_or_zero n ≡ 0
word_large n l = cond-false (ltb n 4294967296) n 0 (le-ltb n 4294967296 l)

pub word_times : (k n : ℕ) → word_or_zero (k * word_or_zero n) ≡ word_or_zero (k * n)
word_times k n =
    ⊎_elim (λ (h : n < 4294967296). ap (λ (x : ℕ). word_or_zero (k * x)) (word_small n h))
    (λ (h : 4294967296 ≤ n). ap (λ (x : ℕ). word_or_zero (k * x)) (word_large n h) ∙ (word_small (k * 0) (small k) ∙ ends k h)) (cases_lt n 4294967296)
  where
    small : (k : ℕ) → k * 0 < 4294967296
    small k = omega arith

    ends : (k : ℕ) → 4294967296 ≤ n → k * 0 ≡ word_or_zero (k * n)
    ends zero h = (let z : 0 * 0 ≡ 0 * n = omega arith in z) ∙ sym (word_small (0 * n) (omega arith))
    ends (suc k) h = (let z : suc k * 0 ≡ 0 = omega arith in z) ∙ sym (word_large (suc k * n) (omega arith))

-- parts whose numbers are cut
abbrev pub cut_part : Part → Part
cut_part q = record { who = q.who; by = word_or_zero q.by }

pub common_multiple_part_zero : (q : Part) (ps : List Part) (n : ℕ) → q.by ≡ 0 → common_multiple (q ∷ ps) n ≡ 0
unfolding common_multiple
common_multiple_part_zero q ps n z =
    let e : lcm n q.by ≡ 0 = times_zero (n / gcd n q.by) q.by z in
    cond_both (ltb (lcm n q.by) 4294967296) (common_multiple ps (lcm n q.by)) 0 (λ (x : ℕ). x ≡ 0) (λ _. ap (common_multiple ps) e ∙ common_multiple_nothing ps) (λ _. refl)
  where
    times_zero : (x b : ℕ) → b ≡ 0 → x * b ≡ 0
    times_zero x b e = ap (λ (z : ℕ). x * z) e ∙ (let g : x * 0 ≡ 0 = omega arith in g)

-- cutting each number changes nothing of the least common multiple, which is cut itself
pub common_multiple_words : (ps : List Part) (n : ℕ) → AllByRecursion Positive ps → common_multiple (map cut_part ps) n ≡ common_multiple ps n
unfolding common_multiple
common_multiple_words [] n a = refl
common_multiple_words (q ∷ qs) n a =
    ⊎_elim
    (λ (l : q.by < 4294967296).
    ap (λ (b : ℕ). cond (ltb (lcm n b) 4294967296) (common_multiple (map cut_part qs) (lcm n b)) 0) (word_small q.by l)
    ∙ ap (λ (x : ℕ). cond (ltb (lcm n q.by) 4294967296) x 0) (common_multiple_words qs (lcm n q.by) a.1))
    (λ (l : 4294967296 ≤ q.by).
    common_multiple_part_zero (cut_part q) (map cut_part qs) n (word_large q.by l)
    ∙ sym (⊎_elim (λ (e : n ≡ 0). ap (common_multiple (q ∷ qs)) e ∙ common_multiple_nothing (q ∷ qs))
    (λ (e : n ≡ 0 → ⊥).
    cond-false (ltb (lcm n q.by) 4294967296) (common_multiple qs (lcm n q.by)) 0
    (le-ltb (lcm n q.by) 4294967296
    (let r = divides_le q.by (lcm n q.by) (lcm_positive n q.by (omega arith) a.0) (lcm_right n q.by) in omega arith)))
    (cases_eq n 0)))
    (cases_lt q.by 4294967296)
