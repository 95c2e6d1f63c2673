-- Rows of parts of which each number is so many times larger; what joined rows come to; pieces of a sum. Assumes nothing.
use Rattle.std.proofs.Common.{◌≡◌, ℕ, zero, suc, ◌+◌, ◌*◌, ◌/◌, ◌%◌, Bool, true, false, cond, not, ◌&&◌, eqb, List, [], ◌∷◌, ◌++◌, map, length, sum_by, sym, refl, ap, ◌∙◌, ap₂, arith}
use native.Mathlib.Nat.{div-div-eq-div-mul, div-zero, zero-div, mul-div_right}
use Rattle.std.specs.List.{flat_map, AllByRecursion}
use Rattle.std.proofs.lemmas.List.{length-append, length-map, map-append}
use Rattle.std.proofs.lemmas.List.Sums.{sum_by-cons}
use Rattle.std.proofs.lemmas.Bool.{and_parts, and_from}
use Rattle.law.specs.Family.{person, Family, Part, line_parts_in, line_parts}
use Rattle.law.specs.Calls.{divides_all, pieces}
use Rattle.theory.specs.Living.{lines_below}
use Rattle.theory.specs.Multiples.{Divides}
use Rattle.theory.proofs.Lists.{all_any, joined_cong}
use Rattle.theory.proofs.Parts.{pieces_append}
use Rattle.theory.proofs.Multiples.{divides_zero, divides_test, test_divides}

-- a part by so many times as much
abbrev pub scaled : ℕ → Part → Part
scaled b q = record { who = q.who; by = b * q.by }

map-joined : {X Y Z : Type 0} (h : Y → Z) (g : X → List Y) (xs : List X) → map h (flat_map g xs) ≡ flat_map (λ x. map h (g x)) xs
map-joined h g [] = refl
map-joined {X} {Y} {Z} h g (x ∷ xs) = map-append h (g x) (flat_map g xs) ∙ ap (λ (ys : List Z). map h (g x) ++ ys) (map-joined h g xs)

-- a line that was given one by so many times as much
scaled_in : (f : Family) (d n p b c : ℕ) → line_parts_in n f d p (b * c) ≡ map (scaled b) (line_parts_in n f d p c)
unfolding line_parts_in
scaled_in f d zero p b c = refl
scaled_in f d (suc n) p b c =
    let k = length (lines_below f d p) in
    by (not (eqb p d) && (person f p).lives) (flat_map (λ x. line_parts_in n f d x (b * c * k)) (lines_below f d p)) (flat_map (λ x. line_parts_in n f d x (c * k)) (lines_below f d p))
    (joined_cong (λ x. line_parts_in n f d x (b * c * k)) (λ x. map (scaled b) (line_parts_in n f d x (c * k))) (lines_below f d p)
    (all_any (λ x. line_parts_in n f d x (b * c * k) ≡ map (scaled b) (line_parts_in n f d x (c * k)))
    (λ x. ap (line_parts_in n f d x) (assoc k) ∙ scaled_in f d n x b (c * k)) (lines_below f d p))
    ∙ sym (map-joined (scaled b) (λ x. line_parts_in n f d x (c * k)) (lines_below f d p)))
  where
    assoc : (k : ℕ) → b * c * k ≡ b * (c * k)
    assoc k = omega arith

    by : (t : Bool) (ps qs : List Part) → ps ≡ map (scaled b) qs → cond t (record { who = p; by = b * c } ∷ []) ps ≡ map (scaled b) (cond t (record { who = p; by = c } ∷ []) qs)
    by true ps qs e = refl
    by false ps qs e = e

pub line_scaled : (f : Family) (d p b : ℕ) → line_parts f d p b ≡ map (scaled b) (line_parts f d p 1)
line_scaled f d p b = ap (λ (k : ℕ). line_parts f d p k) (one b) ∙ scaled_in f d (suc (length f)) p b 1
  where
    one : (b : ℕ) → b ≡ b * 1
    one b = omega arith

-- so it has as many parts, and of n pieces as many as of n by b
pub line_count : (f : Family) (d p b : ℕ) → length (line_parts f d p b) ≡ length (line_parts f d p 1)
line_count f d p b = ap length (line_scaled f d p b) ∙ length-map (line_parts f d p 1) (scaled b)

pieces_scaled : (n b w : ℕ) (ps : List Part) → pieces n (map (scaled b) ps) w ≡ pieces (n / b) ps w
unfolding pieces
pieces_scaled n b w [] = refl
pieces_scaled n b w (q ∷ qs) = ap₂ (λ (x y : ℕ). cond (eqb q.who w) x 0 + y) (sym (div-div-eq-div-mul n b q.by)) (pieces_scaled n b w qs)

pub line_pieces_by : (f : Family) (d n p b w : ℕ) → pieces n (line_parts f d p b) w ≡ pieces (n / b) (line_parts f d p 1) w
line_pieces_by f d n p b w = ap (λ (ps : List Part). pieces n ps w) (line_scaled f d p b) ∙ pieces_scaled n b w (line_parts f d p 1)

-- what divides a portion
pub divides_portion : (b k n : ℕ) → Divides (b * k) n → Divides k (n / b)
divides_portion zero k n p = (0, div-zero n ∙ nothing k)
  where
    nothing : (k : ℕ) → 0 ≡ k * 0
    nothing k = omega arith
divides_portion (suc b) k n p = (p.0, ap (λ (u : ℕ). u / suc b) (p.1 ∙ assoc p.0) ∙ mul-div_right (k * p.0) (omega arith))
  where
    assoc : (z : ℕ) → suc b * k * z ≡ suc b * (k * z)
    assoc z = omega arith

divides_scaled : (n b : ℕ) (ps : List Part) → divides_all n (map (scaled b) ps) ≡ true → divides_all (n / b) ps ≡ true
unfolding divides_all
divides_scaled n b [] h = refl
divides_scaled n b (q ∷ qs) h =
    let r = and_parts (eqb (n % (b * q.by)) 0) (divides_all n (map (scaled b) qs)) h in
    and_from (eqb (n / b % q.by) 0) (divides_all (n / b) qs) (divides_test q.by (n / b) (divides_portion b q.by n (test_divides (b * q.by) n r.0)))
    (divides_scaled n b qs r.1)

pub line_divides_by : (f : Family) (d n p b : ℕ) → divides_all n (line_parts f d p b) ≡ true → divides_all (n / b) (line_parts f d p 1) ≡ true
line_divides_by f d n p b h = divides_scaled n b (line_parts f d p 1) (ap (divides_all n) (sym (line_scaled f d p b)) ∙ h)

-- nothing
pub pieces_nothing : (ps : List Part) (w : ℕ) → pieces 0 ps w ≡ 0
unfolding pieces
pieces_nothing [] w = refl
pieces_nothing (q ∷ qs) w = ap₂ (λ (x y : ℕ). cond (eqb q.who w) x 0 + y) (zero-div q.by) (pieces_nothing qs w) ∙ same (eqb q.who w)
  where
    same : (t : Bool) → cond t 0 0 + 0 ≡ 0
    same true = refl
    same false = refl

pub divides_nothing : (ps : List Part) → divides_all 0 ps ≡ true
unfolding divides_all
divides_nothing [] = refl
divides_nothing (q ∷ qs) = and_from (eqb (0 % q.by) 0) (divides_all 0 qs) (divides_test q.by 0 (divides_zero q.by)) (divides_nothing qs)

-- a sum of two numbers that all parts divide
divides_plus : (k x y : ℕ) → Divides k x → Divides k y → Divides k (x + y)
divides_plus k x y p q = (p.0 + q.0, go p.0 q.0 p.1 q.1)
  where
    go : (u v : ℕ) → x ≡ k * u → y ≡ k * v → x + y ≡ k * (u + v)
    go u v a b = omega arith

quotient_plus : (k x y : ℕ) → Divides k x → Divides k y → (x + y) / k ≡ x / k + y / k
unfolding divides_plus
quotient_plus zero x y p q = div-zero (x + y) ∙ sym (ap₂ (λ (u v : ℕ). u + v) (div-zero x) (div-zero y))
quotient_plus (suc k) x y p q =
    ap (λ (u : ℕ). u / suc k) (divides_plus (suc k) x y p q).1
    ∙ (mul-div_right (p.0 + q.0) (omega arith)
    ∙ sym (ap₂ (λ (u v : ℕ). u + v) (ap (λ (u : ℕ). u / suc k) p.1 ∙ mul-div_right p.0 (omega arith)) (ap (λ (u : ℕ). u / suc k) q.1 ∙ mul-div_right q.0 (omega arith))))

pub divides_sum : (x y : ℕ) (ps : List Part) → divides_all x ps ≡ true → divides_all y ps ≡ true → divides_all (x + y) ps ≡ true
unfolding divides_all
divides_sum x y [] h k = refl
divides_sum x y (q ∷ qs) h k =
    let r = and_parts (eqb (x % q.by) 0) (divides_all x qs) h in
    let t = and_parts (eqb (y % q.by) 0) (divides_all y qs) k in
    and_from (eqb ((x + y) % q.by) 0) (divides_all (x + y) qs)
    (divides_test q.by (x + y) (divides_plus q.by x y (test_divides q.by x r.0) (test_divides q.by y t.0))) (divides_sum x y qs r.1 t.1)

pub pieces_sum : (x y w : ℕ) (ps : List Part) → divides_all x ps ≡ true → divides_all y ps ≡ true → pieces (x + y) ps w ≡ pieces x ps w + pieces y ps w
unfolding divides_all pieces
pieces_sum x y w [] h k = refl
pieces_sum x y w (q ∷ qs) h k =
    let r = and_parts (eqb (x % q.by) 0) (divides_all x qs) h in
    let t = and_parts (eqb (y % q.by) 0) (divides_all y qs) k in
    add (eqb q.who w) ((x + y) / q.by) (x / q.by) (y / q.by) (pieces (x + y) qs w) (pieces x qs w) (pieces y qs w)
    (quotient_plus q.by x y (test_divides q.by x r.0) (test_divides q.by y t.0)) (pieces_sum x y w qs r.1 t.1)
  where
    add : (t : Bool) (u a b v c d : ℕ) → u ≡ a + b → v ≡ c + d → cond t u 0 + v ≡ (cond t a 0 + c) + (cond t b 0 + d)
    add true u a b v c d e g = omega arith
    add false u a b v c d e g = omega arith

pub divides_times : (t x : ℕ) (ps : List Part) → divides_all x ps ≡ true → divides_all (t * x) ps ≡ true
divides_times zero x ps h = ap (λ (z : ℕ). divides_all z ps) (nothing x) ∙ divides_nothing ps
  where
    nothing : (x : ℕ) → 0 * x ≡ 0
    nothing x = omega arith
divides_times (suc t) x ps h = ap (λ (z : ℕ). divides_all z ps) (more t x) ∙ divides_sum x (t * x) ps h (divides_times t x ps h)
  where
    more : (t x : ℕ) → suc t * x ≡ x + t * x
    more t x = omega arith

pub pieces_times : (t x w : ℕ) (ps : List Part) → divides_all x ps ≡ true → pieces (t * x) ps w ≡ t * pieces x ps w
pieces_times zero x w ps h = ap (λ (z : ℕ). pieces z ps w) (nothing x) ∙ (pieces_nothing ps w ∙ sym (nothing (pieces x ps w)))
  where
    nothing : (x : ℕ) → 0 * x ≡ 0
    nothing x = omega arith
pieces_times (suc t) x w ps h =
    ap (λ (z : ℕ). pieces z ps w) (more t x)
    ∙ (pieces_sum x (t * x) w ps h (divides_times t x ps h) ∙ (ap (λ (z : ℕ). pieces x ps w + z) (pieces_times t x w ps h) ∙ sym (more t (pieces x ps w))))
  where
    more : (t x : ℕ) → suc t * x ≡ x + t * x
    more t x = omega arith

-- sums over persons, and over joined rows
pub sumBy_cong : {X : Type 0} (g h : X → ℕ) (xs : List X) → AllByRecursion (λ x. g x ≡ h x) xs → sum_by g xs ≡ sum_by h xs
sumBy_cong g h [] a = refl
sumBy_cong g h (x ∷ xs) a = sum_by-cons g x xs ∙ (ap₂ (λ (u v : ℕ). u + v) a.0 (sumBy_cong g h xs a.1) ∙ sym (sum_by-cons h x xs))

pub length-joined : {X : Type 0} (g : X → List Part) (xs : List X) → length (flat_map g xs) ≡ sum_by (λ x. length (g x)) xs
length-joined g [] = refl
length-joined {X} g (x ∷ xs) = length-append (g x) (flat_map g xs) ∙ (ap (λ (v : ℕ). length (g x) + v) (length-joined g xs) ∙ sym (sum_by-cons (λ y. length (g y)) x xs))

pub pieces_joined : {X : Type 0} (n w : ℕ) (g : X → List Part) (xs : List X) → pieces n (flat_map g xs) w ≡ sum_by (λ x. pieces n (g x) w) xs
unfolding pieces
pieces_joined n w g [] = refl
pieces_joined n w g (x ∷ xs) =
    pieces_append n (g x) (flat_map g xs) w ∙ (ap (λ (v : ℕ). pieces n (g x) w + v) (pieces_joined n w g xs) ∙ sym (sum_by-cons (λ y. pieces n (g y) w) x xs))
