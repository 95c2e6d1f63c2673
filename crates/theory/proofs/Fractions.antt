-- A fraction in lowest terms is just one. Assumes nothing.
use Rattle.std.proofs.Common.{◌≡◌, ℕ, zero, suc, ◌+◌, ◌-◌, ◌*◌, ◌<◌, ◌≤◌, sym, refl, ap, ⊎_elim, mul-le-mul_right, le_of_mul-le-mul_right, arith}
use native.Mathlib.Nat.{eq_of_mul-eq-mul_right}
use Rattle.std.proofs.lemmas.Bool.{cases_lt}
use Rattle.theory.specs.Multiples.{Coprime}

pub one_factor : (k z : ℕ) → k * z ≡ 1 → k ≡ 1
one_factor zero z e = omega arith
one_factor (suc zero) z e = refl
one_factor (suc (suc k)) zero e = omega arith
one_factor (suc (suc k)) (suc z) e = omega arith

pub coprime_swap : (a b : ℕ) → Coprime a b → Coprime b a
coprime_swap a b h k x y p q = h k y x q p

pub coprime_nothing : Coprime 0 1
coprime_nothing k x y p q = one_factor k y (sym q)

-- one taken from the other
coprime_less : (a b x : ℕ) → a ≡ b + x → Coprime a b → Coprime x b
coprime_less a b x e h k u v p q = h k (v + u) v (omega arith) q

coprime_zero : (b : ℕ) → Coprime 0 b → b ≡ 1
coprime_zero b h = h b 0 1 (omega arith) (omega arith)

-- of two equal fractions: what is less on one side is less on the other, and the rests are in the same way
less_up : (a b c d : ℕ) → 0 < b → b ≤ a → a * d ≡ c * b → d ≤ c
less_up a b c d z l e = le_of_mul-le-mul_right {m = d} {n = c} {k = b} (omega (arith, mul-le-mul_right {m = b} {n = a} d l)) z

rest_up : (a b c d x y : ℕ) → a ≡ b + x → c ≡ d + y → a * d ≡ c * b → x * d ≡ y * b
rest_up a b c d x y p q e = omega (arith, ap (λ (z : ℕ). z * d) p, ap (λ (z : ℕ). z * b) q)

less_down : (b a d c : ℕ) → 0 < b → a ≤ b → c * b ≡ a * d → c ≤ d
less_down b a d c z l e = le_of_mul-le-mul_right {m = c} {n = d} {k = b} (omega (arith, mul-le-mul_right {m = a} {n = b} d l)) z

rest_down : (b a d c x y : ℕ) → b ≡ a + x → d ≡ c + y → c * b ≡ a * d → c * x ≡ a * y
rest_down b a d c x y p q e = omega (arith, ap (λ (z : ℕ). c * z) p, ap (λ (z : ℕ). a * z) q)

-- by taking the smaller from the larger, in both fractions at once
same_in : (n a b c d : ℕ) → a + b ≤ n → Coprime a b → Coprime c d → a * d ≡ c * b → (a ≡ c) × (b ≡ d)
same_in n zero b c d h p q e =
    let b1 : b ≡ 1 = coprime_zero b p in
    let c0 : c ≡ 0 = omega (arith, ap (λ (z : ℕ). c * z) b1) in
    let d1 : d ≡ 1 = coprime_zero d (rw c0 at q) in
    (omega arith, omega arith)
same_in n (suc a) zero c d h p q e =
    let a1 : suc a ≡ 1 = coprime_zero (suc a) (coprime_swap (suc a) 0 p) in
    let d0 : d ≡ 0 = omega (arith, ap (λ (z : ℕ). z * d) a1) in
    let c1 : c ≡ 1 = coprime_zero c (coprime_swap c 0 (rw d0 at q)) in
    (omega arith, omega arith)
same_in zero (suc a) (suc b) c d h p q e = (omega arith, omega arith)
same_in (suc n) (suc a) (suc b) c d h p q e =
    ⊎_elim
    (λ (l : suc a < suc b).
    let dc : c ≤ d = less_down (suc b) (suc a) d c (omega arith) (omega arith) (sym e) in
    let r : (suc a ≡ c) × (suc b - suc a ≡ d - c) =
    same_in n (suc a) (suc b - suc a) c (d - c) (omega arith)
    (coprime_swap (suc b - suc a) (suc a) (coprime_less (suc b) (suc a) (suc b - suc a) (omega arith) (coprime_swap (suc a) (suc b) p)))
    (coprime_swap (d - c) c (coprime_less d c (d - c) (omega arith) (coprime_swap c d q)))
    (sym (rest_down (suc b) (suc a) d c (suc b - suc a) (d - c) (omega arith) (omega arith) (sym e))) in
    (r.0, omega arith))
    (λ (g : suc b ≤ suc a).
    let dc : d ≤ c = less_up (suc a) (suc b) c d (omega arith) g e in
    let r : (suc a - suc b ≡ c - d) × (suc b ≡ d) =
    same_in n (suc a - suc b) (suc b) (c - d) d (omega arith) (coprime_less (suc a) (suc b) (suc a - suc b) (omega arith) p) (coprime_less c d (c - d) (omega arith) q)
    (rest_up (suc a) (suc b) c d (suc a - suc b) (c - d) (omega arith) (omega arith) e) in
    (omega arith, r.1))
    (cases_lt (suc a) (suc b))

pub same_fraction : (a b c d : ℕ) → Coprime a b → Coprime c d → a * d ≡ c * b → (a ≡ c) × (b ≡ d)
same_fraction a b c d p q e = same_in (a + b) a b c d (omega arith) p q e

-- two fractions of one number of pieces
pub cross : (n z a b c d : ℕ) → 0 < n → a * n ≡ z * b → c * n ≡ z * d → a * d ≡ c * b
cross n z a b c d h p q = eq_of_mul-eq-mul_right n h (a * d) (c * b) (omega (arith, ap (λ (x : ℕ). x * d) p, ap (λ (x : ℕ). x * b) q))
