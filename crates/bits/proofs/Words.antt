-- Laws of the bits of a word. Assumes nothing.
use Rattle.std.proofs.Common.{◌≡◌, ℕ, zero, suc, ◌+◌, ◌-◌, ◌*◌, ◌/◌, ◌%◌, ◌^◌, ◌<◌, true, false, cond, eqb, ◌≢◌, sym, refl, ap, ◌∙◌, inl, inr, mod-eq_of_lt, pow-suc, arith}
use native.Mathlib.Nat.{div-eq_of_lt, div_self, mul-mod_left}
use lib.Bits.{bit_and, bit_or, bit_xor, and_zero_r, or_zero_r, xor_add_and}
use lib.Count.{count_trailing_zeros, under}
use lib.Pow.{high, ones_lt, ones_split}
use Rattle.std.proofs.lemmas.Nat.{and_comm, and_le_l, and_mask, and_mod, and_shr, mod_below, one_shl, or_lt, or_mod, or_shr, pow-add, pow_below, pow_pos, shl-shr, shr-shr, xor_mod, xor_shr}
use Rattle.std.proofs.lemmas.Bool.{cases_Bool, cases_eq, cases_order, eq-eqb, eqb-false, eqb-true, ne_eqb}
use Rattle.bits.specs.Words.{tested, inserted, removed}

abbrev bit_of : ℕ → ℕ → ℕ
bit_of w k = w / 2 ^ k % 2

bit_below : (w k : ℕ) → bit_of w k < 2
bit_below w k = mod_below (w / 2 ^ k) 2 (omega arith)

-- the lowest bit, and those above it
pub tested_low : (w : ℕ) → tested w 0 ≡ eqb (w % 2) 1
unfolding tested
tested_low w = let e : w / 2 ^ 0 ≡ w = omega arith in rw e

pub tested_high : (w j k : ℕ) → tested w (j + k) ≡ tested (w / 2 ^ j) k
unfolding tested
tested_high w j k = ap (λ n. eqb (n % 2) 1) (sym (shr-shr w j k))

tested_next : (w k : ℕ) → tested w (suc k) ≡ tested (w / 2) k
tested_next w k = let e : suc k ≡ 1 + k = omega arith in rw e (tested_high w 1 k)

pub tested_zero : (k : ℕ) → tested 0 k ≡ false
unfolding tested
tested_zero k = let e : 0 / 2 ^ k ≡ 0 = div-eq_of_lt (pow_pos k) in rw e

-- a bit past the word's end
pub tested_past : (w k : ℕ) → w < 2 ^ k → tested w k ≡ false
unfolding tested
tested_past w k h = let e : w / 2 ^ k ≡ 0 = div-eq_of_lt h in rw e

-- two words of n bits are equal if their bits are
pub same_words : (n v w : ℕ) → v < 2 ^ n → w < 2 ^ n → ((k : ℕ) → k < n → tested v k ≡ tested w k) → v ≡ w
same_words zero v w g h e = omega arith
same_words (suc n) v w g h e =
    let p : 2 ^ suc n ≡ 2 ^ n * 2 = pow-suc 2 n in
    let halves : v / 2 ≡ w / 2 =
    same_words n (v / 2) (w / 2) (omega arith) (omega arith) (λ k l. sym (tested_next v k) ∙ (e (suc k) (omega arith) ∙ tested_next w k))
    in
    let low : eqb (v % 2) 1 ≡ eqb (w % 2) 1 = sym (tested_low v) ∙ (e 0 (omega arith) ∙ tested_low w) in
    elim (cases_Bool (eqb (w % 2) 1)) [
      | inl y ↦ omega (arith, eqb-true (v % 2) 1 (low ∙ y), eqb-true (w % 2) 1 y)
      | inr y ↦ let a : v % 2 ≢ 1 = eqb-false (v % 2) 1 (low ∙ y) in let b : w % 2 ≢ 1 = eqb-false (w % 2) 1 y in omega arith
    ]

-- a bit of what `|`, `&` and `^` give
or_bit : (a b k : ℕ) → bit_of (bit_or a b) k ≡ bit_or (bit_of a k) (bit_of b k)
or_bit a b k = ap (λ x. x % 2) (or_shr a b k) ∙ or_mod (a / 2 ^ k) (b / 2 ^ k) 1

and_bit : (a b k : ℕ) → bit_of (bit_and a b) k ≡ bit_and (bit_of a k) (bit_of b k)
and_bit a b k = ap (λ x. x % 2) (and_shr a b k) ∙ and_mod (a / 2 ^ k) (b / 2 ^ k) 1

xor_bit : (a b k : ℕ) → bit_of (bit_xor a b) k ≡ bit_xor (bit_of a k) (bit_of b k)
xor_bit a b k = ap (λ x. x % 2) (xor_shr a b k) ∙ xor_mod (a / 2 ^ k) (b / 2 ^ k) 1

-- a power of two has one bit
pow_same : (k : ℕ) → bit_of (2 ^ k) k ≡ 1
pow_same k = ap (λ x. x % 2) (div_self (pow_pos k))

pow_above : (i j : ℕ) → bit_of (2 ^ (suc i + j)) j ≡ 0
pow_above i j =
    ap (λ x. x / 2 ^ j % 2) (pow-add 2 (suc i) j)
    ∙ (ap (λ x. x % 2) (shl-shr (2 ^ suc i) j) ∙ (ap (λ x. x % 2) (pow-suc 2 i) ∙ mul-mod_left (2 ^ i) 2))

pow_other : (k j : ℕ) → j ≢ k → bit_of (2 ^ k) j ≡ 0
pow_other k j ne =
    elim (cases_order k j) [
      | inl e ↦ absurd (ne (sym e))
      | inr (inl h) ↦ ap (λ x. x % 2) (div-eq_of_lt (pow_below k j h))
      | inr (inr h) ↦ let e : k ≡ suc (k - suc j) + j = omega arith in ap (λ n. bit_of (2 ^ n) j) e ∙ pow_above (k - suc j) j
    ]

or_one : (x : ℕ) → x < 2 → bit_or x 1 ≡ 1
or_one zero h = refl
or_one (suc zero) h = refl
or_one (suc (suc x)) h = absurd (omega arith)

and_one : (x : ℕ) → x < 2 → bit_and x 1 ≡ x
and_one zero h = refl
and_one (suc zero) h = refl
and_one (suc (suc x)) h = absurd (omega arith)

-- 32 bits that are all set, and all but one
ones_bit : (i j : ℕ) → bit_of (2 ^ (suc i + j) - 1) j ≡ 1
ones_bit i j =
    ap (λ x. x / 2 ^ j % 2) (ones_split (suc i) j)
    ∙ (ap (λ x. x % 2) (high (2 ^ suc i - 1) j (ones_lt j)) ∙ (ap (λ x. (x - 1) % 2) (pow-suc 2 i) ∙ last (2 ^ i) (pow_pos i)))
  where
    last : (x : ℕ) → 0 < x → (x * 2 - 1) % 2 ≡ 1
    last x h = omega arith

all_ones : (j : ℕ) → j < 32 → bit_of (2 ^ 32 - 1) j ≡ 1
all_ones j h = let e : 32 ≡ suc (31 - j) + j = omega arith in ap (λ n. bit_of (2 ^ n - 1) j) e ∙ ones_bit (31 - j) j

minus_xor : (m : ℕ) → m < 2 ^ 32 → 2 ^ 32 - 1 - m ≡ bit_xor (2 ^ 32 - 1) m
minus_xor m h =
    let a : bit_and (2 ^ 32 - 1) m ≡ m = and_comm (2 ^ 32 - 1) m ∙ (and_mask m 32 ∙ mod-eq_of_lt h) in
    omega (arith, a, xor_add_and (2 ^ 32 - 1) m)

mask_same : (k : ℕ) → k < 32 → bit_of (2 ^ 32 - 1 - 2 ^ k) k ≡ 0
mask_same k h =
    ap (λ x. bit_of x k) (minus_xor (2 ^ k) (pow_below k 32 h))
    ∙ (xor_bit (2 ^ 32 - 1) (2 ^ k) k ∙ (ap (λ x. bit_xor x (bit_of (2 ^ k) k)) (all_ones k h) ∙ ap (λ x. bit_xor 1 x) (pow_same k)))

mask_other : (k j : ℕ) → k < 32 → j < 32 → j ≢ k → bit_of (2 ^ 32 - 1 - 2 ^ k) j ≡ 1
mask_other k j h g ne =
    ap (λ x. bit_of x j) (minus_xor (2 ^ k) (pow_below k 32 h))
    ∙ (xor_bit (2 ^ 32 - 1) (2 ^ k) j ∙ (ap (λ x. bit_xor x (bit_of (2 ^ k) j)) (all_ones j g) ∙ ap (λ x. bit_xor 1 x) (pow_other k j ne)))

-- a bit of a word with one inserted, or removed
pub tested_inserted : (w k j : ℕ) → tested (inserted w k) j ≡ cond (eqb j k) true (tested w j)
unfolding tested inserted
tested_inserted w k j =
    elim (cases_eq j k) [
      | inl e ↦
          rw (eq-eqb j k e, e, or_bit w (2 ^ k) k, pow_same k, or_one (bit_of w k) (bit_below w k))
      | inr ne ↦ rw (ne_eqb j k ne, or_bit w (2 ^ k) j, pow_other k j ne, or_zero_r)
    ]

pub tested_removed : (w k j : ℕ) → k < 32 → j < 32 → tested (removed w k) j ≡ cond (eqb j k) false (tested w j)
unfolding tested removed
tested_removed w k j h g =
    elim (cases_eq j k) [
      | inl e ↦ rw (eq-eqb j k e, e, and_bit w (2 ^ 32 - 1 - 2 ^ k) k, mask_same k h, and_zero_r)
      | inr ne ↦ rw (ne_eqb j k ne, and_bit w (2 ^ 32 - 1 - 2 ^ k) j, mask_other k j h g ne, and_one (bit_of w j) (bit_below w j))
    ]

-- the words as code has them
pub inserted_code : (w k : ℕ) → k < 32 → bit_or w (1 * 2 ^ k % 2 ^ 32) ≡ inserted w k
unfolding inserted
inserted_code w k h = ap (bit_or w) (one_shl k 32 h)

pub removed_code : (w k : ℕ) → k < 32 → bit_and w (2 ^ 32 - 1 - 1 * 2 ^ k % 2 ^ 32) ≡ removed w k
unfolding removed
removed_code w k h = ap (λ x. bit_and w (2 ^ 32 - 1 - x)) (one_shl k 32 h)

pub inserted_below : (w k : ℕ) → w < 2 ^ 32 → k < 32 → inserted w k < 2 ^ 32
unfolding inserted
inserted_below w k h g = or_lt 32 w (2 ^ k) h (pow_below k 32 g)

pub removed_below : (w k : ℕ) → w < 2 ^ 32 → removed w k < 2 ^ 32
unfolding removed
removed_below w k h = omega (arith, and_le_l w (2 ^ 32 - 1 - 2 ^ k))

-- the lowest bit that is set
pub trailing_zeros : (n w : ℕ) → 0 < w → w < 2 ^ n → (tested w (count_trailing_zeros n w) ≡ true) × ((k : ℕ) → k < count_trailing_zeros n w → tested w k ≡ false)
unfolding count_trailing_zeros
trailing_zeros zero w g h = absurd (omega arith)
trailing_zeros (suc n) w g h =
    let p : 2 ^ suc n ≡ 2 ^ n * 2 = pow-suc 2 n in
    go (w % 2) refl (λ z. trailing_zeros n (w / 2) (omega arith) (omega arith))
  where
    go : (b : ℕ) → w % 2 ≡ b → (w % 2 ≡ 0 → (tested (w / 2) (count_trailing_zeros n (w / 2)) ≡ true) × ((k : ℕ) → k < count_trailing_zeros n (w / 2) → tested (w / 2) k ≡ false))
        → (tested w (under b (count_trailing_zeros n (w / 2))) ≡ true) × ((k : ℕ) → k < under b (count_trailing_zeros n (w / 2)) → tested w k ≡ false)
    go zero e r = (
      tested_next w (count_trailing_zeros n (w / 2)) ∙ (r e).0,
      λ k l.
          elim k as (λ k. k < suc (count_trailing_zeros n (w / 2)) → tested w k ≡ false) [
            | zero ↦ λ l. tested_low w ∙ ne_eqb (w % 2) 1 (λ y. omega arith)
            | suc k ↦ λ l. tested_next w k ∙ (r e).1 k (omega arith)
          ] l,
    )
    go (suc b) e r = (tested_low w ∙ eq-eqb (w % 2) 1 (omega arith), λ k l. absurd (omega arith))
