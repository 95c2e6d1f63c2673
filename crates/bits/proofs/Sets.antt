-- Laws of the words of a set: what is read from them, and what they are after a member is inserted or removed. Assumes nothing.
use Rattle.std.proofs.Common.{◌≡◌, ℕ, zero, suc, ◌+◌, ◌-◌, ◌*◌, ◌/◌, ◌%◌, ◌^◌, ◌<◌, ◌≤◌, Bool, true, false, cond, eqb, ◌≢◌, List, ◌++◌, length, get_or, set, replicate, sym, refl, ap, ◌∙◌, inl, inr, pow-suc, arith}
use Rattle.rows.specs.Written.{written}
use Rattle.rows.proofs.Written.{put_written}
use Rattle.std.proofs.lemmas.Nat.{mod_below}
use Rattle.std.proofs.lemmas.List.FromFn.{get_or-map-range_with_len, length-map-range_with_len}
use Rattle.std.proofs.lemmas.List.{drop_at, ext_get_or, get_or_append_left, get_or-append_right, get_or-replicate, get_or-set_other, get_or-set_same, length-append, length-replicate, length-set, set-append_left, set-append_right, take_at}
use Rattle.std.proofs.lemmas.Bool.{cases_eq, eq-eqb, ne_eqb}
use Rattle.bits.specs.Words.{tested, inserted, removed}
use Rattle.bits.specs.Sets.{bit_row, member_in, no_member, packed, with_member, without_member, word_of}
use Rattle.bits.proofs.Words.{inserted_below, removed_below, same_words, tested_high, tested_inserted, tested_low, tested_removed, tested_zero}

-- the two sets with p and without p, at p and elsewhere
pub with_same : (s : ℕ → Bool) (p : ℕ) → with_member s p p ≡ true
with_same s p = rw (eq-eqb p p refl)

pub with_other : (s : ℕ → Bool) (p q : ℕ) → q ≢ p → with_member s p q ≡ s q
with_other s p q ne = rw (ne_eqb q p ne)

pub without_same : (s : ℕ → Bool) (p : ℕ) → without_member s p p ≡ false
without_same s p = rw (eq-eqb p p refl)

pub without_other : (s : ℕ → Bool) (p q : ℕ) → q ≢ p → without_member s p q ≡ s q
without_other s p q ne = rw (ne_eqb q p ne)

-- k packed bits
packed_below : (s : ℕ → Bool) (a k : ℕ) → packed s a k < 2 ^ k
unfolding packed
packed_below s a zero = omega arith
packed_below s a (suc k) =
    let p : 2 ^ suc k ≡ 2 ^ k * 2 = pow-suc 2 k in
    let h = packed_below s (suc a) k in
    elim (s a) as (λ v. cond v 1 0 + 2 * packed s (suc a) k < 2 ^ suc k) [ true ↦ omega arith | false ↦ omega arith ]

tested_packed : (s : ℕ → Bool) (a k j : ℕ) → j < k → tested (packed s a k) j ≡ s (a + j)
unfolding packed
tested_packed s a zero j h = absurd (omega arith)
tested_packed s a (suc k) zero h =
    let e : a + 0 ≡ a = omega arith in
    rw (e, tested_low (cond (s a) 1 0 + 2 * packed s (suc a) k))
    (elim (s a) as (λ v. eqb ((cond v 1 0 + 2 * packed s (suc a) k) % 2) 1 ≡ v)
    [ true ↦ eq-eqb _ 1 (omega arith) | false ↦ ne_eqb _ 1 (λ n. omega arith) ])
tested_packed s a (suc k) (suc j) h =
    let half : (cond (s a) 1 0 + 2 * packed s (suc a) k) / 2 ^ 1 ≡ packed s (suc a) k =
    elim (s a) as (λ v. (cond v 1 0 + 2 * packed s (suc a) k) / 2 ^ 1 ≡ packed s (suc a) k) [ true ↦ omega arith | false ↦ omega arith ]
    in
    let e : suc j ≡ 1 + j = omega arith in
    let f : suc a + j ≡ a + suc j = omega arith in
    ap (tested (cond (s a) 1 0 + 2 * packed s (suc a) k)) e
    ∙ (tested_high (cond (s a) 1 0 + 2 * packed s (suc a) k) 1 j ∙ (ap (λ w. tested w j) half ∙ (tested_packed s (suc a) k j (omega arith) ∙ ap s f)))

-- a word of a set
pub word_below : (s : ℕ → Bool) (i : ℕ) → word_of s i < 2 ^ 32
unfolding word_of
word_below s i = packed_below s (32 * i) 32

pub tested_word : (s : ℕ → Bool) (i k : ℕ) → k < 32 → tested (word_of s i) k ≡ s (32 * i + k)
unfolding word_of
tested_word s i k h = tested_packed s (32 * i) 32 k h

pub tested_member : (s : ℕ → Bool) (p : ℕ) → tested (word_of s (p / 32)) (p % 32) ≡ s p
tested_member s p =
    let e : 32 * (p / 32) + p % 32 ≡ p = omega arith in tested_word s (p / 32) (p % 32) (mod_below p 32 (omega arith)) ∙ ap s e

-- a word is known by its members
pub word_same : (s t : ℕ → Bool) (i : ℕ) → ((k : ℕ) → k < 32 → s (32 * i + k) ≡ t (32 * i + k)) → word_of s i ≡ word_of t i
word_same s t i e =
    same_words 32 (word_of s i) (word_of t i) (word_below s i) (word_below t i)
    (λ k h. tested_word s i k h ∙ (e k h ∙ sym (tested_word t i k h)))

pub word_none : (i : ℕ) → word_of no_member i ≡ 0
word_none i =
    same_words 32 (word_of no_member i) 0 (word_below no_member i) (omega arith)
    (λ k h. tested_word no_member i k h ∙ sym (tested_zero k))

-- whether two members of word p / 32 are the same, by their places in it
same_place : (p k : ℕ) → k < 32 → eqb k (p % 32) ≡ eqb (32 * (p / 32) + k) p
same_place p k h =
    elim (cases_eq k (p % 32)) [
      | inl e ↦ eq-eqb k (p % 32) e ∙ sym (eq-eqb (32 * (p / 32) + k) p (omega arith))
      | inr ne ↦ ne_eqb k (p % 32) ne ∙ sym (ne_eqb (32 * (p / 32) + k) p (λ e. ne (omega arith)))
    ]

pub inserted_word : (s : ℕ → Bool) (p : ℕ) → inserted (word_of s (p / 32)) (p % 32) ≡ word_of (with_member s p) (p / 32)
inserted_word s p =
    let i = p / 32 in
    let g : p % 32 < 32 = mod_below p 32 (omega arith) in
    same_words 32 (inserted (word_of s i) (p % 32)) (word_of (with_member s p) i) (inserted_below (word_of s i) (p % 32) (word_below s i) g) (word_below (with_member s p) i)
    (λ k h.
    rw (tested_inserted (word_of s i) (p % 32) k, tested_word (with_member s p) i k h, tested_word s i k h, same_place p k h))

pub removed_word : (s : ℕ → Bool) (p : ℕ) → removed (word_of s (p / 32)) (p % 32) ≡ word_of (without_member s p) (p / 32)
removed_word s p =
    let i = p / 32 in
    let g : p % 32 < 32 = mod_below p 32 (omega arith) in
    same_words 32 (removed (word_of s i) (p % 32)) (word_of (without_member s p) i) (removed_below (word_of s i) (p % 32) (word_below s i)) (word_below (without_member s p) i)
    (λ k h.
    rw (tested_removed (word_of s i) (p % 32) k g h, tested_word (without_member s p) i k h, tested_word s i k h, same_place p k h))

-- the other words stay
pub word_with_other : (s : ℕ → Bool) (p i : ℕ) → i ≢ p / 32 → word_of (with_member s p) i ≡ word_of s i
word_with_other s p i ne = word_same (with_member s p) s i (λ k h. with_other s p (32 * i + k) (λ e. ne (omega arith)))

pub word_without_other : (s : ℕ → Bool) (p i : ℕ) → i ≢ p / 32 → word_of (without_member s p) i ≡ word_of s i
word_without_other s p i ne = word_same (without_member s p) s i (λ k h. without_other s p (32 * i + k) (λ e. ne (omega arith)))

-- the row of a set's words
pub length-bit_row : (m : ℕ) (s : ℕ → Bool) → length (bit_row m s) ≡ m
unfolding bit_row
length-bit_row m s = length-map-range_with_len (word_of s) 0 m

pub get_or-bit_row : (m : ℕ) (s : ℕ → Bool) (i : ℕ) → i < m → get_or (bit_row m s) i 0 ≡ word_of s i
unfolding bit_row
get_or-bit_row m s i h = get_or-map-range_with_len (word_of s) 0 m i i 0 h (omega arith)

-- a row of m words is the row of a set if each of them is the set's
row_is : (m : ℕ) (s : ℕ → Bool) (xs : List ℕ) → length xs ≡ m → ((i : ℕ) → i < m → get_or xs i 0 ≡ word_of s i) → xs ≡ bit_row m s
row_is m s xs n e =
    ext_get_or 0 xs (bit_row m s) (n ∙ sym (length-bit_row m s))
    (λ i h. let g : i < m = omega arith in e i g ∙ sym (get_or-bit_row m s i g))

pub bit_row_same : (m : ℕ) (s t : ℕ → Bool) → ((p : ℕ) → p < 32 * m → s p ≡ t p) → bit_row m s ≡ bit_row m t
bit_row_same m s t e =
    row_is m t (bit_row m s) (length-bit_row m s)
    (λ i h. get_or-bit_row m s i h ∙ word_same s t i (λ k g. e (32 * i + k) (omega arith)))

pub same_members : (m : ℕ) (s t : ℕ → Bool) → bit_row m s ≡ bit_row m t → (p : ℕ) → p < 32 * m → s p ≡ t p
same_members m s t e p h =
    let g : p / 32 < m = omega arith in
    let words : word_of s (p / 32) ≡ word_of t (p / 32) =
    sym (get_or-bit_row m s (p / 32) g) ∙ (ap (λ xs. get_or xs (p / 32) 0) e ∙ get_or-bit_row m t (p / 32) g)
    in
    sym (tested_member s p) ∙ (ap (λ w. tested w (p % 32)) words ∙ tested_member t p)

pub bit_row_none : (m : ℕ) → bit_row m no_member ≡ replicate m 0
bit_row_none m =
    sym (row_is m no_member (replicate m 0) (length-replicate m 0) (λ i h. get_or-replicate m i 0 0 h ∙ sym (word_none i)))

-- a row with one word set to that of another set
row_set : (m : ℕ) (s t : ℕ → Bool) (i v : ℕ) → i < m → v ≡ word_of t i → ((j : ℕ) → j ≢ i → word_of t j ≡ word_of s j) → set (bit_row m s) i v ≡ bit_row m t
row_set m s t i v h e others =
    let n = length-bit_row m s in
    row_is m t (set (bit_row m s) i v) (length-set (bit_row m s) i v ∙ n)
    (λ j g.
    elim (cases_eq j i) [
      | inl y ↦ rw (y, get_or-set_same (bit_row m s) i v 0 (omega arith)) e
      | inr ne ↦ get_or-set_other (bit_row m s) i j v 0 ne ∙ (get_or-bit_row m s j g ∙ sym (others j ne))
    ])

pub row_inserted : (m : ℕ) (s : ℕ → Bool) (p : ℕ) → p < 32 * m → set (bit_row m s) (p / 32) (inserted (word_of s (p / 32)) (p % 32)) ≡ bit_row m (with_member s p)
row_inserted m s p h =
    row_set m s (with_member s p) (p / 32) (inserted (word_of s (p / 32)) (p % 32)) (omega arith) (inserted_word s p) (word_with_other s p)

pub row_removed : (m : ℕ) (s : ℕ → Bool) (p : ℕ) → p < 32 * m → set (bit_row m s) (p / 32) (removed (word_of s (p / 32)) (p % 32)) ≡ bit_row m (without_member s p)
row_removed m s p h =
    row_set m s (without_member s p) (p / 32) (removed (word_of s (p / 32)) (p % 32)) (omega arith) (removed_word s p) (word_without_other s p)

-- a row between others in memory
module _ (memory front rest : List ℕ) (m : ℕ) (s : ℕ → Bool) (at : ℕ) (held : memory ≡ front ++ (bit_row m s ++ rest)) (first : length front ≡ at) where
  pub get_or-among : (i : ℕ) → i < m → get_or memory (at + i) 0 ≡ word_of s i
  get_or-among i h =
      let e : at + i - at ≡ i = omega arith in
      let n = length-bit_row m s in
      ap (λ r. get_or r (at + i) 0) held
      ∙ (get_or-append_right front (bit_row m s ++ rest) at (at + i) 0 first (omega arith)
      ∙ (ap (λ j. get_or (bit_row m s ++ rest) j 0) e ∙ (get_or_append_left (bit_row m s) rest 0 i (omega arith) ∙ get_or-bit_row m s i h)))

  set_among : (i v : ℕ) → i < m → set memory (at + i) v ≡ front ++ (set (bit_row m s) i v ++ rest)
  set_among i v h =
      let e : at + i - at ≡ i = omega arith in
      let n = length-bit_row m s in
      ap (λ r. set r (at + i) v) held
      ∙ (set-append_right front (bit_row m s ++ rest) at (at + i) v first (omega arith)
      ∙ ap (λ r. front ++ r) (ap (λ j. set (bit_row m s ++ rest) j v) e ∙ set-append_left (bit_row m s) rest i v (omega arith)))

  pub member_among : (p : ℕ) → p < 32 * m → member_in memory at p ≡ s p
  member_among p h = ap (λ w. tested w (p % 32)) (get_or-among (p / 32) (omega arith)) ∙ tested_member s p

  pub inserted_among : (p : ℕ) → p < 32 * m → set memory (at + p / 32) (inserted (get_or memory (at + p / 32) 0) (p % 32)) ≡ front ++ (bit_row m (with_member s p) ++ rest)
  inserted_among p h =
      let g : p / 32 < m = omega arith in
      rw (get_or-among (p / 32) g)
      (set_among (p / 32) (inserted (word_of s (p / 32)) (p % 32)) g ∙ ap (λ r. front ++ (r ++ rest)) (row_inserted m s p h))

  pub removed_among : (p : ℕ) → p < 32 * m → set memory (at + p / 32) (removed (get_or memory (at + p / 32) 0) (p % 32)) ≡ front ++ (bit_row m (without_member s p) ++ rest)
  removed_among p h =
      let g : p / 32 < m = omega arith in
      rw (get_or-among (p / 32) g)
      (set_among (p / 32) (removed (word_of s (p / 32)) (p % 32)) g ∙ ap (λ r. front ++ (r ++ rest)) (row_removed m s p h))

-- a part of memory that is written over with zeros
pub cleared_among : (memory front row rest : List ℕ) (m at : ℕ) → memory ≡ front ++ (row ++ rest) → length front ≡ at → length row ≡ m
    → written at (replicate m 0) memory ≡ front ++ (bit_row m no_member ++ rest)
cleared_among memory front row rest m at held first n =
    let long : at + m ≤ length (front ++ (row ++ rest)) = simp length-append (omega arith) in
    ap (written at (replicate m 0)) held
    ∙ (sym (put_written at m (replicate m 0) (front ++ (row ++ rest)) long (length-replicate m 0))
    ∙ rw (take_at front (row ++ rest) at first, drop_at front (row ++ rest) at first, drop_at row rest m n, bit_row_none m))
