-- Numbers in bytes, low byte first, read back from where they stand. Assumes nothing.
use Rattle.std.proofs.Common.{◌≡◌, ℕ, ◌+◌, ◌/◌, ◌<◌, ◌≤◌, List, ◌++◌, length, get_or, ap, ◌∙◌, mod-eq_of_lt, arith}
use native.Mathlib.Nat.{div-div-eq-div-mul}
use Rattle.std.proofs.lemmas.Nat.{div-add-mod', div_below}
use Rattle.std.proofs.lemmas.List.{get_or-append-add, get_or_append_left}
use Rattle.wire.specs.Bytes.{le4, le8, num4, num8}

pub num4_le4 : (n : ℕ) → n < 4294967296 → num4 (le4 n) 0 ≡ n
unfolding le4
num4_le4 n h =
    omega (
      arith,
      div-div-eq-div-mul n 256 256,
      div-div-eq-div-mul n 65536 256,
      div-add-mod' n 256,
      div-add-mod' (n / 256) 256,
      div-add-mod' (n / 65536) 256,
      mod-eq_of_lt (div_below n 16777216 256 (omega arith) (omega arith)),
    )

pub num8_le8 : (n : ℕ) → n < 18446744073709551616 → num8 (le8 n) 0 ≡ n
unfolding le8
num8_le8 n h =
    omega (
      arith,
      div-div-eq-div-mul n 256 256,
      div-div-eq-div-mul n 65536 256,
      div-div-eq-div-mul n 16777216 256,
      div-div-eq-div-mul n 4294967296 256,
      div-div-eq-div-mul n 1099511627776 256,
      div-div-eq-div-mul n 281474976710656 256,
      div-add-mod' n 256,
      div-add-mod' (n / 256) 256,
      div-add-mod' (n / 65536) 256,
      div-add-mod' (n / 16777216) 256,
      div-add-mod' (n / 4294967296) 256,
      div-add-mod' (n / 1099511627776) 256,
      div-add-mod' (n / 281474976710656) 256,
      mod-eq_of_lt (div_below n 72057594037927936 256 (omega arith) (omega arith)),
    )

-- what stands behind other bytes, and before
byte_behind : (pre bs : List ℕ) (i j : ℕ) → i ≡ length pre + j → get_or (pre ++ bs) i 0 ≡ get_or bs j 0
byte_behind pre bs i j e = ap (λ n. get_or (pre ++ bs) n 0) e ∙ get_or-append-add pre bs j 0

pub num4_behind : (pre bs : List ℕ) (i j : ℕ) → i ≡ length pre + j → num4 (pre ++ bs) i ≡ num4 bs j
num4_behind pre bs i j e =
    let a = byte_behind pre bs i j e in
    let b = byte_behind pre bs (i + 1) (j + 1) (omega arith) in
    let c = byte_behind pre bs (i + 2) (j + 2) (omega arith) in
    let d = byte_behind pre bs (i + 3) (j + 3) (omega arith) in
    rw (a, b, c, d)

pub num8_behind : (pre bs : List ℕ) (i j : ℕ) → i ≡ length pre + j → num8 (pre ++ bs) i ≡ num8 bs j
num8_behind pre bs i j e =
    let a = byte_behind pre bs i j e in
    let b = byte_behind pre bs (i + 1) (j + 1) (omega arith) in
    let c = byte_behind pre bs (i + 2) (j + 2) (omega arith) in
    let d = byte_behind pre bs (i + 3) (j + 3) (omega arith) in
    let f = byte_behind pre bs (i + 4) (j + 4) (omega arith) in
    let g = byte_behind pre bs (i + 5) (j + 5) (omega arith) in
    let h = byte_behind pre bs (i + 6) (j + 6) (omega arith) in
    let k = byte_behind pre bs (i + 7) (j + 7) (omega arith) in
    rw (a, b, c, d, f, g, h, k)

byte_before : (bs more : List ℕ) (i : ℕ) → i < length bs → get_or (bs ++ more) i 0 ≡ get_or bs i 0
byte_before bs more i h = get_or_append_left bs more 0 i h

pub num4_before : (bs more : List ℕ) (i : ℕ) → i + 4 ≤ length bs → num4 (bs ++ more) i ≡ num4 bs i
num4_before bs more i h =
    let a = byte_before bs more i (omega arith) in
    let b = byte_before bs more (i + 1) (omega arith) in
    let c = byte_before bs more (i + 2) (omega arith) in
    let d = byte_before bs more (i + 3) (omega arith) in
    rw (a, b, c, d)

pub num8_before : (bs more : List ℕ) (i : ℕ) → i + 8 ≤ length bs → num8 (bs ++ more) i ≡ num8 bs i
num8_before bs more i h =
    let a = byte_before bs more i (omega arith) in
    let b = byte_before bs more (i + 1) (omega arith) in
    let c = byte_before bs more (i + 2) (omega arith) in
    let d = byte_before bs more (i + 3) (omega arith) in
    let f = byte_before bs more (i + 4) (omega arith) in
    let g = byte_before bs more (i + 5) (omega arith) in
    let k = byte_before bs more (i + 6) (omega arith) in
    let l = byte_before bs more (i + 7) (omega arith) in
    rw (a, b, c, d, f, g, k, l)
