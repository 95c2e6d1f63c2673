-- Rows of words, known by their words: a part of them, a table, a set, words that are 0. Assumes nothing.
use Rattle.std.proofs.Common.{◌≡◌, ℕ, suc, ◌+◌, ◌*◌, ◌/◌, ◌%◌, ◌^◌, ◌<◌, ◌≤◌, List, [], ◌∷◌, ◌++◌, length, get_or, drop, replicate, sym, ap, ◌∙◌, arith}
use native.Mathlib.Nat.{div-add-mod}
use Rattle.std.proofs.lemmas.List.{drop_more, get_or-replicate, length-replicate}
use Rattle.rows.specs.Tables.{table, Wide}
use Rattle.rows.proofs.Tables.{length-table, get_or-table}
use Rattle.bits.specs.Words.{tested}
use Rattle.bits.specs.Sets.{word_of, bit_row, member_in}
use Rattle.bits.proofs.Words.{same_words}
use Rattle.bits.proofs.Sets.{word_below, tested_word, length-bit_row, get_or-bit_row}

-- a part that is ys, word for word
pub part_is :
    (xs ys : List ℕ) (a b : ℕ) → a + length ys ≡ b → b ≤ length xs → ((i : ℕ) → i < length ys → get_or xs (a + i) 0 ≡ get_or ys i 0) → drop a xs ≡ ys ++ drop b xs
part_is xs [] a b e h at = let s : a ≡ b = omega arith in ap (λ j. drop j xs) s
part_is xs (y ∷ ys) a b e h at =
    let s : a + 0 ≡ a = omega arith in
    let here : get_or xs a 0 ≡ y = ap (λ j. get_or xs j 0) (sym s) ∙ at 0 (omega arith) in
    let rest = part_is xs ys (a + 1) b (omega arith) h (λ i l. let z : a + 1 + i ≡ a + suc i = omega arith in ap (λ j. get_or xs j 0) z ∙ at (suc i) (omega arith)) in
    drop_more xs a 0 (omega arith) ∙ (λ i. here i ∷ rest i)

-- a part that is a table
pub part_table :
    (xs : List ℕ) (n a b : ℕ) (row : ℕ → List ℕ) → Wide 4 row → a + 4 * n ≡ b → b ≤ length xs →
    ((p j : ℕ) → p < n → j < 4 → get_or xs (a + 4 * p + j) 0 ≡ get_or (row p) j 0) → drop a xs ≡ table n row ++ drop b xs
part_table xs n a b row wide e h at =
    let l = length-table 4 n row wide in
    part_is xs (table n row) a b (omega arith) h
    (λ i g.
    let d : 4 * (i / 4) + i % 4 ≡ i = div-add-mod i 4 in
    let q : i / 4 < n = omega arith in
    let r : i % 4 < 4 = omega arith in
    let s : a + i ≡ a + 4 * (i / 4) + i % 4 = omega arith in
    ap (λ j. get_or xs j 0) s ∙ at (i / 4) (i % 4) q r ∙ sym (get_or-table 4 n row (i / 4) (i % 4) wide q r) ∙ ap (λ j. get_or (table n row) j 0) d)

-- a part that is 0
pub part_zeros : (xs : List ℕ) (m a b : ℕ) → a + m ≡ b → b ≤ length xs → ((i : ℕ) → a ≤ i → i < b → get_or xs i 0 ≡ 0) → drop a xs ≡ replicate m 0 ++ drop b xs
part_zeros xs m a b e h at =
    let l = length-replicate {A = ℕ} m 0 in
    part_is xs (replicate m 0) a b (omega arith) h (λ i g. at (a + i) (omega arith) (omega arith) ∙ sym (get_or-replicate m i 0 0 (omega arith)))

-- any words are those of the set that is read from them
pub part_set : (xs : List ℕ) (m a b : ℕ) → a + m ≡ b → b ≤ length xs → ((i : ℕ) → get_or xs i 0 < 2 ^ 32) → drop a xs ≡ bit_row m (member_in xs a) ++ drop b xs
part_set xs m a b e h small =
    let s = member_in xs a in
    let l = length-bit_row m s in
    part_is xs (bit_row m s) a b (omega arith) h
    (λ i g.
    same_words 32 (get_or xs (a + i) 0) (word_of s i) (small (a + i)) (word_below s i)
    (λ k u.
    let x : i ≡ (32 * i + k) / 32 = omega arith in
    let y : k ≡ (32 * i + k) % 32 = omega arith in
    (λ z. tested (get_or xs (a + x z) 0) (y z)) ∙ sym (tested_word s i k u))
    ∙ sym (get_or-bit_row m s i (omega arith)))
