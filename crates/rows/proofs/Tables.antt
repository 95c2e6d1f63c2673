-- Laws of tables: their length, a row of them, and a row written over. Assumes nothing.
use Rattle.std.proofs.Common.{◌≡◌, ℕ, zero, suc, ◌+◌, ◌*◌, ◌<◌, List, ◌++◌, length, get_or, replicate, sym, refl, ap, ◌∙◌, mul-suc, arith}
use Rattle.std.proofs.lemmas.List.{length-append, get_or_append_left, get_or-append-add, replicate-append-replicate}
use Rattle.rows.specs.Written.{written}
use Rattle.rows.specs.Tables.{table, Wide}
use Rattle.rows.proofs.Written.{written_whole}
use Rattle.rows.proofs.Regions.{written_behind, written_before}

pub length-table : (w n : ℕ) (row : ℕ → List ℕ) → Wide w row → length (table n row) ≡ w * n
unfolding table
length-table w zero row wide = omega arith
length-table w (suc n) row wide =
    simp length-append (omega (arith, wide 0, length-table w n (λ p. row (suc p)) (λ p. wide (suc p)), mul-suc w n))

-- the k-th number of row p
pub get_or-table : (w n : ℕ) (row : ℕ → List ℕ) (p k : ℕ) → Wide w row → p < n → k < w → get_or (table n row) (w * p + k) 0 ≡ get_or (row p) k 0
unfolding table
get_or-table w zero row p k wide h l = absurd (omega arith)
get_or-table w (suc n) row zero k wide h l =
    let e : w * 0 + k ≡ k = omega arith in
    ap (λ j. get_or (row 0 ++ table n (λ p. row (suc p))) j 0) e ∙ get_or_append_left (row 0) (table n (λ p. row (suc p))) 0 k (omega (arith, wide 0))
get_or-table w (suc n) row (suc p) k wide h l =
    let e : w * suc p + k ≡ length (row 0) + (w * p + k) = omega (arith, wide 0, mul-suc w p) in
    ap (λ j. get_or (row 0 ++ table n (λ p. row (suc p))) j 0) e ∙ get_or-append-add (row 0) (table n (λ p. row (suc p))) (w * p + k) 0
    ∙ get_or-table w n (λ p. row (suc p)) p k (λ p. wide (suc p)) (omega arith) l

-- tables of the same rows
pub same_tables : (n : ℕ) (row other : ℕ → List ℕ) → ((p : ℕ) → p < n → row p ≡ other p) → table n row ≡ table n other
unfolding table
same_tables zero row other same = refl
same_tables (suc n) row other same =
    λ i. same 0 (omega arith) i ++ same_tables n (λ p. row (suc p)) (λ p. other (suc p)) (λ p h. same (suc p) (omega arith)) i

-- row p written over: a table of rows that differ from the old ones at p only
pub table_written :
    (w n : ℕ) (row new : ℕ → List ℕ) (p : ℕ) → Wide w row → Wide w new → p < n → ((q : ℕ) → q < n → (q ≡ p → ⊥) → new q ≡ row q) →
    written (w * p) (new p) (table n row) ≡ table n new
unfolding table
table_written w zero row new p wide wide' h other = absurd (omega arith)
table_written w (suc n) row new zero wide wide' h other =
    let e : w * 0 ≡ 0 = omega arith in
    ap (λ j. written j (new 0) (row 0 ++ table n (λ p. row (suc p)))) e
    ∙ written_before (row 0) (table n (λ p. row (suc p))) (new 0) 0 (omega (arith, wide 0, wide' 0))
    ∙ (λ i. written_whole (new 0) (row 0) (wide' 0 ∙ sym (wide 0)) i
    ++ same_tables n (λ p. row (suc p)) (λ p. new (suc p)) (λ q l. sym (other (suc q) (omega arith) (λ z. omega arith))) i)
table_written w (suc n) row new (suc p) wide wide' h other =
    let e : w * suc p ≡ length (row 0) + w * p = omega (arith, wide 0, mul-suc w p) in
    ap (λ j. written j (new (suc p)) (row 0 ++ table n (λ p. row (suc p)))) e
    ∙ written_behind (row 0) (table n (λ p. row (suc p))) (new (suc p)) (w * p)
    ∙ (λ i. sym (other 0 (omega arith) (λ z. omega arith)) i
    ++ table_written w n (λ q. row (suc q)) (λ q. new (suc q)) p (λ q. wide (suc q)) (λ q. wide' (suc q)) (omega arith) (λ q l ne. other (suc q) (omega arith) (λ z. ne (omega arith))) i)

-- a table of rows of zeros
pub table_zeros : (w n : ℕ) (row : ℕ → List ℕ) → ((p : ℕ) → p < n → row p ≡ replicate w 0) → table n row ≡ replicate (w * n) 0
unfolding table
table_zeros w zero row zeros = let e : 0 ≡ w * 0 = omega arith in ap (λ j. replicate j 0) e
table_zeros w (suc n) row zeros =
    (λ i. zeros 0 (omega arith) i ++ table_zeros w n (λ p. row (suc p)) (λ p h. zeros (suc p) (omega arith)) i)
    ∙ replicate-append-replicate w (w * n) 0 ∙ (let e : w + w * n ≡ w * suc n = omega (arith, mul-suc w n) in ap (λ j. replicate j 0) e)
