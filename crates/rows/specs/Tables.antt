-- Tables: rows of numbers, one behind the other. Assumes nothing: these are definitions.
use Rattle.std.specs.Prelude.{◌≡◌, ℕ, zero, suc, cond, List, [], ◌++◌, length, ◌==◌}

-- the rows of the numbers below n, one behind the other
unfoldable pub table : ℕ → (ℕ → List ℕ) → List ℕ
table zero row = []
table (suc n) row = row 0 ++ table n (λ p. row (suc p))

-- every row has w numbers
abbrev pub Wide : ℕ → (ℕ → List ℕ) → Type 0
Wide w row = (p : ℕ) → length (row p) ≡ w

-- the same rows but for one
abbrev pub with_row : (ℕ → List ℕ) → ℕ → List ℕ → ℕ → List ℕ
with_row row p xs q = cond (q == p) xs (row q)
