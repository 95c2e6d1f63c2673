-- The heirs among those who are listed, and rows that are cleared along the list. Assumes nothing: these are definitions.
use Rattle.std.specs.Prelude.{ℕ, Bool, cond, List, [], ◌∷◌, ◌==◌, slice_index, slice_set}
use Rattle.bits.specs.Sets.{with_member}
use Rattle.passes.specs.Rows.{Rows}

-- a set, and somebody in it who has pieces
abbrev pub with_heir : List ℕ → ℕ → (ℕ → Bool) → ℕ → Bool
with_heir pieces q s = cond (slice_index pieces q == 0) s (with_member s q)

-- a set, and all of a list who have pieces
unfoldable pub heirs_of : List ℕ → List ℕ → (ℕ → Bool) → ℕ → Bool
heirs_of pieces [] s = s
heirs_of pieces (q ∷ qs) s = heirs_of pieces qs (with_heir pieces q s)

-- the rows when somebody at a place of the list leaves it
abbrev pub left_rows : Rows → ℕ → ℕ → Rows
left_rows r i q =
    record {
      heirs = with_heir r.pieces q r.heirs;
      pieces = r.pieces;
      order = slice_set r.order i 0;
      counts = slice_set r.counts q 0;
      multiples = slice_set r.multiples q 0;
    }
