-- Listing the persons of living lines, with what each line comes to. Assumes nothing: these are definitions.
use Rattle.std.specs.Prelude.{◌≡◌, ℕ, suc, ◌+◌, ◌≤◌, Bool, true, List, [], ◌∷◌, length, replicate, slice_set}
use Rattle.law.specs.Family.{Family, Part}
use Rattle.theory.specs.Families.{Ranked}
use Rattle.theory.specs.Living.{alive}
use Rattle.bits.specs.Sets.{no_member}
use Rattle.amounts.specs.Passes.{listed_in, filled_up, count_step, multiple_step}
use Rattle.amounts.specs.Lines.{divided_among}
use Rattle.amounts.specs.Statements.{Listing}
use Rattle.passes.specs.Rows.{Rows, Rowed}

-- A list in a row of n words: who stands in front of it came last, and lies behind all the others.
unfoldable pub order_row : ℕ → List ℕ → List ℕ
order_row n [] = replicate n 0
order_row n (p ∷ out) = slice_set (order_row n out) (length out) (suc p)

-- the numbers of parts, and the least multiples, of the lines of all who are listed
abbrev pub counts_row : ℕ → Family → List ℕ → List ℕ
counts_row n f out = filled_up count_step (divided_among f) out (replicate n 0)

abbrev pub multiples_row : ℕ → Family → List ℕ → List ℕ
multiples_row n f out = filled_up multiple_step (divided_among f) out (replicate n 0)

-- the rows when these persons are listed, and nobody has pieces
abbrev pub listed_rows : ℕ → Family → List ℕ → Rows
listed_rows n f out =
    record { heirs = no_member; pieces = replicate n 0; order = order_row n out; counts = counts_row n f out; multiples = multiples_row n f out }

-- the rows when nobody is listed
abbrev pub no_list : ℕ → (ℕ → Bool) → List ℕ → Rows
no_list n heirs pieces = record { heirs = heirs; pieces = pieces; order = replicate n 0; counts = replicate n 0; multiples = replicate n 0 }

-- What is asked to list a line: that it lives, and steps enough for everybody below by their rank.
pub record Ready (ws : List ℕ) (n : ℕ) (f : Family) (rk : ℕ → ℕ) (ps : List Part) (out spare rest : List ℕ) (steps who count : ℕ) : Type 0 where
  pub rows : Rowed ws n f ps (listed_rows n f out) spare rest
  pub listing : Listing f out
  pub long : length out ≡ count
  pub ranked : Ranked f rk
  pub lives : alive f who ≡ true
  pub enough : length f ≤ steps + rk who

-- A line was listed: everybody in it who was not, each with what their line comes to; and how many are listed is said.
pub record LineListed (n : ℕ) (f : Family) (ps : List Part) (out spare rest : List ℕ) (steps who : ℕ) (later : List ℕ) (r : ℕ) : Type 0 where
  pub rows : Rowed later n f ps (listed_rows n f (listed_in steps (divided_among f) who out)) spare rest
  pub next : r ≡ length (listed_in steps (divided_among f) who out)
