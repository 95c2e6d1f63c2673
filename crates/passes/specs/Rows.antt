-- The rows of numbers that passes along living lines keep in the work area. Assumes nothing: these are definitions.
use Rattle.std.specs.Prelude.{◌≡◌, ℕ, ◌-◌, ◌*◌, ◌≤◌, Bool, List, ◌++◌, length, replicate}
use Rattle.law.specs.Family.{Family, Part}
use Rattle.bits.specs.Sets.{bit_row}
use Rattle.shares.specs.Work.{parts_words}
use Rattle.people.specs.Layout.{working}
use Rattle.passes.specs.declared.Row.{Row}
use Rattle.passes.specs.declared.Row.TheVariants.{Pieces, Order, Counts, Multiples}

-- The set of heirs, and four rows with a word for each person: their pieces; the list of persons, each as one more than their number; for each person who is listed
-- how many parts their line has; and the least number that these divide.
pub record Rows : Type 0 where
  pub heirs : ℕ → Bool
  pub pieces : List ℕ
  pub order : List ℕ
  pub counts : List ℕ
  pub multiples : List ℕ

-- the work area with parts, these rows, and what is spare
abbrev pub rows_area : List Part → Rows → List ℕ → List ℕ
rows_area ps r spare =
    (parts_words ps ++ replicate (8192 - 2 * length ps) 0) ++ (bit_row 128 r.heirs ++ (r.pieces ++ (r.order ++ (r.counts ++ (r.multiples ++ spare)))))

-- words that hold a family, with such a work area for n persons
pub record Rowed (ws : List ℕ) (n : ℕ) (f : Family) (ps : List Part) (r : Rows) (spare rest : List ℕ) : Type 0 where
  pub words : ws ≡ working n f (rows_area ps r spare) rest
  pub few : length ps ≤ 4096
  pub room : length f ≤ n
  pub pieces_long : length r.pieces ≡ n
  pub order_long : length r.order ≡ n
  pub counts_long : length r.counts ≡ n
  pub multiples_long : length r.multiples ≡ n

-- rows of which one is another
abbrev pub with_heirs : Rows → (ℕ → Bool) → Rows
with_heirs r s = record { heirs = s; pieces = r.pieces; order = r.order; counts = r.counts; multiples = r.multiples }

abbrev pub with_pieces : Rows → List ℕ → Rows
with_pieces r xs = record { heirs = r.heirs; pieces = xs; order = r.order; counts = r.counts; multiples = r.multiples }

abbrev pub with_order : Rows → List ℕ → Rows
with_order r xs = record { heirs = r.heirs; pieces = r.pieces; order = xs; counts = r.counts; multiples = r.multiples }

abbrev pub with_counts : Rows → List ℕ → Rows
with_counts r xs = record { heirs = r.heirs; pieces = r.pieces; order = r.order; counts = xs; multiples = r.multiples }

abbrev pub with_multiples : Rows → List ℕ → Rows
with_multiples r xs = record { heirs = r.heirs; pieces = r.pieces; order = r.order; counts = r.counts; multiples = xs }

-- how many rows lie before one of these, what it is, and the rows with another in its place
abbrev pub row_number : Row → ℕ
row_number Pieces = 0
row_number Order = 1
row_number Counts = 2
row_number Multiples = 3

abbrev pub row_of : Row → Rows → List ℕ
row_of Pieces r = r.pieces
row_of Order r = r.order
row_of Counts r = r.counts
row_of Multiples r = r.multiples

abbrev pub with_row : Row → Rows → List ℕ → Rows
with_row Pieces r xs = with_pieces r xs
with_row Order r xs = with_order r xs
with_row Counts r xs = with_counts r xs
with_row Multiples r xs = with_multiples r xs
