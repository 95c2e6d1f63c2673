-- The words that a row of parts is divided in. Assumes nothing: these are definitions.
use Rattle.std.specs.Prelude.{◌≡◌, ℕ, ◌+◌, ◌-◌, ◌*◌, ◌≤◌, Bool, cond, List, [], ◌∷◌, ◌++◌, map, length, replicate, ◌==◌, nat_lt, slice_index}
use Rattle.std.specs.List.{range_with_len, flat_map}
use Rattle.law.specs.Family.{Part}
use Rattle.bits.specs.Sets.{bit_row}

-- a part in two words, and a row of parts
abbrev pub part_words : Part → List ℕ
part_words p = p.who ∷ (p.by ∷ [])

abbrev pub parts_words : List Part → List ℕ
parts_words ps = flat_map part_words ps

-- a part as words hold it: its number is 0 where it is 2 to the 32nd or more
abbrev pub word_part : Part → Part
word_part p = record { who = p.who; by = cond (nat_lt p.by 4294967296) p.by 0 }

-- the part with an index that words hold, and so many of them from an index on
abbrev pub part_in : List ℕ → ℕ → Part
part_in ws i = record { who = slice_index ws (2 * i); by = slice_index ws (2 * i + 1) }

abbrev pub parts_in : List ℕ → ℕ → ℕ → List Part
parts_in ws i k = map (part_in ws) (range_with_len i k)

-- The work area of a register for m persons: 8,192 words for up to 4,096 parts, 128 words for the set of heirs, a word for each person's pieces, and what lies behind.
unfoldable pub work_of : ℕ → List Part → (ℕ → Bool) → (ℕ → ℕ) → List ℕ → List ℕ
work_of m ps heirs amounts rest =
    (parts_words ps ++ replicate (8192 - 2 * length ps) 0) ++ (bit_row 128 heirs ++ (map amounts (range_with_len 0 m) ++ rest))

-- The work area where the estate is divided: each has so many pieces, and the heirs are those who have any.
abbrev pub has_pieces : (ℕ → ℕ) → ℕ → Bool
has_pieces amounts w = nat_lt 0 (amounts w)

abbrev pub divided : ℕ → List Part → (ℕ → ℕ) → List ℕ → List ℕ
divided m ps amounts rest = work_of m ps (has_pieces amounts) amounts rest

-- Words that are such a work area, of a register with room for so many persons.
pub record Held (m : ℕ) (ps : List Part) (amounts : ℕ → ℕ) (rest : List ℕ) (persons : ℕ) (work : List ℕ) : Type 0 where
  pub words : work ≡ divided m ps amounts rest
  pub few : length ps ≤ 4096
  pub within : persons ≤ m

-- no pieces
abbrev pub no_pieces : ℕ → ℕ
no_pieces w = 0

-- what each has, and somebody so many more
abbrev pub more_pieces : (ℕ → ℕ) → ℕ → ℕ → ℕ → ℕ
more_pieces amounts who more w = amounts w + cond (who == w) more 0
