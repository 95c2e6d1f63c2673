-- Names of persons as bytes. Assumes nothing: these are definitions.
use Rattle.std.specs.Prelude.{ℕ, ◌-◌, Bool, false, cond, not, ◌&&◌, ◌||◌, List, [], ◌∷◌, length, Some, None, codes, Option, ◌==◌, nat_le, nat_lt, slice_index_or, count_by}
use Rattle.std.specs.List.{list_all}
use Rattle.std.proofs.Math.Utf8.{encodes, scalars}
use Rattle.std.specs.Str.{bytes_eq, chars}
use Rattle.lines.specs.Words.{begins}

-- Letters are those of ASCII and every byte of a character beyond ASCII.
abbrev pub letter : ℕ → Bool
letter b = (nat_le 65 b && nat_le b 90) || ((nat_le 97 b && nat_le b 122) || nat_le 128 b)

abbrev pub name_byte : ℕ → Bool
name_byte b = letter b || (b == 32 || b == 45)

abbrev pub name_bytes : List ℕ → Bool
name_bytes bs = list_all name_byte bs

-- How many characters: bytes from 128 to 191 carry a character on, and all others begin one.
abbrev pub starts_character : ℕ → Bool
starts_character b = not (nat_le 128 b && nat_lt b 192)

abbrev pub characters : List ℕ → ℕ
characters bs = count_by starts_character bs

-- The bytes are text in UTF-8: the characters that they spell are spelled by them.
unfoldable pub is_text : List ℕ → Bool
is_text bs = scalars (chars bs) && bytes_eq (encodes (chars bs)) bs

abbrev pub text_of : List ℕ → Option (List ℕ)
text_of bs = cond (is_text bs) (Some bs) None

-- The word and, behind a space and before a space or the end.
abbrev pub and_here : List ℕ → Bool
and_here bs = begins (codes " and") bs && slice_index_or bs 4 32 == 32

unfoldable pub has_and : List ℕ → Bool
has_and [] = false
has_and (b ∷ bs) = and_here (b ∷ bs) || has_and bs

-- neither empty, nor a space at either end
abbrev pub no_space_at_ends : List ℕ → Bool
no_space_at_ends bs = not (slice_index_or bs 0 32 == 32) && not (slice_index_or bs (length bs - 1) 32 == 32)

-- stands in the place of a mother who is not known
abbrev pub unknown : List ℕ
unknown = codes "unknown"

-- and as the first word
abbrev pub and_first : List ℕ → Bool
and_first bs = begins (codes "and") bs && slice_index_or bs 3 32 == 32

-- A name has 1 to 64 letters, spaces and hyphens, no space at either end, no word that is and, and is not the word unknown. It is text.
abbrev pub well_formed : List ℕ → Bool
well_formed bs = name_bytes bs && (no_space_at_ends bs && (nat_le (characters bs) 64 && (not (and_first bs) && (not (has_and bs) && not (bytes_eq bs unknown)))))

unfoldable pub is_name : List ℕ → Bool
is_name bs = well_formed bs && is_text bs

-- the name that bytes are, if they are one
abbrev pub name_in : List ℕ → Option (List ℕ)
name_in bs = cond (is_name bs) (Some bs) None
