-- What a family is printed as. Assumes nothing: these are definitions.
use Rattle.std.specs.Prelude.{◌≡◌, ℕ, zero, suc, not, List, [], ◌∷◌, ◌++◌, Some, None, Ok, Option}
use Rattle.std.specs.List.{flat_map}
use Rattle.law.specs.Family.{Person, Family}
use Rattle.lines.specs.Grammar.{Line, line_text}
use Rattle.text.specs.Households.{Household, Valid}
use Rattle.text.specs.Reading.{read_family}

-- the name at a place, and that of whoever is written as 0 or one more than their number
abbrev pub name_from : List (List ℕ) → ℕ → Option (List ℕ)
name_from [] k = None
name_from (n ∷ ns) zero = Some n
name_from (n ∷ ns) (suc k) = name_from ns k

abbrev pub name_at : List (List ℕ) → ℕ → Option (List ℕ)
name_at ns zero = None
name_at ns (suc k) = name_from ns k

abbrev pub line_for : List (List ℕ) → List ℕ → Person → Line
line_for ns n p = record { name = n; mother = name_at ns p.mother; father = name_at ns p.father; died = not p.lives; spouse = name_at ns p.spouse }

-- the lines of persons with these names, as long as there are both
abbrev pub lines_for : List (List ℕ) → List (List ℕ) → Family → List Line
lines_for ns [] f = []
lines_for ns (x ∷ xs) [] = []
lines_for ns (x ∷ xs) (p ∷ f) = line_for ns x p ∷ lines_for ns xs f

abbrev pub row : Line → List ℕ
row l = line_text l ++ (10 ∷ [])

abbrev pub text_lines : List Line → List ℕ
text_lines ls = flat_map row ls

-- THE TEXT OF A FAMILY: a line for each person by number, with the spouse on both lines.
unfoldable pub family_text : Household → List ℕ
family_text h = text_lines (lines_for h.names h.names h.family)

-- Reading what was printed gives the same family and names.
unfoldable pub ReadsBack : Type 0
ReadsBack = (h : Household) → Valid h → read_family (family_text h) ≡ Ok h

-- Only valid families are read.
unfoldable pub ReadAreValid : Type 0
ReadAreValid = (bs : List ℕ) (h : Household) → read_family bs ≡ Ok h → Valid h

-- What is printed is one form: whichever text a family was read from, the text that is printed of it is read as the same.
unfoldable pub PrintedAgain : Type 0
PrintedAgain = (bs : List ℕ) (h : Household) → read_family bs ≡ Ok h → read_family (family_text h) ≡ Ok h
