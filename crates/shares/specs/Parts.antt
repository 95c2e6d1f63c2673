-- The code's parts as those of the definitions, and the row of parts that is divided. Assumes nothing: these are definitions.
use Rattle.std.specs.Prelude.{ℕ, Bool, cond, not, ◌&&◌, List, [], ◌∷◌, ◌++◌, length, Some, None, Option, ◌==◌, nat_le, nat_lt}
use Rattle.law.specs.Family.{repeated}
use Rattle.law.specs.Family as law
use Rattle.law.specs.Calls.{common_multiple}
use Rattle.shares.specs.declared.Part.{Part}

abbrev pub law_part : Part → law.Part
law_part p = record { who = p.who; by = p.by }

-- a part that stands first, if there is one
abbrev pub lead_parts : Option Part → List law.Part
lead_parts None = []
lead_parts (Some p) = law_part p ∷ []

-- What is divided: a part that stands first, and a row of which each part counts so many times.
abbrev pub whole_row : Option Part → ℕ → List law.Part → List law.Part
whole_row lead times ps = lead_parts lead ++ repeated times ps

-- Rows that can be divided: at most 4,096 parts, as they are listed, whose least common multiple is below 2 to the 32nd.
abbrev pub dividable : List law.Part → Bool
dividable ps = nat_le (length ps) 4096 && not (common_multiple ps 1 == 0)

-- a number that is some, and fits a word
abbrev pub word_number : ℕ → Option ℕ
word_number n = cond (n == 0) None (cond (nat_lt n 4294967296) (Some n) None)

-- the number of pieces that a row is divided by
abbrev pub number_of : List law.Part → Option ℕ
number_of ps = cond (dividable ps) (Some (common_multiple ps 1)) None
