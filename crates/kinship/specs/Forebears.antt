-- Of whose lines somebody is. Assumes nothing: these are definitions.
use Rattle.std.specs.Prelude.{◌≡◌, ℕ, Bool, true, map, length, ◌==◌}
use Rattle.std.specs.List.{range_with_len}
use Rattle.law.specs.Family.{Family, Person, person}
use Rattle.law.specs.Promise.{OfLine}

-- the family in which nobody lives but w
abbrev pub only_person : Family → ℕ → ℕ → Person
only_person f w p = record { mother = (person f p).mother; father = (person f p).father; lives = (p == w); spouse = (person f p).spouse }

abbrev pub only_lives : Family → ℕ → Family
only_lives f w = map (only_person f w) (range_with_len 0 (length f))

-- a set of those of whose line w is
abbrev pub LinesTo : Family → ℕ → (ℕ → Bool) → Type 0
LinesTo f w s = (p : ℕ) → (s p ≡ true → OfLine f p w) × (OfLine f p w → s p ≡ true)
