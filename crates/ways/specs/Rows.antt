-- The code's persons, ways and rows as those of the definitions. Assumes nothing: these are definitions.
use Rattle.std.specs.Prelude.{ℕ, Bool, false, cond, ◌||◌, List, map, vec_items, ◌==◌, slice_index_or}
use Rattle.law.specs.Family.{Family, person, children, some_of}
use Rattle.people.specs.Persons.{law_person}
use Rattle.people.specs.declared.Person.{Person}
use Rattle.ways.specs.declared.Way.{Way}
use Rattle.ways.specs.Ways as ways

-- the family of a row of persons
abbrev pub family_of : List Person → Family
family_of ps = map law_person ps

-- who is in a set that is given by a row
abbrev pub in_row : List Bool → ℕ → Bool
in_row ms p = slice_index_or ms p false

-- whose line lives, if it is known of everybody's children
abbrev pub lives_next : Family → ℕ → (ℕ → Bool) → ℕ → Bool
lives_next f d s p = cond (p == d) false ((person f p).lives || some_of s (children f p))

-- the code's way as the definitions'
abbrev pub law_way : Way → ways.Way
law_way w = record { line = vec_items w.line; who = w.who; by = w.by }

abbrev pub law_ways : List Way → List ways.Way
law_ways ws = map law_way ws
