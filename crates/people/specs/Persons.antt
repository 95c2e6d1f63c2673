-- The code's persons as those of the definitions. Assumes nothing.
use Rattle.std.specs.Prelude.{ℕ, suc, Some, None, Option}
use Rattle.law.specs.Family as law
use Rattle.people.specs.declared.Person.{Person}

abbrev pub law_person : Person → law.Person
law_person p = record { mother = p.mother; father = p.father; lives = p.lives; spouse = p.spouse }

-- the link to somebody, or to nobody
abbrev pub link_of : Option ℕ → ℕ
link_of None = 0
link_of (Some p) = suc p
