-- What the keeping of living lines asks of a family in memory. Assumes nothing: these are definitions.
use Rattle.std.specs.Prelude.{◌≡◌, ℕ, ◌-◌, ◌≤◌, Bool, cond, List, length, Some, None, Option}
use Rattle.law.specs.Family.{Family, person}
use Rattle.children.specs.Links.{link_row}
use Rattle.people.specs.Layout.{person_row, laid}
use Rattle.living.specs.Marks.{unsupported}

-- everybody's parents are among the first n persons
abbrev pub ParentsThere : Family → ℕ → Type 0
ParentsThere f n = (p : ℕ) → ((person f p).mother ≤ n) × ((person f p).father ≤ n)

-- words that hold a family, with some set of persons as bits
abbrev pub Held : List ℕ → ℕ → Family → (ℕ → Bool) → List ℕ → List ℕ → Type 0
Held ws n f s work rest = (ws ≡ laid n (length f) (person_row f) (link_row f) s work rest) × (length f ≤ n)

-- the first of two persons, each given as 0 or one more than a number, whom nothing keeps in the set
abbrev pub first_unsupported : Family → (ℕ → Bool) → ℕ → ℕ → Option ℕ
first_unsupported f s a b = cond (unsupported f s a) (Some (a - 1)) (cond (unsupported f s b) (Some (b - 1)) None)
