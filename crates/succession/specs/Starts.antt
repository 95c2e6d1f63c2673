-- The lines that an estate begins with, as values. Assumes nothing: these are definitions.
use Rattle.std.specs.Prelude.{ℕ, ◌*◌, List, map, length, filter, Option}
use Rattle.std.specs.List.{flat_map}
use Rattle.law.specs.Family.{Family, Part, parents, side_lives}
use Rattle.theory.specs.Living.{alive}
use Rattle.amounts.specs.Lines.{couple_starts}
use Rattle.shares.specs.Parts.{lead_parts}
use Rattle.shares.specs.declared.Part.{Part as PartStruct}

-- those among some persons whose lines live, each with one by b
abbrev pub start_row : Family → ℕ → List ℕ → List Part
start_row f b ps = map (λ p. record { who = p; by = b }) (filter (alive f) ps)

-- the starts of those sides on which a line lives
abbrev pub sides_starts : Family → List ℕ → ℕ → List Part
sides_starts f ps b =
    flat_map (λ p. couple_starts f (parents f p) (b * length (filter (λ q. side_lives f (length f) q) ps))) (filter (λ q. side_lives f (length f) q) ps)

-- those of some places that hold a line
abbrev pub starts_row : List (Option PartStruct) → List Part
starts_row places = flat_map lead_parts places
