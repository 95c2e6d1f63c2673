-- What a line comes to: how many parts, the least number that all of them divide, and how many pieces somebody has of it. Nobody is the decedent here: past the last
-- person stands nobody. Assumes nothing: these are definitions.
use Rattle.std.specs.Prelude.{ℕ, ◌*◌, cond, List, [], ◌∷◌, map, length, ◌==◌}
use Rattle.std.specs.List.{flat_map}
use Rattle.law.specs.Family.{person, Family, living_lines, Part, line_parts, parents}
use Rattle.law.specs.Calls.{pieces}
use Rattle.theory.specs.Living.{lines_below}
use Rattle.theory.specs.Decedent.{kept_sides, kept_order}
use Rattle.theory.specs.Multiples.{lcm}

-- the lines that what comes to p is divided among: none where p lives, who has it
abbrev pub divided_among : Family → ℕ → List ℕ
divided_among g p = cond (person g p).lives [] (lines_below g (length g) p)

-- how many parts the line of p has, whatever it was given
abbrev pub part_count : Family → ℕ → ℕ
part_count g p = length (line_parts g (length g) p 1)

-- the least number that all parts divide, however large
unfoldable pub parts_multiple : List Part → ℕ
parts_multiple [] = 1
parts_multiple (q ∷ qs) = lcm q.by (parts_multiple qs)

-- the least number of pieces that the line of p can be given so that all its parts are whole
abbrev pub line_multiple : Family → ℕ → ℕ
line_multiple g p = parts_multiple (line_parts g (length g) p 1)

-- how many pieces w has if the line of p has x
abbrev pub line_pieces : Family → ℕ → ℕ → ℕ → ℕ
line_pieces g w p x = pieces x (line_parts g (length g) p 1) w

-- The lines that an estate begins with, each with one by so many: what the relatives have together is one by b.
abbrev pub couple_starts : Family → List ℕ → ℕ → List Part
couple_starts g ps b = map (λ p. record { who = p; by = b * length (living_lines g (length g) ps) }) (living_lines g (length g) ps)

abbrev pub kept_starts : Family → ℕ → ℕ → List Part
kept_starts g d b =
    cond (kept_order g d == 1) (record { who = d; by = b } ∷ [])
    (cond (kept_order g d == 2) (couple_starts g (parents g d) b)
    (cond (kept_order g d == 3) (flat_map (λ p. couple_starts g (parents g p) (b * length (kept_sides g d))) (kept_sides g d)) []))

-- their persons, and all their parts
abbrev pub starts_persons : List Part → List ℕ
starts_persons ss = map (λ (s : Part). s.who) ss

abbrev pub starts_parts : Family → List Part → List Part
starts_parts g ss = flat_map (λ (s : Part). line_parts g (length g) s.who s.by) ss
