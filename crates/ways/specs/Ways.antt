-- The ways by which an estate comes to its heirs: each part with the line of descent by which it came. Assumes nothing: these are definitions.
use Rattle.std.specs.Prelude.{ℕ, zero, suc, ◌-◌, ◌*◌, Bool, cond, not, ◌&&◌, List, [], ◌∷◌, ◌++◌, map, length, ◌==◌}
use Rattle.std.specs.List.{flat_map}
use Rattle.law.specs.Family.{Family, Part, person, children, living_lines, parents, living_sides, order, has_living_spouse}

-- A way: the persons of a line, from the one below the decedent, or from the forebear of the order that inherits, down to the heir; who that is;
-- and one by how many of the estate comes by it. Nobody is on the way by which a spouse inherits.
pub record Way : Type 0 where
  pub line : List ℕ
  pub who : ℕ
  pub by : ℕ

-- the part that comes by a way
abbrev pub way_part : Way → Part
way_part w = record { who = w.who; by = w.by }

-- who stands for their line: everybody who lives, but the decedent
abbrev pub stands : Family → ℕ → ℕ → Bool
stands f d p = not (p == d) && (person f p).lives

-- The line of p has one by b, and xs are the persons of the line down to p. As the parts of a line, with the persons carried along.
-- The first number bounds the steps down.
unfoldable pub line_ways_in : ℕ → Family → ℕ → List ℕ → ℕ → ℕ → List Way
line_ways_in zero f d xs p b = []
line_ways_in (suc n) f d xs p b =
    cond (stands f d p) (record { line = xs; who = p; by = b } ∷ [])
    (flat_map (λ c. line_ways_in n f d (xs ++ (c ∷ [])) c (b * length (living_lines f d (children f p)))) (living_lines f d (children f p)))

abbrev pub line_ways : Family → ℕ → List ℕ → ℕ → ℕ → List Way
line_ways f d xs p b = line_ways_in (suc (length f)) f d xs p b

-- some persons whose lines have one by b each, the lines beginning with them
abbrev pub heads_ways : Family → ℕ → List ℕ → ℕ → List Way
heads_ways f d ps b = flat_map (λ p. line_ways f d (p ∷ []) p b) ps

-- two forebears who have one by b together
abbrev pub couple_ways : Family → ℕ → List ℕ → ℕ → List Way
couple_ways f d ps b = heads_ways f d (living_lines f d ps) (b * length (living_lines f d ps))

-- The three orders: the lines of the decedent's children, of the parents, and of the parents of each parent.
abbrev pub first_ways : Family → ℕ → ℕ → List Way
first_ways f d b = line_ways f d [] d b

abbrev pub second_ways : Family → ℕ → ℕ → List Way
second_ways f d b = couple_ways f d (parents f d) b

abbrev pub third_ways : Family → ℕ → ℕ → List Way
third_ways f d b = flat_map (λ p. couple_ways f d (parents f p) (b * length (living_sides f d))) (living_sides f d)

-- the ways of the order that inherits, if all of them have one by b together
unfoldable pub relatives_ways : Family → ℕ → ℕ → List Way
relatives_ways f d b =
    cond (order f d == 1) (first_ways f d b) (cond (order f d == 2) (second_ways f d b) (cond (order f d == 3) (third_ways f d b) []))

-- What a living spouse has, one by so many; what the relatives have together is so many times one by so many.
abbrev pub spouse_by : Family → ℕ → ℕ
spouse_by f d = cond (order f d == 1) 4 (cond (order f d == 4) 1 2)

abbrev pub relatives_up : Family → ℕ → ℕ
relatives_up f d = cond (has_living_spouse f d) (cond (order f d == 1) 3 1) 1

abbrev pub relatives_by : Family → ℕ → ℕ
relatives_by f d = cond (has_living_spouse f d) (cond (order f d == 1) 4 2) 1

-- the way of a living spouse, and those of the relatives, each of which counts so many times
abbrev pub spouse_ways : Family → ℕ → List Way
spouse_ways f d = cond (has_living_spouse f d) (record { line = []; who = (person f d).spouse - 1; by = spouse_by f d } ∷ []) []

abbrev pub kin_ways : Family → ℕ → List Way
kin_ways f d = relatives_ways f d (relatives_by f d)

-- A way that counts so many times: up by so many of the estate.
pub record Reason : Type 0 where
  pub line : List ℕ
  pub who : ℕ
  pub up : ℕ
  pub by : ℕ

-- a way that counts so many times
abbrev pub counted : ℕ → Way → Reason
counted k w = record { line = w.line; who = w.who; up = k; by = w.by }

-- All ways of an estate: that of the spouse, and those of the relatives. Beside a spouse's quarter a line stands once, for the three parts that come by it.
unfoldable pub estate_ways : Family → ℕ → List Reason
estate_ways f d = map (counted 1) (spouse_ways f d) ++ map (counted (relatives_up f d)) (kin_ways f d)
