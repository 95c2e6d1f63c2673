-- Families, lines of descent, and who inherits which part of an estate. Assumes nothing: these are definitions.
use Rattle.std.specs.Prelude.{ℕ, zero, suc, ◌-◌, ◌*◌, Bool, false, cond, not, ◌&&◌, ◌||◌, List, [], ◌∷◌, ◌++◌, length, filter, ◌==◌, slice_index_or}
use Rattle.std.specs.List.{flat_map}

-- A person: mother and father, 0 where not known, else one more than that person's number; whether they live; and the spouse, written likewise.
pub record Person : Type 0 where
  pub mother : ℕ
  pub father : ℕ
  pub lives : Bool
  pub spouse : ℕ

abbrev pub nobody : Person
nobody = record { mother = 0; father = 0; lives = false; spouse = 0 }

-- Persons are numbered from 0 as they are born; past the last stands nobody.
abbrev pub Family : Type 0
Family = List Person

abbrev pub person : Family → ℕ → Person
person f p = slice_index_or f p nobody

-- c has p as mother or father
abbrev pub is_child : Family → ℕ → ℕ → Bool
is_child f p c = (person f c).mother == suc p || (person f c).father == suc p

-- the children of p among the n persons from c on, by number; and all of them
unfoldable pub children_in : Family → ℕ → ℕ → ℕ → List ℕ
children_in f p zero c = []
children_in f p (suc n) c = cond (is_child f p c) (c ∷ children_in f p n (suc c)) (children_in f p n (suc c))

abbrev pub children : Family → ℕ → List ℕ
children f p = children_in f p (length f) 0

unfoldable pub some_of : (ℕ → Bool) → List ℕ → Bool
some_of g [] = false
some_of g (c ∷ cs) = g c || some_of g cs

-- A line lives if its person does, or a child's line. The decedent d counts as dead, and their line with them.
-- The first number bounds how many steps down are looked at; as many as there are persons are enough.
unfoldable pub line_lives_in : ℕ → Family → ℕ → ℕ → Bool
line_lives_in zero f d p = false
line_lives_in (suc n) f d p = cond (p == d) false ((person f p).lives || some_of (λ c. line_lives_in n f d c) (children f p))

abbrev pub line_lives : Family → ℕ → ℕ → Bool
line_lives f d p = line_lives_in (length f) f d p

-- those whose line lives
abbrev pub living_lines : Family → ℕ → List ℕ → List ℕ
living_lines f d ps = filter (λ p. line_lives f d p) ps

-- A part: one by so many of the estate, and who has it.
pub record Part : Type 0 where
  pub who : ℕ
  pub by : ℕ

-- The line of p has one by b of the estate. If p lives, p has it, the decedent excepted; else it is divided equally among the children whose lines live.
-- The first number bounds the steps down.
unfoldable pub line_parts_in : ℕ → Family → ℕ → ℕ → ℕ → List Part
line_parts_in zero f d p b = []
line_parts_in (suc n) f d p b =
    cond (not (p == d) && (person f p).lives) (record { who = p; by = b } ∷ [])
    (flat_map (λ c. line_parts_in n f d c (b * length (living_lines f d (children f p)))) (living_lines f d (children f p)))

abbrev pub line_parts : Family → ℕ → ℕ → ℕ → List Part
line_parts f d p b = line_parts_in (suc (length f)) f d p b

-- the parents that are known, mother first, as numbers
unfoldable pub known : ℕ → List ℕ
known zero = []
known (suc p) = p ∷ []

abbrev pub parents : Family → ℕ → List ℕ
parents f p = known (person f p).mother ++ known (person f p).father

-- two forebears who have one by b together: those whose lines live have it, equally
unfoldable pub couple_parts : Family → ℕ → List ℕ → ℕ → List Part
couple_parts f d ps b = flat_map (λ p. line_parts f d p (b * length (living_lines f d ps))) (living_lines f d ps)

-- The first order: the lines of the decedent's children.
abbrev pub first_order : Family → ℕ → ℕ → List Part
first_order f d b = line_parts f d d b

-- The second order: the lines of the decedent's parents.
abbrev pub second_order : Family → ℕ → ℕ → List Part
second_order f d b = couple_parts f d (parents f d) b

-- The third order: the mother's parents are one side, the father's the other. The sides on which a line lives have equal parts,
-- and on each side the lines that live, equally. A side goes by the parent's number.
unfoldable pub side_lives : Family → ℕ → ℕ → Bool
side_lives f d p = not (length (living_lines f d (parents f p)) == 0)

abbrev pub living_sides : Family → ℕ → List ℕ
living_sides f d = filter (λ p. side_lives f d p) (parents f d)

abbrev pub third_order : Family → ℕ → ℕ → List Part
third_order f d b = flat_map (λ p. couple_parts f d (parents f p) (b * length (living_sides f d))) (living_sides f d)

-- The order that inherits: the first in which a line lives; 4 where there is none.
abbrev pub order : Family → ℕ → ℕ
order f d =
    cond (not (length (living_lines f d (children f d)) == 0)) 1
    (cond (not (length (living_lines f d (parents f d)) == 0)) 2 (cond (not (length (living_sides f d) == 0)) 3 4))

abbrev pub relatives_parts : Family → ℕ → ℕ → List Part
relatives_parts f d b =
    cond (order f d == 1) (first_order f d b) (cond (order f d == 2) (second_order f d b) (cond (order f d == 3) (third_order f d b) []))

abbrev pub has_living_spouse : Family → ℕ → Bool
has_living_spouse f d = not ((person f d).spouse == 0) && (person f ((person f d).spouse - 1)).lives

abbrev pub spouse_parts : Family → ℕ → ℕ → List Part
spouse_parts f d b = record { who = (person f d).spouse - 1; by = b } ∷ []

-- a row of parts so many times over
unfoldable pub repeated : ℕ → List Part → List Part
repeated zero ps = []
repeated (suc n) ps = ps ++ repeated n ps

-- The estate of d as a row of parts; somebody may stand in it several times. A living spouse has a quarter beside the first order, a half beside the second
-- or third, and else all. The relatives have the rest: three quarters of a part are three parts of one by four times as many.
abbrev pub estate : Family → ℕ → List Part
estate f d =
    cond (has_living_spouse f d)
    (cond (order f d == 1) (spouse_parts f d 4 ++ repeated 3 (relatives_parts f d 4))
    (cond (order f d == 4) (spouse_parts f d 1) (spouse_parts f d 2 ++ relatives_parts f d 2)))
    (relatives_parts f d 1)
