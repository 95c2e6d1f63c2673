-- The estate of d in the family in which d is dead, with nobody as the decedent: what can be read off which lines live. Assumes nothing: these are definitions.
use Rattle.std.specs.Prelude.{◌≡◌, ℕ, ◌*◌, true, false, cond, not, ◌⊎◌, List, [], ◌++◌, length, filter, ◌==◌, slice_set}
use Rattle.std.specs.List.{flat_map}
use Rattle.law.specs.Family.{person, Family, children, line_lives, living_lines, Part, line_parts, parents, couple_parts, side_lives, order, relatives_parts, has_living_spouse, spouse_parts, repeated, estate}
use Rattle.law.specs.Calls.{Limits, dead}
use Rattle.law.specs.Promise.{Reached, OfLine}
use Rattle.theory.specs.Living.{alive}

-- the family in which d is dead
abbrev pub with_dead : Family → ℕ → Family
with_dead f d = slice_set f d (dead (person f d))

-- the sides of d's parents on which a line lives
abbrev pub kept_sides : Family → ℕ → List ℕ
kept_sides g d = filter (λ p. side_lives g (length g) p) (parents g d)

-- the order that inherits: the first where d's own line lives
abbrev pub kept_order : Family → ℕ → ℕ
kept_order g d =
    cond (alive g d) 1 (cond (not (length (living_lines g (length g) (parents g d)) == 0)) 2 (cond (not (length (kept_sides g d) == 0)) 3 4))

-- what the relatives have
abbrev pub kept_relatives : Family → ℕ → ℕ → List Part
kept_relatives g d b =
    cond (kept_order g d == 1) (line_parts g (length g) d b)
    (cond (kept_order g d == 2) (couple_parts g (length g) (parents g d) b)
    (cond (kept_order g d == 3) (flat_map (λ p. couple_parts g (length g) (parents g p) (b * length (kept_sides g d))) (kept_sides g d)) []))

-- the estate
abbrev pub kept_estate : Family → ℕ → List Part
kept_estate g d =
    cond (has_living_spouse g d)
    (cond (kept_order g d == 1) (spouse_parts g d 4 ++ repeated 3 (kept_relatives g d 4))
    (cond (kept_order g d == 4) (spouse_parts g d 1) (spouse_parts g d 2 ++ kept_relatives g d 2)))
    (kept_relatives g d 1)

-- Marking the decedent dead changes nothing of their estate, and the decedent need not be left out of any line then.
pub record MarkedDead (f : Family) (d : ℕ) : Type 0 where
  pub same_estate : estate (with_dead f d) d ≡ estate f d
  pub lines : (p : ℕ) → (OfLine f p d → ⊥) ⊎ (alive (with_dead f d) d ≡ false) → line_lives f d p ≡ alive (with_dead f d) p
  pub parts : (p b : ℕ) → (OfLine f p d → ⊥) ⊎ (alive (with_dead f d) d ≡ false) → line_parts f d p b ≡ line_parts (with_dead f d) (length (with_dead f d)) p b
  pub first : alive (with_dead f d) d ≡ true → (order f d ≡ 1) × ((b : ℕ) → relatives_parts f d b ≡ line_parts (with_dead f d) (length (with_dead f d)) d b)
  pub first_only :
      (length (living_lines f d (children f d)) ≡ 0 → alive (with_dead f d) d ≡ false) × (alive (with_dead f d) d ≡ false → length (living_lines f d (children f d)) ≡ 0)
  pub order_is : order f d ≡ kept_order (with_dead f d) d
  pub relatives_are : (b : ℕ) → relatives_parts f d b ≡ kept_relatives (with_dead f d) d b
  pub spouse_is : has_living_spouse f d ≡ has_living_spouse (with_dead f d) d
  pub estate_is : estate f d ≡ kept_estate (with_dead f d) d

unfoldable pub DecedentMarkedDead : Type 0
DecedentMarkedDead = (l : Limits) (f : Family) (d : ℕ) → Reached l f → MarkedDead f d
