-- Why somebody has no share of an estate. Assumes nothing: these are definitions.
use Rattle.std.specs.Prelude.{◌≡◌, ℕ, ◌<◌, ◌≤◌, Bool, true, false, cond, ◌≢◌, ◌⊎◌, List, [], ◌∷◌, length, filter, ◌==◌, nat_lt, codes}
use Rattle.std.specs.List.{flat_map, AllByRecursion}
use Rattle.law.specs.Family.{Family, person, children, parents, order}
use Rattle.law.specs.Promise.{descends_by, OfLine}
use Rattle.ways.specs.Ways.{Way, stands, kin_ways}
use Rattle.reasons.specs.Estates.{side_in}
use Rattle.kinship.specs.declared.Cause.{Cause}
use Rattle.kinship.specs.declared.Cause.TheVariants.{IsDecedent, NotThere, Dead, NearerOrder, LivingForebear, NotOfFamily}

-- those with whom the lines of an order begin: the decedent, the parents, the parents' parents
abbrev pub starts : Family → ℕ → ℕ → List ℕ
starts f d o = cond (o == 1) (d ∷ []) (cond (o == 2) (parents f d) (cond (o == 3) (flat_map (λ p. parents f p) (parents f d)) []))

-- somebody is of the line of one of these
unfoldable pub OfSome : Family → List ℕ → ℕ → Type 0
OfSome f [] w = ⊥
OfSome f (p ∷ ps) w = OfLine f p w ⊎ OfSome f ps w

-- on the way from p down some persons, of whom the last is somebody, one before that one lives, the decedent excepted
unfoldable pub stood_before : Family → ℕ → ℕ → List ℕ → Type 0
stood_before f d p [] = ⊥
stood_before f d p (x ∷ xs) = (stands f d p ≡ true) ⊎ stood_before f d x xs

-- On every line of the order that inherits which leads to w, a living forebear stands before w; and there is such a line.
pub record ForebearBefore (f : Family) (d w : ℕ) : Type 0 where
  pub of_line : OfSome f (starts f d (order f d)) w
  pub before : AllByRecursion (λ p. (xs : List ℕ) → descends_by f p xs w → stood_before f d p xs) (starts f d (order f d))

-- w is of a line of a farther order, and of none of the order that inherits.
pub record NearerInherits (f : Family) (d w : ℕ) : Type 0 where
  pub farther : ℕ
  pub behind : order f d < farther
  pub within : farther ≤ 3
  pub of_farther : OfSome f (starts f d farther) w
  pub of_none : OfSome f (starts f d (order f d)) w → ⊥

-- a cause holds
abbrev pub CauseHolds : Family → ℕ → ℕ → Cause → Type 0
CauseHolds f d w IsDecedent = w ≡ d
CauseHolds f d w NotThere = length f ≤ w
CauseHolds f d w Dead = (person f w).lives ≡ false
CauseHolds f d w NearerOrder = NearerInherits f d w
CauseHolds f d w LivingForebear = ForebearBefore f d w
CauseHolds f d w NotOfFamily = (o : ℕ) → OfSome f (starts f d o) w → ⊥

-- no way of the relatives ends at w
abbrev pub NoWay : Family → ℕ → ℕ → Type 0
NoWay f d w = AllByRecursion (λ (x : Way). x.who ≢ w) (kin_ways f d)

-- the nearest order of which a line is in a set, 4 where there is none
abbrev pub order_in : (ℕ → Bool) → Family → ℕ → ℕ
order_in s f d =
    cond (length (filter s (children f d)) == 0)
    (cond (length (filter s (parents f d)) == 0)
    (cond (length (side_in s f (person f d).mother) == 0) (cond (length (side_in s f (person f d).father) == 0) 4 3) 3) 2) 1

-- the cause, by the order that inherits and the nearest of which somebody is
abbrev pub cause_by : ℕ → ℕ → Cause
cause_by inherits nearest = cond (nearest == 4) NotOfFamily (cond (nat_lt inherits nearest) NearerOrder LivingForebear)

-- a cause in words
abbrev pub cause_words : Cause → List ℕ
cause_words IsDecedent = codes "the decedent"
cause_words NotThere = codes "not there"
cause_words Dead = codes "dead"
cause_words NearerOrder = codes "a nearer order inherits"
cause_words LivingForebear = codes "a living forebear stands before them"
cause_words NotOfFamily = codes "not of the family"
