-- The ways of an estate as chains of parent and child. Each record is a statement whose proof is owed wherever a contract names it. Assumes nothing.
use Rattle.std.specs.Prelude.{◌≡◌, ℕ, true, false, ◌≢◌, ◌⊎◌, List, [], ◌∷◌}
use Rattle.std.specs.List.{flat_map, AllByRecursion}
use Rattle.law.specs.Family.{Family, person, is_child, parents, order}
use Rattle.theory.specs.Families.{Ranked}
use Rattle.ways.specs.Ways.{Way, stands, relatives_ways}

-- From p down the persons xs to w: each is a child of the one before, nobody before w lives, the decedent excepted, and w lives and is not the decedent.
unfoldable pub leads : Family → ℕ → ℕ → List ℕ → ℕ → Type 0
leads f d p [] w = (p ≡ w) × (stands f d p ≡ true)
leads f d p (x ∷ xs) w = (stands f d p ≡ false) × (is_child f p x ≡ true) × leads f d x xs w

-- p is on a row
abbrev pub On : ℕ → List ℕ → Type 0
On p [] = ⊥
On p (q ∷ qs) = (q ≡ p) ⊎ On p qs

-- a way with these persons that ends at w is listed
abbrev pub Listed : List ℕ → ℕ → List Way → Type 0
Listed xs w [] = ⊥
Listed xs w (v ∷ vs) = ((v.line ≡ xs) × (v.who ≡ w)) ⊎ Listed xs w vs

-- a way that begins with somebody on a row and leads down to its heir
abbrev pub LeadsFrom : Family → ℕ → List ℕ → Way → Type 0
LeadsFrom f d ps v = (p : ℕ) × (xs : List ℕ) × On p ps × (v.line ≡ p ∷ xs) × leads f d p xs v.who

-- no two ways have the same persons
abbrev pub Once : List Way → Type 0
Once [] = Unit {0}
Once (v ∷ vs) = AllByRecursion (λ (u : Way). v.line ≢ u.line) vs × Once vs

abbrev pub grandparents : Family → ℕ → List ℕ
grandparents f d = flat_map (λ p. parents f p) (parents f d)

-- The ways of the first order are the chains from the decedent down; those of the second begin with a parent, and of the third with a parent's parent. Every such chain is listed.
-- In the first order each stands once, whatever the family is like, and in the second, unless the mother is the father.
-- In the third somebody who is a grandparent on both sides begins a way on each.
pub record WaysLead (f : Family) (d b : ℕ) : Type 0 where
  pub first : order f d ≡ 1 → AllByRecursion (λ (v : Way). leads f d d v.line v.who) (relatives_ways f d b)
  pub second : order f d ≡ 2 → AllByRecursion (LeadsFrom f d (parents f d)) (relatives_ways f d b)
  pub third : order f d ≡ 3 → AllByRecursion (LeadsFrom f d (grandparents f d)) (relatives_ways f d b)

pub record AllListed (f : Family) (d b : ℕ) : Type 0 where
  pub first : order f d ≡ 1 → (xs : List ℕ) (w : ℕ) → leads f d d xs w → Listed xs w (relatives_ways f d b)
  pub second : order f d ≡ 2 → (p : ℕ) (xs : List ℕ) (w : ℕ) → On p (parents f d) → leads f d p xs w → Listed (p ∷ xs) w (relatives_ways f d b)
  pub third : order f d ≡ 3 → (p : ℕ) (xs : List ℕ) (w : ℕ) → On p (grandparents f d) → leads f d p xs w → Listed (p ∷ xs) w (relatives_ways f d b)

unfoldable pub WaysAreChains : Type 0
WaysAreChains = (f : Family) (d b : ℕ) → WaysLead f d b

unfoldable pub ChainsAreWays : Type 0
ChainsAreWays = (f : Family) (rk : ℕ → ℕ) (d b : ℕ) → Ranked f rk → AllListed f d b

unfoldable pub EachOnce : Type 0
EachOnce =
    (f : Family) (d b : ℕ) → (order f d ≡ 1 → Once (relatives_ways f d b))
    × (order f d ≡ 2 → (person f d).mother ≢ (person f d).father → Once (relatives_ways f d b))
