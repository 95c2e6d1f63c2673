-- What families are like that calls lead to: a rank that grows from parent to child, and spouses who are each other's. Assumes nothing: these are definitions.
use Rattle.std.specs.Prelude.{◌≡◌, ℕ, suc, ◌<◌, ◌≤◌, true, ◌≢◌, length}
use Rattle.law.specs.Family.{person, Family, is_child}
use Rattle.law.specs.Calls.{Limits}
use Rattle.law.specs.Promise.{Reached}

-- A rank grows from parent to child, there are no more ranks than persons, and whoever has a child is there.
pub record Ranked (f : Family) (rk : ℕ → ℕ) : Type 0 where
  pub up : (p c : ℕ) → is_child f p c ≡ true → rk p < rk c
  pub within : (p : ℕ) → p < length f → rk p < length f
  pub here : (p c : ℕ) → is_child f p c ≡ true → p < length f

-- There is a rank; and spouses are there, are each other's, and nobody is their own. Past the last person stands nobody, so that this is said of every number.
pub record WellFormed (f : Family) : Type 0 where
  pub rank : ℕ → ℕ
  pub ranked : Ranked f rank
  pub spouses : (p q : ℕ) → (person f p).spouse ≡ suc q → (q < length f) × ((person f q).spouse ≡ suc p) × (p ≢ q)

-- Parents are born before their children, so that the number itself is a rank.
pub record ParentsFirst (f : Family) : Type 0 where
  pub before : (c : ℕ) → ((person f c).mother ≤ c) × ((person f c).father ≤ c)

-- Two families with the same persons as mothers and fathers.
pub record SameParents (f g : Family) : Type 0 where
  pub size : length g ≡ length f
  pub mother : (c : ℕ) → (person g c).mother ≡ (person f c).mother
  pub father : (c : ℕ) → (person g c).father ≡ (person f c).father

-- Every family that calls lead to is well-formed, and parents are born before their children.
unfoldable pub ReachedWellFormed : Type 0
ReachedWellFormed = (l : Limits) (f : Family) → Reached l f → WellFormed f × ParentsFirst f
