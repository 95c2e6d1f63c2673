-- A family whose persons have names. Assumes nothing: these are definitions.
use Rattle.std.specs.Prelude.{◌≡◌, ℕ, suc, ◌<◌, ◌≤◌, true, ◌≢◌, List, [], map, length, vec_items, slice_index_or}
use Rattle.law.specs.Family as law
use Rattle.law.specs.Family.{person}
use Rattle.people.specs.Persons.{law_person}
use Rattle.lines.specs.Names.{is_name}
use Rattle.text.specs.declared.Member.{Member}
use Rattle.text.specs.declared.Family.{Family}

-- The names of persons, by number, and the persons.
pub record Household : Type 0 where
  pub names : List (List ℕ)
  pub family : law.Family

-- what a family of the code is
abbrev pub names_in : List Member → List (List ℕ)
names_in ms = map (λ m. m.name.now) ms

abbrev pub persons_of : List Member → law.Family
persons_of ms = map (λ m. law_person m.person) ms

abbrev pub household : Family → Household
household f = record { names = names_in (vec_items f.members); family = persons_of (vec_items f.members) }

-- Parents are born before their children and are two persons, and spouses are there, are each other's, and nobody is their own.
-- Past the last person stands nobody, so that this is said of every number.
pub record ValidFamily (f : law.Family) : Type 0 where
  pub few : length f ≤ 64
  pub mothers : (c : ℕ) → (person f c).mother ≤ c
  pub fathers : (c : ℕ) → (person f c).father ≤ c
  pub two : (c : ℕ) → (person f c).mother ≡ (person f c).father → (person f c).mother ≡ 0
  pub spouses : (p q : ℕ) → (person f p).spouse ≡ suc q → (q < length f) × ((person f q).spouse ≡ suc p) × (p ≢ q)

-- Everybody has a name, and nobody another's.
pub record Valid (h : Household) : Type 0 where
  pub family : ValidFamily h.family
  pub long : length h.names ≡ length h.family
  pub names : (i : ℕ) → i < length h.names → is_name (slice_index_or h.names i []) ≡ true
  pub apart : (i j : ℕ) → i < length h.names → j < length h.names → slice_index_or h.names i [] ≡ slice_index_or h.names j [] → i ≡ j
