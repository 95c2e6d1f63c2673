-- Going down lines: the ways that are put behind those that are there, or why going down stops. Assumes nothing: these are definitions.
use Rattle.std.specs.Prelude.{◌≡◌, ℕ, suc, ◌+◌, ◌<◌, ◌≤◌, Bool, true, ◌⊎◌, List, [], ◌∷◌, ◌++◌, map, length, Result, MatchResult}
use Rattle.std.specs.List.{flat_map, AllByRecursion}
use Rattle.law.specs.Family.{Family, line_lives}
use Rattle.theory.specs.Families.{Ranked}
use Rattle.descent.specs.Going.{TooLarge}
use Rattle.ways.specs.declared.Descent.{Descent}
use Rattle.ways.specs.declared.WaysError.{WaysError}
use Rattle.ways.specs.declared.WaysError.TheVariants.{BeyondLimit, NoMemory}
use Rattle.ways.specs.Rows.{family_of, in_row}
use Rattle.ways.specs.Ways.{Way, way_part, line_ways_in}

-- The ways of the lines of some persons, each with one by b, if xs are the persons of the line above them. The first number bounds the steps down.
abbrev pub ways_below : ℕ → Family → ℕ → List ℕ → List ℕ → ℕ → List Way
ways_below n f d xs ps b = flat_map (λ p. line_ways_in (suc n) f d (xs ++ (p ∷ [])) p b) ps

-- lines that live, with steps enough for everybody below by their rank
abbrev pub Enough : Family → (ℕ → ℕ) → ℕ → ℕ → ℕ → Type 0
Enough f rk d n p = (line_lives f d p ≡ true) × (length f ≤ suc n + rk p)

-- An estate with these ways among others has more than 4,096 parts, or can't be divided.
abbrev pub Beyond : List Way → List Way → Type 0
Beyond before row = (4096 < length before + length row) ⊎ TooLarge (map way_part row)

-- what holds of a refusal by the limits; one for lack of memory says nothing
abbrev pub ByLimit : Type 0 → WaysError → Type 0
ByLimit P BeyondLimit = P
ByLimit P NoMemory = Unit {0}

-- All ways are put behind those that are there; or, of living lines in a family with a rank, they are too many or one of their numbers is too large.
abbrev pub Went : Family → ℕ → ℕ → List ℕ → List ℕ → ℕ → List Way → List Way → Result (Unit {0}) WaysError → Type 0
Went f d n xs ps b before after r =
    MatchResult r (λ _. after ≡ before ++ ways_below n f d xs ps b)
    (λ e. ByLimit ((rk : ℕ → ℕ) → Ranked f rk → AllByRecursion (Enough f rk d n) ps → Beyond before (ways_below n f d xs ps b)) e)

-- a row that says whose lines live, of every number
abbrev pub Marks : Family → ℕ → (ℕ → Bool) → Type 0
Marks f d s = (p : ℕ) → s p ≡ line_lives f d p

-- the family of a descent
abbrev pub family_in : Descent → Family
family_in t = family_of t.family.now

-- a descent whose row says whose lines live
abbrev pub Marked : Descent → Type 0
Marked t = Marks (family_in t) t.decedent (in_row t.lives.now)
