-- The lines that an estate goes by, and the ways of the whole estate. Assumes nothing: these are definitions.
use Rattle.std.specs.Prelude.{◌≡◌, ℕ, ◌<◌, ◌≤◌, Bool, true, false, List, [], ◌∷◌, ◌++◌, length, Some, None, Ok, Err, vec_items, filter, Option, Result, MatchResult}
use Rattle.std.specs.List.{flat_map}
use Rattle.law.specs.Family.{Family, person, children, parents, known, estate}
use Rattle.law.specs.Calls.{common_multiple}
use Rattle.theory.specs.Families.{Ranked}
use Rattle.shares.specs.Parts.{dividable}
use Rattle.shares.specs.declared.Part.{Part as PartStruct}
use Rattle.ways.specs.Ways.{Way, spouse_ways, kin_ways, relatives_up}
use Rattle.ways.specs.Rows.{in_row, law_ways}
use Rattle.ways.specs.Going.{Beyond, Marks, ByLimit, family_in}
use Rattle.ways.specs.declared.Descent.{Descent}
use Rattle.ways.specs.declared.WaysError.{WaysError}
use Rattle.ways.specs.declared.WaysError.TheVariants as ways_error
use Rattle.reasons.specs.declared.Lines.{Lines}
use Rattle.reasons.specs.declared.Estate.{Estate}
use Rattle.reasons.specs.declared.Refusal.{Refusal}
use Rattle.reasons.specs.declared.Refusal.TheVariants.{NotThere, BeyondLimit, NoMemory}

-- the parents of somebody, given as 0 or one more than a number, who are in a set
abbrev pub side_in : (ℕ → Bool) → Family → ℕ → List ℕ
side_in s f link = flat_map (λ p. filter s (parents f p)) (known link)

-- the lines of the three orders that are in a set: of the children, of the parents, and of the parents of each parent
pub record LinesIn (s : ℕ → Bool) (f : Family) (d : ℕ) (l : Lines) : Type 0 where
  pub children : vec_items l.children ≡ filter s (children f d)
  pub parents : vec_items l.parents ≡ filter s (parents f d)
  pub mothers : vec_items l.mothers ≡ side_in s f (person f d).mother
  pub fathers : vec_items l.fathers ≡ side_in s f (person f d).father

-- What is known of a family in which ways are looked for: it has a rank, the decedent is there, and a row says whose lines live.
pub record Known (f : Family) (rk : ℕ → ℕ) (d : ℕ) (s : ℕ → Bool) : Type 0 where
  pub ranked : Ranked f rk
  pub there : d < length f
  pub marks : Marks f d s

-- the same of a descent
abbrev pub KnownIn : Descent → (ℕ → ℕ) → Type 0
KnownIn t rk = Known (family_in t) rk t.decedent (in_row t.lives.now)

-- ways are put behind others, or they are beyond the limits
abbrev pub Put : List Way → List Way → List Way → Result (Unit {0}) WaysError → Type 0
Put before row after r = MatchResult r (λ _. after ≡ before ++ row) (ByLimit (Beyond before row))

-- a part that came by no line, as a way
abbrev pub lead_ways : Option PartStruct → List Way
lead_ways None = []
lead_ways (Some p) = record { line = []; who = p.who; by = p.by } ∷ []

-- The ways of an estate that can be divided: a living spouse's part, the ways of the relatives, how many times each of these counts,
-- and the least number that all parts divide.
pub record DividedByWays (f : Family) (d : ℕ) (e : Estate) : Type 0 where
  pub spouse : lead_ways e.spouse ≡ spouse_ways f d
  pub up : e.up ≡ relatives_up f d
  pub ways : law_ways (vec_items e.ways) ≡ kin_ways f d
  pub within : dividable (estate f d) ≡ true
  pub whole : e.whole ≡ common_multiple (estate f d) 1

-- the ways of the estate, or it is beyond the limits
abbrev pub EstateRight : Family → ℕ → Result Estate WaysError → Type 0
EstateRight f d r = MatchResult r (DividedByWays f d) (ByLimit (dividable (estate f d) ≡ false))

-- why an estate has no ways
abbrev pub refusal_of : WaysError → Refusal
refusal_of ways_error.BeyondLimit = BeyondLimit
refusal_of ways_error.NoMemory = NoMemory

abbrev pub RefusalRight : Family → ℕ → Refusal → Type 0
RefusalRight f d NotThere = length f ≤ d
RefusalRight f d BeyondLimit = (d < length f) × (dividable (estate f d) ≡ false)
RefusalRight f d NoMemory = Unit {0}

-- The ways of the estate; or the decedent is not there, or the estate is beyond the limits. A refusal for lack of memory says nothing.
abbrev pub OutcomeRight : Family → ℕ → Result Estate Refusal → Type 0
OutcomeRight f d (Ok e) = (d < length f) × DividedByWays f d e
OutcomeRight f d (Err e) = RefusalRight f d e
