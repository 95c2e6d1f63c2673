-- Going down a line: the row of parts that it leaves in memory, or why it stops. Assumes nothing: these are definitions.
use Rattle.std.specs.Prelude.{◌≡◌, ℕ, ◌+◌, ◌<◌, ◌≤◌, ◌⊎◌, List, ◌++◌, length, Some, None, filter, Option}
use Rattle.std.specs.List.{flat_map, AllByRecursion}
use Rattle.law.specs.Family.{Family, Part, line_parts}
use Rattle.law.specs.Calls.{common_multiple}
use Rattle.theory.specs.Families.{Ranked}
use Rattle.theory.specs.Living.{alive}
use Rattle.bits.specs.Sets.{no_member}
use Rattle.shares.specs.Work.{work_of, no_pieces}
use Rattle.people.specs.Layout.{working}

-- the memory of a family in whose work area a row of parts lies
abbrev pub with_parts : ℕ → Family → List Part → List ℕ → List ℕ → List ℕ
with_parts n f ps spare rest = working n f (work_of n ps no_member no_pieces spare) rest

-- A row that no estate which has it among its parts can be divided with: one of its numbers is too large.
abbrev pub TooLarge : List Part → Type 0
TooLarge row = (qs rs : List Part) → common_multiple (qs ++ (row ++ rs)) 1 ≡ 0

-- a part whose number fits a word
abbrev pub Small : Part → Type 0
Small q = q.by < 4294967296

-- Going down from parts ps, a row is put behind them, and how many there are then is said; or there is no room for all of it, or it is too large,
-- and some parts are left.
abbrev pub Gone : ℕ → Family → List ℕ → List ℕ → List Part → List Part → List ℕ → Option ℕ → Type 0
Gone n f spare rest ps row later None =
    ((4096 < length ps + length row) ⊎ TooLarge row) × ((qs : List Part) × (length qs ≤ 4096) × (later ≡ with_parts n f qs spare rest))
Gone n f spare rest ps row later (Some k) =
    (k ≡ length ps + length row) × (length ps + length row ≤ 4096) × (later ≡ with_parts n f (ps ++ row) spare rest) × AllByRecursion Small row

-- What is asked to go down a line: parts in memory, and steps enough for everybody below by their rank.
pub record Ready (ws : List ℕ) (n : ℕ) (f : Family) (rk : ℕ → ℕ) (ps : List Part) (spare rest : List ℕ) (steps who count : ℕ) : Type 0 where
  pub words : ws ≡ with_parts n f ps spare rest
  pub parts : length ps ≡ count
  pub few : length ps ≤ 4096
  pub room : length f ≤ n
  pub ranked : Ranked f rk
  pub there : who < length f
  pub enough : length f ≤ steps + rk who

-- the parts of those among some persons whose lines live, each one by b
abbrev pub parts_below : Family → ℕ → List ℕ → List Part
parts_below f b cs = flat_map (λ c. line_parts f (length f) c b) (filter (alive f) cs)
