-- What settling an estate asks, leaves and says. Assumes nothing: these are definitions.
use Rattle.std.specs.Prelude.{◌≡◌, ℕ, ◌<◌, ◌≤◌, false, cond, List, length, Some, None, Option}
use Rattle.law.specs.Family.{Family, person, estate}
use Rattle.law.specs.Calls.{shares}
use Rattle.rows.specs.Written.{written}
use Rattle.theory.specs.Families.{WellFormed}
use Rattle.theory.specs.Shares.{shares_of}
use Rattle.wire.specs.Bytes.{answer_bytes}
use Rattle.shares.specs.Parts.{dividable}
use Rattle.people.specs.Layout.{image}
use Rattle.living.specs.Places.{ParentsThere}

-- a well-formed family among n persons, in which somebody is there and dead
pub record DeadThere (f : Family) (n who : ℕ) : Type 0 where
  pub formed : WellFormed f
  pub parents : ParentsThere f (length f)
  pub room : length f ≤ n
  pub there : who < length f
  pub dead : (person f who).lives ≡ false

-- The memory is as it was. Where the estate is within the limits the answer begins with its shares, and what is said is how many they are; else the answer is as it was.
pub record EstateSettled (n : ℕ) (f : Family) (rest : List ℕ) (who : ℕ) (memory before answer : List ℕ) (r : Option ℕ) : Type 0 where
  pub left : memory ≡ image n f rest
  pub said : answer ≡ cond (dividable (estate f who)) (written 0 (answer_bytes (shares (shares_of (estate f who)))) before) before
  pub next : r ≡ cond (dividable (estate f who)) (Some (length (shares_of (estate f who)))) None
