-- What dividing an estate leaves in the work area and in the answer, and what it says. Assumes nothing: these are definitions.
use Rattle.std.specs.Prelude.{◌≡◌, ℕ, ◌<◌, ◌≤◌, cond, List, length, Some, None, Option}
use Rattle.std.specs.List.{AllByRecursion}
use Rattle.law.specs.Family.{Part}
use Rattle.law.specs.Calls.{Share, shares, common_multiple, all_pieces}
use Rattle.bits.specs.Sets.{no_member}
use Rattle.rows.specs.Written.{written}
use Rattle.theory.specs.Shares.{shares_of}
use Rattle.wire.specs.Bytes.{answer_bytes}
use Rattle.shares.specs.Parts.{dividable}
use Rattle.shares.specs.Work.{work_of, no_pieces, Held}

-- Shares are written: nobody is an heir any more or has pieces, the answer begins with the shares, and what is said is how many they are.
pub record WrittenOut (m : ℕ) (ps : List Part) (rest : List ℕ) (persons : ℕ) (ss : List Share) (work before answer : List ℕ) (r : ℕ) : Type 0 where
  pub left : Held m ps no_pieces rest persons work
  pub said : answer ≡ written 0 (answer_bytes (shares ss)) before
  pub next : r ≡ length ss

-- A row that can be settled among so many persons: each part is one of theirs, by some number, and all together are no more than the estate.
pub record SoundRow (persons : ℕ) (row : List Part) : Type 0 where
  pub there : AllByRecursion (λ (q : Part). q.who < persons) row
  pub positive : AllByRecursion (λ (q : Part). 0 < q.by) row
  pub within : all_pieces (common_multiple row 1) row ≤ common_multiple row 1

-- A row is settled: nobody is an heir or has pieces, these parts are left in the work area, and where the row can be divided, the answer begins with its shares
-- and what is said is how many they are; else the answer is as before.
pub record Settled (m : ℕ) (ps : List Part) (rest : List ℕ) (row : List Part) (work before answer : List ℕ) (r : Option ℕ) : Type 0 where
  pub left : work ≡ work_of m ps no_member no_pieces rest
  pub said : answer ≡ cond (dividable row) (written 0 (answer_bytes (shares (shares_of row))) before) before
  pub next : r ≡ cond (dividable row) (Some (length (shares_of row))) None
