-- What holds of the passes for every family with a rank. Each is a statement: a type whose proof is owed wherever a contract names it. Assumes nothing.
use Rattle.std.specs.Prelude.{◌≡◌, ℕ, ◌+◌, ◌*◌, ◌<◌, ◌≤◌, true, false, List, ◌++◌, length, replicate, sum_by, sum, nat_le, slice_index}
use Rattle.std.specs.List.{AllByRecursion}
use Rattle.law.specs.Family.{Family, children, Part, repeated}
use Rattle.law.specs.Calls.{common_multiple, divides_all, pieces, all_pieces}
use Rattle.theory.specs.Families.{Ranked}
use Rattle.theory.specs.Living.{alive}
use Rattle.theory.specs.Decedent.{kept_relatives}
use Rattle.amounts.specs.Passes.{is_in, listed_in, InDescentOrder, filled_up, few, count_step, word_or_zero, multiple_step, handed_down, started, cleared, starts_count, starts_numbers}
use Rattle.amounts.specs.Lines.{divided_among, part_count, line_multiple, kept_starts, starts_parts}

-- A list of persons whose lines live: each is there once, and before the lines among which what comes to them is divided.
pub record Listing (g : Family) (os : List ℕ) : Type 0 where
  pub order : InDescentOrder (divided_among g) os
  pub there : AllByRecursion (λ q. q < length g) os
  pub living : AllByRecursion (λ q. alive g q ≡ true) os
  pub most : length os ≤ length g

-- Listing one more line that lives, with steps enough by its rank, leaves such a list, with that person and all who were in it.
unfoldable pub ListingGrows : Type 0
ListingGrows =
    (g : Family) (rk : ℕ → ℕ) (steps p : ℕ) (out : List ℕ) → Ranked g rk → length g ≤ steps + rk p → alive g p ≡ true → Listing g out →
    Listing g (listed_in steps (divided_among g) p out)
    × (is_in p (listed_in steps (divided_among g) p out) ≡ true)
    × ((q : ℕ) → is_in q out ≡ true → is_in q (listed_in steps (divided_among g) p out) ≡ true)

-- Nobody is met from more than two others, their mother and their father: the lines below all who are listed are together at most twice as many as these,
-- and their children, whether their lines live or not, at most twice as many as there are persons.
unfoldable pub MetFromTwo : Type 0
MetFromTwo =
    (g : Family) (os : List ℕ) → Listing g os →
    (sum_by (λ q. length (divided_among g q)) os ≤ 2 * length os) × (sum_by (λ q. length (children g q)) os ≤ 2 * length g)

-- Upward along such a list, everybody's numbers are those of their line.
unfoldable pub CountsRight : Type 0
CountsRight =
    (g : Family) (rk : ℕ → ℕ) (os row : List ℕ) → Ranked g rk → Listing g os → length g ≤ length row →
    AllByRecursion (λ q. slice_index (filled_up count_step (divided_among g) os row) q ≡ few (part_count g q)) os

unfoldable pub MultiplesRight : Type 0
MultiplesRight =
    (g : Family) (rk : ℕ → ℕ) (os row : List ℕ) → Ranked g rk → Listing g os → length g ≤ length row →
    AllByRecursion (λ q. slice_index (filled_up multiple_step (divided_among g) os row) q ≡ word_or_zero (line_multiple g q)) os

-- A row in which nobody has anything.
abbrev pub NoAmounts : List ℕ → Type 0
NoAmounts row = (w : ℕ) → slice_index row w ≡ 0

-- Lines to begin with: each lives, is listed, and has one by some number.
pub record Starts (g : Family) (os : List ℕ) (ss : List Part) : Type 0 where
  pub living : AllByRecursion (λ (s : Part). alive g s.who ≡ true) ss
  pub listed : AllByRecursion (λ (s : Part). is_in s.who os ≡ true) ss
  pub positive : AllByRecursion (λ (s : Part). 0 < s.by) ss

-- Downward along such a list, for a number of pieces that all parts divide, everybody has at the end just what all their parts come to; who does not inherit has nothing.
unfoldable pub PiecesRight : Type 0
PiecesRight =
    (g : Family) (rk : ℕ → ℕ) (os row : List ℕ) (ss : List Part) (times n w : ℕ) → Ranked g rk → Listing g os → Starts g os ss → length g ≤ length row → NoAmounts row →
    divides_all n (starts_parts g ss) ≡ true →
    slice_index (handed_down (divided_among g) os (started times n ss row)) w ≡ times * pieces n (starts_parts g ss) w

-- A row of parts, a part of somebody beside it, by the passes: whether the parts are too many, and the least number that all divide.
unfoldable pub LimitsRight : Type 0
LimitsRight =
    (g : Family) (rk : ℕ → ℕ) (os row : List ℕ) (lead ss : List Part) (times : ℕ) → Ranked g rk → Listing g os → Starts g os ss → length g ≤ length row → 0 < times →
    (nat_le (length (lead ++ repeated times (starts_parts g ss))) 4096
    ≡ nat_le (length lead + times * starts_count (filled_up count_step (divided_among g) os row) ss) 4096)
    × (common_multiple (lead ++ repeated times (starts_parts g ss)) 1
    ≡ common_multiple (lead ++ starts_numbers (filled_up multiple_step (divided_among g) os row) ss) 1)

-- Nothing is made on the way down: what all have together never grows, so that nobody has more than all had together at the start.
unfoldable pub NeverMore : Type 0
NeverMore =
    (below : ℕ → List ℕ) (os row : List ℕ) → AllByRecursion (λ q. (q < length row) × AllByRecursion (λ c. c < length row) (below q)) os → sum (handed_down below os row) ≤ sum row

-- A row that has something only at places of a list has nothing when these are cleared.
unfoldable pub ClearedRight : Type 0
ClearedRight = (os row : List ℕ) → ((w : ℕ) → is_in w os ≡ false → slice_index row w ≡ 0) → cleared os row ≡ replicate (length row) 0

-- The relatives of the decedent by their starts, and what these begin with together.
unfoldable pub StartsRight : Type 0
StartsRight =
    (g : Family) (rk : ℕ → ℕ) (d b : ℕ) → Ranked g rk → 0 < b →
    (starts_parts g (kept_starts g d b) ≡ kept_relatives g d b)
    × AllByRecursion (λ (s : Part). (alive g s.who ≡ true) × (s.who < length g) × (0 < s.by) × (s.by ≤ 4 * b)) (kept_starts g d b)
    × ((n : ℕ) → all_pieces n (kept_starts g d b) * b ≤ n) × (length (kept_starts g d b) ≤ 4)
