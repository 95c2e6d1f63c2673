-- An estate by passes: the lines that it begins with are listed, upward come the number of parts and the least number that all divide, and downward everybody's pieces.
-- Assumes nothing: these are definitions and a statement whose proof is owed wherever a contract names it.
use Rattle.std.specs.Prelude.{◌≡◌, ℕ, ◌+◌, ◌*◌, ◌<◌, ◌≤◌, true, cond, List, [], ◌++◌, map, length, sum, ◌==◌, nat_le, slice_index}
use Rattle.std.specs.List.{range_with_len, AllByRecursion}
use Rattle.law.specs.Family.{person, Family, Part, has_living_spouse, spouse_parts, repeated, estate}
use Rattle.law.specs.Calls.{common_multiple, divides_all, pieces, all_pieces}
use Rattle.law.specs.Promise.{OfLine}
use Rattle.theory.specs.Families.{Ranked, WellFormed}
use Rattle.theory.specs.Decedent.{with_dead, kept_order, kept_estate}
use Rattle.amounts.specs.Passes.{is_in, listed, filled_up, count_step, multiple_step, handed_down, started, starts_count, starts_numbers}
use Rattle.amounts.specs.Lines.{divided_among, kept_starts, starts_persons, starts_parts}
use Rattle.amounts.specs.Statements.{Listing, Starts, NoAmounts}

-- Beside a living spouse or not: by how many the relatives have their part, how often each of its parts counts, and the spouse's part.
abbrev pub relatives_number : Family → ℕ → ℕ
relatives_number g d = cond (has_living_spouse g d) (cond (kept_order g d == 1) 4 (cond (kept_order g d == 4) 1 2)) 1

abbrev pub relatives_times : Family → ℕ → ℕ
relatives_times g d = cond (has_living_spouse g d) (cond (kept_order g d == 1) 3 1) 1

abbrev pub spouse_lead : Family → ℕ → List Part
spouse_lead g d = cond (has_living_spouse g d) (spouse_parts g d (relatives_number g d)) []

-- the lines that the estate begins with, and all persons of them
abbrev pub estate_starts : Family → ℕ → List Part
estate_starts g d = kept_starts g d (relatives_number g d)

abbrev pub estate_listing : Family → ℕ → List ℕ
estate_listing g d = listed (length g) (divided_among g) (starts_persons (estate_starts g d))

-- what the passes leave in a row
abbrev pub estate_counts : Family → ℕ → List ℕ → List ℕ
estate_counts g d row = filled_up count_step (divided_among g) (estate_listing g d) row

abbrev pub estate_multiples : Family → ℕ → List ℕ → List ℕ
estate_multiples g d row = filled_up multiple_step (divided_among g) (estate_listing g d) row

abbrev pub estate_amounts : Family → ℕ → ℕ → List ℕ → List ℕ
estate_amounts g d n row = handed_down (divided_among g) (estate_listing g d) (started (relatives_times g d) n (estate_starts g d) row)

-- somebody is of the line of one of several
abbrev pub OfSomeLine : Family → List ℕ → ℕ → Type 0
OfSomeLine g ps q = (p : ℕ) × (is_in p ps ≡ true) × OfLine g p q

-- The estate of d whose parts are ps, where d is dead in g, by the passes. Only persons of lines that inherit are listed. The passes come to whether the parts are too many,
-- to the least number that all divide, and to everybody's pieces, also as a row when the spouse's are added; of the relatives just those have pieces who are listed and live;
-- and all have together no more pieces than there are.
pub record ByPasses (g : Family) (d : ℕ) (ps : List Part) : Type 0 where
  pub listing : Listing g (estate_listing g d)
  pub starts : Starts g (estate_listing g d) (estate_starts g d)
  pub concerned : AllByRecursion (λ q. OfSomeLine g (starts_persons (estate_starts g d)) q) (estate_listing g d)
  pub whole : spouse_lead g d ++ repeated (relatives_times g d) (starts_parts g (estate_starts g d)) ≡ ps
  pub parts :
      (row : List ℕ) → length g ≤ length row →
      nat_le (length ps) 4096 ≡ nat_le (length (spouse_lead g d) + relatives_times g d * starts_count (estate_counts g d row) (estate_starts g d)) 4096
  pub number :
      (row : List ℕ) → length g ≤ length row → common_multiple ps 1 ≡ common_multiple (spouse_lead g d ++ starts_numbers (estate_multiples g d row) (estate_starts g d)) 1
  pub amounts :
      (row : List ℕ) (n w : ℕ) → length g ≤ length row → NoAmounts row → divides_all n ps ≡ true →
      slice_index (estate_amounts g d n row) w + pieces n (spouse_lead g d) w ≡ pieces n ps w
  pub row :
      (row : List ℕ) (n : ℕ) → length g ≤ length row → NoAmounts row → divides_all n ps ≡ true →
      started 1 n (spouse_lead g d) (estate_amounts g d n row) ≡ map (pieces n ps) (range_with_len 0 (length row))
  pub heirs :
      (row : List ℕ) (n w : ℕ) → length g ≤ length row → NoAmounts row → divides_all n ps ≡ true → 0 < n →
      (0 < slice_index (estate_amounts g d n row) w → (is_in w (estate_listing g d) ≡ true) × ((person g w).lives ≡ true))
      × (is_in w (estate_listing g d) ≡ true → (person g w).lives ≡ true → 0 < slice_index (estate_amounts g d n row) w)
  pub most :
      (row : List ℕ) (n : ℕ) → length g ≤ length row → NoAmounts row →
      sum (started (relatives_times g d) n (estate_starts g d) row) + all_pieces n (spouse_lead g d) ≤ n

-- In a family with a rank the passes come to the estate that is read off the lines that live; and so, for a well-formed family, to the estate.
unfoldable pub EstateByPasses : Type 0
EstateByPasses =
    ((g : Family) (rk : ℕ → ℕ) (d : ℕ) → Ranked g rk → ByPasses g d (kept_estate g d)) × ((f : Family) (d : ℕ) → WellFormed f → ByPasses (with_dead f d) d (estate f d))
