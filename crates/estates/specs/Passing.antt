-- An estate by passes in memory: what is listed, what is divided, and what each pass leaves. Assumes nothing: these are definitions.
use Rattle.std.specs.Prelude.{◌≡◌, ℕ, ◌+◌, ◌*◌, ◌<◌, ◌≤◌, true, cond, List, [], length, replicate, Some, None, Option, slice_index}
use Rattle.std.specs.List.{AllByRecursion}
use Rattle.law.specs.Family.{Family, Part}
use Rattle.law.specs.Calls.{shares}
use Rattle.theory.specs.Shares.{shares_of}
use Rattle.rows.specs.Written.{written}
use Rattle.wire.specs.Bytes.{answer_bytes}
use Rattle.people.specs.Layout.{working}
use Rattle.shares.specs.Work.{divided}
use Rattle.descent.specs.Going.{with_parts}
use Rattle.theory.specs.Families.{Ranked}
use Rattle.theory.specs.Living.{alive}
use Rattle.theory.specs.Decedent.{kept_estate}
use Rattle.amounts.specs.Passes.{listed}
use Rattle.amounts.specs.Lines.{divided_among, starts_persons}
use Rattle.amounts.specs.Estates.{relatives_times, spouse_lead, estate_starts, estate_listing, estate_amounts}
use Rattle.shares.specs.Parts.{lead_parts, dividable, number_of}
use Rattle.succession.specs.declared.Beside.{Beside}
use Rattle.passes.specs.Rows.{Rowed, with_pieces}
use Rattle.passes.specs.Listings.{listed_rows}

-- the words that the shares' layer does not use, all 0
abbrev pub spare_zeros : ℕ → List ℕ
spare_zeros n = replicate (16126 + 7 * n) 0

-- all persons of lines to begin with
abbrev pub all_of : Family → List Part → List ℕ
all_of f ss = listed (length f) (divided_among f) (starts_persons ss)

-- What is asked to list lines: they lie in memory as parts, each lives, and nobody is listed.
pub record ToList (ws : List ℕ) (n : ℕ) (f : Family) (rk : ℕ → ℕ) (ss : List Part) (spare rest : List ℕ) (count : ℕ) : Type 0 where
  pub rows : Rowed ws n f ss (listed_rows n f []) spare rest
  pub many : length ss ≡ count
  pub ranked : Ranked f rk
  pub living : AllByRecursion (λ (s : Part). alive f s.who ≡ true) ss

-- Lines were listed, and how many persons these are is said.
pub record LinesListed (n : ℕ) (f : Family) (ss : List Part) (spare rest later : List ℕ) (r : ℕ) : Type 0 where
  pub rows : Rowed later n f ss (listed_rows n f (all_of f ss)) spare rest
  pub next : r ≡ length (all_of f ss)

-- everybody's pieces of the estate of d, where it is divided by a number; none where it is not
abbrev pub pieces_by : ℕ → Family → ℕ → Option ℕ → List ℕ
pieces_by n f d None = replicate n 0
pieces_by n f d (Some number) = estate_amounts f d number (replicate n 0)

-- What is asked to divide the estate of d among the lines that it begins with: all their persons are listed, and what the spouse has is known.
pub record ToDivide (ws : List ℕ) (n : ℕ) (f : Family) (rk : ℕ → ℕ) (d : ℕ) (spare rest : List ℕ) (beside : Beside) (count persons : ℕ) : Type 0 where
  pub rows : Rowed ws n f (estate_starts f d) (listed_rows n f (estate_listing f d)) spare rest
  pub ranked : Ranked f rk
  pub many : length (estate_starts f d) ≡ count
  pub all : length (estate_listing f d) ≡ persons
  pub spouse : lead_parts beside.lead ≡ spouse_lead f d
  pub repeats : beside.times ≡ relatives_times f d
  pub some : 0 < beside.times

-- The estate of d was divided among these lines, by the least number that all parts divide; or it is beyond the limits, and nobody has pieces.
pub record Divided (n : ℕ) (f : Family) (d : ℕ) (spare rest later : List ℕ) (r : Option ℕ) : Type 0 where
  pub number : r ≡ number_of (kept_estate f d)
  pub rows : Rowed later n f (estate_starts f d) (with_pieces (listed_rows n f (estate_listing f d)) (pieces_by n f d r)) spare rest

-- what each has, where the estate of d is divided by a number
abbrev pub amounts_by : ℕ → Family → ℕ → Option ℕ → ℕ → ℕ
amounts_by n f d r w = slice_index (pieces_by n f d r) w

-- What is asked to divide the estate of d: the lines that it begins with lie in memory as parts, and what the spouse has is known.
pub record ToSettle (ws : List ℕ) (n : ℕ) (f : Family) (rk : ℕ → ℕ) (d : ℕ) (rest : List ℕ) (beside : Beside) (count : ℕ) : Type 0 where
  pub words : ws ≡ with_parts n f (estate_starts f d) (spare_zeros n) rest
  pub room : length f ≤ n
  pub few : length (estate_starts f d) ≤ 4096
  pub ranked : Ranked f rk
  pub many : length (estate_starts f d) ≡ count
  pub spouse : lead_parts beside.lead ≡ spouse_lead f d
  pub repeats : beside.times ≡ relatives_times f d
  pub some : 0 < beside.times

-- The estate of d was divided among the lines that it begins with: everybody has their pieces, and the heirs are those who have any.
pub record EstateDivided (n : ℕ) (f : Family) (d : ℕ) (rest later : List ℕ) (r : Option ℕ) : Type 0 where
  pub number : r ≡ number_of (kept_estate f d)
  pub words : later ≡ working n f (divided n (estate_starts f d) (amounts_by n f d r) (spare_zeros n)) rest

-- Shares were written: nobody is an heir or has pieces, and where the estate is within the limits the answer begins with its shares and how many they are is said.
pub record Answered (n : ℕ) (f : Family) (d : ℕ) (rest later before answer : List ℕ) (r : Option ℕ) : Type 0 where
  pub left : later ≡ with_parts n f (estate_starts f d) (spare_zeros n) rest
  pub said : answer ≡ cond (dividable (kept_estate f d)) (written 0 (answer_bytes (shares (shares_of (kept_estate f d)))) before) before
  pub next : r ≡ cond (dividable (kept_estate f d)) (Some (length (shares_of (kept_estate f d)))) None
