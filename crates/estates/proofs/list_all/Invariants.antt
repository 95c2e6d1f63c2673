use Rattle.std.proofs.Common.{◌≡◌, ℕ, ◌≤◌, List, length, drop}
use Rattle.law.specs.Family.{Family, Part}
use Rattle.people.specs.Layout.{limit_in, count_in}
use Rattle.amounts.specs.Passes.{all_listed, listed_in}
use Rattle.amounts.specs.Lines.{divided_among, starts_persons}
use Rattle.amounts.specs.Statements.{Listing}
use Rattle.passes.specs.Rows.{Rowed}
use Rattle.passes.specs.Listings.{listed_rows}
use Rattle.estates.specs.Passing.{ToList, all_of}
use Rattle.estates.proofs.list_all.Given as goal

abbrev pub invariant-loop-i : goal.invariant-loop-i
invariant-loop-i l =
    record {
      limit : limit_in l.memory ≡ limit_in l.initial.memory;
      count : count_in l.memory ≡ count_in l.initial.memory;
      within : l.listed ≤ limit_in l.initial.memory;
      listed : (n : ℕ) (f : Family) (rk : ℕ → ℕ) (ss : List Part) (spare rest : List ℕ) → ToList l.initial.memory n f rk ss spare rest l.count →
          (now : List ℕ) × Rowed l.memory n f ss (listed_rows n f now) spare rest × (l.listed ≡ length now) × Listing f now
          × (all_listed (λ p o. listed_in (length f) (divided_among f) p o) (drop l.i (starts_persons ss)) now ≡ all_of f ss);
    }
