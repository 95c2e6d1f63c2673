use Rattle.std.proofs.Common.{◌≡◌, ℕ, ◌-◌, ◌≤◌, List, length}
use Rattle.law.specs.Family.{Family, Part}
use Rattle.people.specs.Layout.{limit_in, count_in}
use Rattle.amounts.specs.Passes.{all_listed, listed_in}
use Rattle.amounts.specs.Lines.{divided_among}
use Rattle.amounts.specs.Statements.{Listing}
use Rattle.passes.specs.Rows.{Rowed}
use Rattle.passes.specs.Listings.{listed_rows, Ready}
use Rattle.passes.specs.Walking.{Ahead}
use Rattle.passes.proofs.+list.Given as goal

abbrev pub decreases-list : goal.decreases-list
decreases-list l = l.steps

abbrev pub decreases-loop-child : goal.decreases-loop-child
decreases-loop-child l = l.lines.turns

abbrev pub invariant-loop-child : goal.invariant-loop-child
invariant-loop-child l =
    record {
      limit : limit_in l.memory ≡ limit_in l.initial.memory;
      count : count_in l.memory ≡ count_in l.initial.memory;
      who : l.lines.who ≡ l.who;
      within : l.count ≤ limit_in l.initial.memory → l.at ≤ limit_in l.initial.memory;
      listed : (n : ℕ) (f : Family) (rk : ℕ → ℕ) (ps : List Part) (out spare rest : List ℕ) → Ready l.initial.memory n f rk ps out spare rest l.steps l.who l.count →
          (ds : List ℕ) × (now : List ℕ) × Ahead f l.lines ds × Rowed l.memory n f ps (listed_rows n f now) spare rest × (l.at ≡ length now) × Listing f now
          × (all_listed (λ c o. listed_in (l.steps - 1) (divided_among f) c o) ds now ≡ all_listed (λ c o. listed_in (l.steps - 1) (divided_among f) c o) (divided_among f l.who) out);
    }
