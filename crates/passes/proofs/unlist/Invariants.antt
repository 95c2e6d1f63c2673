use Rattle.std.proofs.Common.{◌≡◌, ℕ, ◌<◌, Bool, List, length, replicate}
use Rattle.std.specs.List.{AllByRecursion}
use Rattle.law.specs.Family.{Family, Part}
use Rattle.people.specs.Layout.{limit_in, count_in}
use Rattle.amounts.specs.Passes.{cleared}
use Rattle.amounts.specs.Statements.{Listing}
use Rattle.passes.specs.Rows.{Rowed}
use Rattle.passes.specs.Listings.{order_row, counts_row, multiples_row}
use Rattle.passes.specs.Heirs.{heirs_of}
use Rattle.passes.proofs.unlist.Given as goal

abbrev pub invariant-loop-index : goal.invariant-loop-index
invariant-loop-index l =
    record {
      limit : limit_in l.memory ≡ limit_in l.initial.memory;
      count : count_in l.memory ≡ count_in l.initial.memory;
      left : (n : ℕ) (f : Family) (ps : List Part) (heirs : ℕ → Bool) (pieces os spare rest : List ℕ) →
          Rowed l.initial.memory n f ps (record { heirs = heirs; pieces = pieces; order = order_row n os; counts = counts_row n f os; multiples = multiples_row n f os }) spare rest → Listing f os →
          length os ≡ l.count →
          (qs : List ℕ) × (s : ℕ → Bool) × (cs : List ℕ) × (ms : List ℕ) × (length qs ≡ l.index) × AllByRecursion (λ q. q < length f) qs
          × Rowed l.memory n f ps (record { heirs = s; pieces = pieces; order = order_row n qs; counts = cs; multiples = ms }) spare rest
          × (heirs_of pieces qs s ≡ heirs_of pieces os heirs) × (cleared qs cs ≡ replicate n 0) × (cleared qs ms ≡ replicate n 0);
    }
