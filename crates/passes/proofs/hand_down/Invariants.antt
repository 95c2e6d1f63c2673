use Rattle.std.proofs.Common.{◌≡◌, ℕ, ◌-◌, ◌<◌, List, length, drop, sum}
use Rattle.law.specs.Family.{Family, Part}
use Rattle.people.specs.Layout.{limit_in, count_in}
use Rattle.amounts.specs.Passes.{handed_down}
use Rattle.amounts.specs.Lines.{divided_among}
use Rattle.amounts.specs.Statements.{Listing}
use Rattle.passes.specs.Rows.{Rows, Rowed, with_pieces}
use Rattle.passes.specs.Listings.{order_row}
use Rattle.passes.proofs.hand_down.Given as goal

abbrev pub invariant-loop-place : goal.invariant-loop-place
invariant-loop-place l =
    record {
      limit : limit_in l.memory ≡ limit_in l.initial.memory;
      count : count_in l.memory ≡ count_in l.initial.memory;
      handed : (n : ℕ) (f : Family) (ps : List Part) (rows : Rows) (os spare rest : List ℕ) → Rowed l.initial.memory n f ps rows spare rest → rows.order ≡ order_row n os → Listing f os →
          length os ≡ l.count → sum rows.pieces < 4294967296 →
          (row : List ℕ) × Rowed l.memory n f ps (with_pieces rows row) spare rest
          × (handed_down (divided_among f) (drop (l.count - l.place) os) row ≡ handed_down (divided_among f) os rows.pieces) × (sum row < 4294967296);
    }
