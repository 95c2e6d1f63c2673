use Rattle.std.proofs.Common.{◌≡◌, ℕ, ◌<◌, List, sum}
use Rattle.law.specs.Family.{Family, Part}
use Rattle.people.specs.Layout.{limit_in, count_in}
use Rattle.amounts.specs.Passes.{added_each}
use Rattle.amounts.specs.Lines.{divided_among}
use Rattle.passes.specs.Rows.{Rows, Rowed, with_pieces}
use Rattle.passes.specs.Walking.{Ahead}
use Rattle.passes.proofs.add_below.Given as goal

abbrev pub decreases-loop-child : goal.decreases-loop-child
decreases-loop-child l = l.lines.turns

abbrev pub invariant-loop-child : goal.invariant-loop-child
invariant-loop-child l =
    record {
      limit : limit_in l.memory ≡ limit_in l.initial.memory;
      count : count_in l.memory ≡ count_in l.initial.memory;
      who : l.lines.who ≡ l.who;
      added : (n : ℕ) (f : Family) (ps : List Part) (rows : Rows) (spare rest : List ℕ) → Rowed l.initial.memory n f ps rows spare rest →
          sum (added_each (divided_among f l.who) l.each rows.pieces) < 4294967296 →
          (ds : List ℕ) × (row : List ℕ) × Ahead f l.lines ds × Rowed l.memory n f ps (with_pieces rows row) spare rest
          × (added_each ds l.each row ≡ added_each (divided_among f l.who) l.each rows.pieces);
    }
