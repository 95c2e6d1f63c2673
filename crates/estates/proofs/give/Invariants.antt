use Rattle.std.proofs.Common.{◌≡◌, ℕ, ◌<◌, List, length, drop, sum}
use Rattle.std.specs.List.{AllByRecursion}
use Rattle.law.specs.Family.{Family, Part}
use Rattle.people.specs.Layout.{limit_in, count_in}
use Rattle.amounts.specs.Passes.{started}
use Rattle.passes.specs.Rows.{Rows, Rowed, with_pieces}
use Rattle.estates.proofs.give.Given as goal

abbrev pub invariant-loop-i : goal.invariant-loop-i
invariant-loop-i l =
    record {
      limit : limit_in l.memory ≡ limit_in l.initial.memory;
      count : count_in l.memory ≡ count_in l.initial.memory;
      given : (n : ℕ) (f : Family) (ss : List Part) (rows : Rows) (spare rest : List ℕ) → Rowed l.initial.memory n f ss rows spare rest → length ss ≡ l.count → AllByRecursion (λ (s : Part). s.who < n) ss →
          sum (started l.times l.whole ss rows.pieces) < 4294967296 →
          (row : List ℕ) × Rowed l.memory n f ss (with_pieces rows row) spare rest × (started l.times l.whole (drop l.i ss) row ≡ started l.times l.whole ss rows.pieces);
    }
