use Rattle.std.proofs.Common.{◌≡◌, ℕ, ◌≤◌, List}
use Rattle.law.specs.Family.{Family}
use Rattle.theory.specs.Living.{alive}
use Rattle.living.specs.Places.{Held}
use Rattle.passes.specs.Walking.{Ahead}
use Rattle.passes.proofs.Walk.next.Given as goal

abbrev pub decreases-loop-child : goal.decreases-loop-child
decreases-loop-child l = l.self.turns

abbrev pub invariant-loop-child : goal.invariant-loop-child
invariant-loop-child l =
    record {
      who : l.self.who ≡ l.initial.self.who;
      turns : l.self.turns ≤ l.initial.self.turns;
      ahead : (n : ℕ) (f : Family) (work rest ds : List ℕ) → Held l.memory n f (alive f) work rest → Ahead f l.initial.self ds → Ahead f l.self ds;
    }
