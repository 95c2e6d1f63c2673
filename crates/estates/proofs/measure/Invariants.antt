use Rattle.std.proofs.Common.{◌≡◌, ℕ, ◌<◌, List, length, take}
use Rattle.std.specs.List.{AllByRecursion}
use Rattle.law.specs.Family.{Family, Part}
use Rattle.law.specs.Calls.{common_multiple}
use Rattle.amounts.specs.Passes.{few, starts_count, starts_numbers}
use Rattle.shares.specs.Parts.{lead_parts, word_number}
use Rattle.passes.specs.Rows.{Rows, Rowed}
use Rattle.estates.proofs.measure.Given as goal

abbrev pub invariant-loop-i : goal.invariant-loop-i
invariant-loop-i l =
    (n : ℕ) (f : Family) (ss : List Part) (rows : Rows) (spare rest : List ℕ) → Rowed l.memory n f ss rows spare rest → length ss ≡ l.count → AllByRecursion (λ (s : Part). s.who < n) ss →
    (l.all.parts ≡ few (starts_count rows.counts (take l.i ss))) × (l.all.multiple ≡ word_number (common_multiple (starts_numbers rows.multiples (take l.i ss)) (common_multiple (lead_parts l.fn.lead) 1)))
