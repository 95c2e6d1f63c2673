-- The sides of the grandparents. Assumes nothing.
use Rattle.std.proofs.Common.{◌≡◌, ℕ, zero, suc, not, eqb, ltb, ◌++◌, length, filter, sym, refl, ap, ◌∙◌, arith}
use Rattle.std.proofs.lemmas.Bool.{ne_eqb, lt-ltb}
use Rattle.law.specs.Family.{Family, person, known, side_lives}
use Rattle.theory.specs.Living.{alive}
use Rattle.succession.specs.Orders.{forebears, line_in, parents_at}

-- whether a line lives on somebody's side, by how many of their parents' lines live
some_number : (n : ℕ) → ltb 0 n ≡ not (eqb n 0)
some_number zero = refl
some_number (suc n) = lt-ltb 0 (suc n) (omega arith) ∙ sym (ap not (ne_eqb (suc n) 0 (λ e. omega arith)))

pub side_in : (f : Family) (link : ℕ) → ltb 0 (length (filter (alive f) (forebears (parents_at f link)))) ≡ line_in (λ p. side_lives f (length f) p) link
unfolding side_lives known
side_in f zero = refl
side_in f (suc p) = some_number (length (filter (alive f) (known (person f p).mother ++ known (person f p).father)))
