-- Walks over the lines among which what comes to somebody is divided. Assumes nothing: these are definitions.
use Rattle.std.specs.Prelude.{◌≡◌, ℕ, ◌+◌, ◌<◌, ◌≤◌, List, [], ◌∷◌, length, drop, filter, Option, MatchOption, IfSome}
use Rattle.law.specs.Family.{Family, children}
use Rattle.theory.specs.Living.{alive}
use Rattle.children.specs.Links.{first_of}
use Rattle.people.specs.Layout.{limit_in}
use Rattle.living.specs.Places.{Held}
use Rattle.amounts.specs.Lines.{divided_among}
use Rattle.passes.specs.declared.Walk.{Walk}

-- The link of a walk leads to the child with this index, if there is one, and there are turns for all children from there on.
pub record Before (f : Family) (w : Walk) (j : ℕ) : Type 0 where
  pub link : w.link ≡ first_of (drop j (children f w.who))
  pub turns : length (drop j (children f w.who)) ≤ w.turns

-- A walk has these lines ahead: they are the last of somebody's, and those of the children from its link on that live.
pub record Ahead (f : Family) (w : Walk) (ds : List ℕ) : Type 0 where
  pub last : (i : ℕ) × (ds ≡ drop i (divided_among f w.who))
  pub left : (j : ℕ) × Before f w j × (ds ≡ filter (alive f) (drop j (children f w.who)))

-- A walk in some words went on to a child: somebody within the limit, the first of those that were left, and a turn is taken.
pub record Passed (ws : List ℕ) (w : Walk) (r : Option ℕ) (v : Walk) : Type 0 where
  pub who : v.who ≡ w.who
  pub within : IfSome r (λ c. c < limit_in ws)
  pub fewer : IfSome r (λ _. v.turns + 1 ≡ w.turns)
  pub next : (n : ℕ) (f : Family) (work rest : List ℕ) (j : ℕ) → Held ws n f (alive f) work rest → Before f w j
      → MatchOption r (drop j (children f w.who) ≡ []) (λ c. (drop j (children f w.who) ≡ c ∷ drop (j + 1) (children f w.who)) × Before f v (j + 1))

-- A walk in some words went on: a line is of a person within the limit and takes a turn or more, and it is the first of those that were ahead.
pub record Stepped (ws : List ℕ) (w : Walk) (r : Option ℕ) (v : Walk) : Type 0 where
  pub who : v.who ≡ w.who
  pub within : IfSome r (λ c. c < limit_in ws)
  pub fewer : IfSome r (λ _. v.turns < w.turns)
  pub next : (n : ℕ) (f : Family) (work rest ds : List ℕ) → Held ws n f (alive f) work rest → Ahead f w ds → MatchOption r (ds ≡ []) (λ c. (qs : List ℕ) × (ds ≡ c ∷ qs) × Ahead f v qs)
