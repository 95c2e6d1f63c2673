-- What is said of somebody's share: each part with the persons of its line, in lowest terms, and the sum. Assumes nothing: these are definitions.
use Rattle.std.specs.Prelude.{ℕ, ◌/◌, Bool, List, ◌++◌, map, vec_items, filter, codes, decimal, ◌==◌}
use Rattle.law.specs.Family.{Family, estate}
use Rattle.law.specs.Calls.{share_of, gcd}
use Rattle.theory.specs.Shares.{shares_of}
use Rattle.ways.specs.Ways.{Reason, counted, estate_ways}
use Rattle.ways.specs.Rows.{law_ways}
use Rattle.reasons.specs.Estates.{lead_ways}
use Rattle.reasons.specs.declared.Estate.{Estate}
use Rattle.why.specs.declared.Fraction.{Fraction}
use Rattle.why.specs.declared.Explanation.{Explanation}

-- a fraction in lowest terms
abbrev pub lowest_terms : ℕ → ℕ → Fraction
lowest_terms up down = record { up = up / gcd up down; down = down / gcd up down }

-- a fraction as text
abbrev pub fraction_text : Fraction → List ℕ
fraction_text x = decimal x.up ++ (codes "/" ++ decimal x.down)

-- a part in lowest terms and the persons of its line, who are none for a spouse
pub record LinePart : Type 0 where
  pub line : List ℕ
  pub part : Fraction

abbrev pub line_part : Reason → LinePart
line_part r = record { line = r.line; part = lowest_terms r.up r.by }

abbrev pub explanation : Explanation → LinePart
explanation e = record { line = vec_items e.line; part = e.part }

abbrev pub explanations : List Explanation → List LinePart
explanations es = map explanation es

-- the ways that end at somebody
abbrev pub ends_at : ℕ → Reason → Bool
ends_at w r = r.who == w

abbrev pub parts_to : ℕ → List Reason → List LinePart
parts_to w rs = map line_part (filter (ends_at w) rs)

-- all ways by which parts of an estate come to somebody, and what they come to: the share that the estate names
abbrev pub ways_to : Family → ℕ → ℕ → List LinePart
ways_to f d w = parts_to w (estate_ways f d)

abbrev pub share_for : Family → ℕ → ℕ → Fraction
share_for f d w = record { up = (share_of (shares_of (estate f d)) w).up; down = (share_of (shares_of (estate f d)) w).down }

-- the ways of an estate as the code has them
abbrev pub ways_held : Estate → List Reason
ways_held e = map (counted 1) (lead_ways e.spouse) ++ map (counted e.up) (law_ways (vec_items e.ways))
