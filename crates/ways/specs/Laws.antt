-- Laws of the ways of an estate, in the words of the definitions. Each is a statement: a type whose proof is owed wherever a contract names it. Assumes nothing.
use Rattle.std.specs.Prelude.{◌≡◌, ℕ, ◌+◌, ◌*◌, ◌/◌, cond, List, [], ◌∷◌, ◌++◌, map, ◌==◌}
use Rattle.law.specs.Family.{Family, relatives_parts, repeated, estate}
use Rattle.law.specs.Calls.{pieces}
use Rattle.ways.specs.Ways.{way_part, Reason, spouse_ways, kin_ways, relatives_up, relatives_ways, estate_ways}

-- If the estate is n pieces: how many somebody has by some ways.
unfoldable pub way_pieces : ℕ → List Reason → ℕ → ℕ
way_pieces n [] w = 0
way_pieces n (r ∷ rs) w = cond (r.who == w) (r.up * (n / r.by)) 0 + way_pieces n rs w

-- Without the persons on the way, the ways are the definitions' parts: those of the relatives of each order, and those of the whole estate, where each way of the relatives
-- stands for as many equal parts as it counts. So everybody has by their ways what they have by their parts.
pub record WaysAsParts (f : Family) (d : ℕ) : Type 0 where
  pub relatives : (b : ℕ) → map way_part (relatives_ways f d b) ≡ relatives_parts f d b
  pub whole : estate f d ≡ map way_part (spouse_ways f d) ++ repeated (relatives_up f d) (map way_part (kin_ways f d))
  pub pieces_same : (n w : ℕ) → way_pieces n (estate_ways f d) w ≡ pieces n (estate f d) w

unfoldable pub WaysAreParts : Type 0
WaysAreParts = (f : Family) (d : ℕ) → WaysAsParts f d
