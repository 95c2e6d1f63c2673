-- The ways of an estate are its parts. Assumes nothing.
use Rattle.std.proofs.Common.{◌≡◌, ℕ, zero, suc, ◌+◌, ◌-◌, ◌*◌, ◌/◌, Bool, true, false, cond, eqb, List, [], ◌∷◌, ◌++◌, map, length, sym, refl, ap, ◌∙◌, ap₂, one-mul, mul-add, arith}
use Rattle.std.proofs.lemmas.List.{append-nil}
use Rattle.std.proofs.lemmas.Bool.{eqb-true}
use Rattle.law.specs.Family.{Family, Part, person, parents, living_lines, living_sides, couple_parts, first_order, second_order, third_order, line_parts, order, relatives_parts, has_living_spouse, spouse_parts, repeated, estate}
use Rattle.law.specs.Calls.{pieces}
use Rattle.theory.proofs.Lists.{joined_cong, all_any}
use Rattle.theory.proofs.Parts.{pieces_append, pieces_repeated}
use Rattle.ways.specs.Ways.{Way, way_part, Reason, counted, line_ways, couple_ways, first_ways, second_ways, third_ways, relatives_ways, relatives_up, spouse_ways, kin_ways, estate_ways}
use Rattle.ways.specs.Laws.{way_pieces, WaysAreParts}
use Rattle.ways.proofs.Going.{map-joined, ways_forget}

module _ (f : Family) (d : ℕ) where
  couple_forget : (ps : List ℕ) (b : ℕ) → map way_part (couple_ways f d ps b) ≡ couple_parts f d ps b
  unfolding couple_parts
  couple_forget ps b =
      let k = b * length (living_lines f d ps) in
      map-joined way_part (λ p. line_ways f d (p ∷ []) p k) (living_lines f d ps)
      ∙ joined_cong (λ p. map way_part (line_ways f d (p ∷ []) p k)) (λ p. line_parts f d p k) (living_lines f d ps)
      (all_any (λ p. map way_part (line_ways f d (p ∷ []) p k) ≡ line_parts f d p k) (λ p. ways_forget (suc (length f)) f d (p ∷ []) p k) (living_lines f d ps))

  third_forget : (b : ℕ) → map way_part (third_ways f d b) ≡ third_order f d b
  third_forget b =
      let k = b * length (living_sides f d) in
      map-joined way_part (λ p. couple_ways f d (parents f p) k) (living_sides f d)
      ∙ joined_cong (λ p. map way_part (couple_ways f d (parents f p) k)) (λ p. couple_parts f d (parents f p) k) (living_sides f d)
      (all_any (λ p. map way_part (couple_ways f d (parents f p) k) ≡ couple_parts f d (parents f p) k) (λ p. couple_forget (parents f p) k) (living_sides f d))

  pub relatives_forget : (b : ℕ) → map way_part (relatives_ways f d b) ≡ relatives_parts f d b
  unfolding relatives_ways
  relatives_forget b = go (eqb (order f d) 1) (eqb (order f d) 2) (eqb (order f d) 3)
    where
      go : (x y z : Bool) → map way_part (cond x (first_ways f d b) (cond y (second_ways f d b) (cond z (third_ways f d b) [])))
          ≡ cond x (first_order f d b) (cond y (second_order f d b) (cond z (third_order f d b) []))
      go true y z = ways_forget (suc (length f)) f d [] d b
      go false true z = couple_forget (parents f d) b
      go false false true = third_forget b
      go false false false = refl

  repeated_once : (ps : List Part) → repeated 1 ps ≡ ps
  unfolding repeated
  repeated_once ps = append-nil ps

  repeated_none : (n : ℕ) → repeated n [] ≡ []
  unfolding repeated
  repeated_none zero = refl
  repeated_none (suc n) = repeated_none n

  pub estate_forget : estate f d ≡ map way_part (spouse_ways f d) ++ repeated (relatives_up f d) (map way_part (kin_ways f d))
  estate_forget = go (has_living_spouse f d) (eqb (order f d) 1) (eqb (order f d) 4) nobody_else
    where
      nobody_else : eqb (order f d) 4 ≡ true → map way_part (relatives_ways f d 2) ≡ []
      nobody_else e =
          relatives_forget 2
          ∙ ap (λ o. cond (eqb o 1) (first_order f d 2) (cond (eqb o 2) (second_order f d 2) (cond (eqb o 3) (third_order f d 2) []))) (eqb-true (order f d) 4 e)

      rest : (b : ℕ) → relatives_parts f d b ≡ repeated 1 (map way_part (relatives_ways f d b))
      rest b = sym (relatives_forget b) ∙ sym (repeated_once (map way_part (relatives_ways f d b)))

      go : (m x y : Bool) → (y ≡ true → map way_part (relatives_ways f d 2) ≡ [])
          → cond m (cond x (spouse_parts f d 4 ++ repeated 3 (relatives_parts f d 4)) (cond y (spouse_parts f d 1) (spouse_parts f d 2 ++ relatives_parts f d 2))) (relatives_parts f d 1)
          ≡ map way_part (cond m (record { line = []; who = (person f d).spouse - 1; by = cond x 4 (cond y 1 2) } ∷ []) [])
          ++ repeated (cond m (cond x 3 1) 1) (map way_part (relatives_ways f d (cond m (cond x 4 2) 1)))
      go true true y h = ap (λ ps. spouse_parts f d 4 ++ repeated 3 ps) (sym (relatives_forget 4))
      go true false true h = ap (λ ps. spouse_parts f d 1 ++ ps) (sym (ap (repeated 1) (h refl) ∙ repeated_none 1))
      go true false false h = ap (λ ps. spouse_parts f d 2 ++ ps) (rest 2)
      go false x y h = rest 1

-- what somebody has by ways, and by as many parts as each counts
pub way_pieces_append : (n w : ℕ) (xs ys : List Reason) → way_pieces n (xs ++ ys) w ≡ way_pieces n xs w + way_pieces n ys w
unfolding way_pieces
way_pieces_append n w [] ys = let e : way_pieces n ys w ≡ 0 + way_pieces n ys w = omega arith in e
way_pieces_append n w (x ∷ xs) ys =
    let e = way_pieces_append n w xs ys in
    omega arith

counted_pieces : (n w k : ℕ) (ws : List Way) → way_pieces n (map (counted k) ws) w ≡ k * pieces n (map way_part ws) w
unfolding way_pieces pieces
counted_pieces n w k [] = let e : 0 ≡ k * 0 = omega arith in e
counted_pieces n w k (x ∷ xs) = go (eqb x.who w) (n / x.by) (way_pieces n (map (counted k) xs) w) (pieces n (map way_part xs) w) (counted_pieces n w k xs)
  where
    go : (t : Bool) (a u v : ℕ) → u ≡ k * v → cond t (k * a) 0 + u ≡ k * (cond t a 0 + v)
    go true a u v e = omega (arith, mul-add k a v)
    go false a u v e = omega (arith, mul-add k 0 v)

pub estate_pieces : (f : Family) (d n w : ℕ) → way_pieces n (estate_ways f d) w ≡ pieces n (estate f d) w
unfolding estate_ways
estate_pieces f d n w =
    way_pieces_append n w (map (counted 1) (spouse_ways f d)) (map (counted (relatives_up f d)) (kin_ways f d))
    ∙ ap₂ (λ (x y : ℕ). x + y) (counted_pieces n w 1 (spouse_ways f d) ∙ one-mul (pieces n (map way_part (spouse_ways f d)) w))
    (counted_pieces n w (relatives_up f d) (kin_ways f d) ∙ sym (pieces_repeated n (relatives_up f d) (map way_part (kin_ways f d)) w))
    ∙ sym (pieces_append n (map way_part (spouse_ways f d)) (repeated (relatives_up f d) (map way_part (kin_ways f d))) w)
    ∙ ap (λ ps. pieces n ps w) (sym (estate_forget f d))

pub ways_are_parts : WaysAreParts
unfolding WaysAreParts
ways_are_parts f d = record { relatives = relatives_forget f d; whole = estate_forget f d; pieces_same = estate_pieces f d }
