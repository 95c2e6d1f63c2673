-- The number of pieces that the ways of an estate are divided into. Assumes nothing.
use Rattle.std.proofs.Common.{◌≡◌, ℕ, zero, suc, ◌+◌, ◌-◌, ◌*◌, ◌<◌, ◌≤◌, Bool, true, false, cond, not, eqb, leb, List, [], ◌∷◌, ◌++◌, map, length, get_or, drop, is_some, Some, None, Option, sym, refl, ap, ◌∙◌, subst, ⊎_elim, suc-mul, arith}
use Rattle.std.proofs.lemmas.List.{length-append, length-map, drop_more, drop_all, get_or-map}
use Rattle.std.proofs.lemmas.Bool.{and_left, and_right, not_from_true, eq-eqb, lt-leb}
use Rattle.law.specs.Family.{Family, Part, person, repeated, order, has_living_spouse, estate}
use Rattle.law.specs.Calls.{common_multiple}
use Rattle.theory.specs.Multiples.{lcm}
use Rattle.theory.proofs.Parts.{length-repeated}
use Rattle.descent.specs.Going.{TooLarge}
use Rattle.shares.specs.Parts.{lead_parts, whole_row, dividable, word_number, number_of}
use Rattle.shares.specs.declared.Part.{Part as PartStruct}
use Rattle.shares.proofs.Multiples.{multiple_on, multiple_off, multiple_end, multiple_row, number_none, number_some, word_some}
use Rattle.succession.specs.Orders.{spouse_in}
use Rattle.ways.specs.Ways.{way_part, spouse_ways, kin_ways, relatives_up}
use Rattle.ways.specs.Going.{Beyond}
use Rattle.ways.specs.Rows.{law_way, law_ways}
use Rattle.ways.specs.declared.Way.{Way}
use Rattle.ways.proofs.Laws.{estate_forget}
use Rattle.reasons.specs.Estates.{lead_ways}

abbrev pub parts_of : List Way → List Part
parts_of ws = map way_part (law_ways ws)

pub length-parts : (ws : List Way) → length (parts_of ws) ≡ length ws
length-parts ws = length-map (law_ways ws) way_part ∙ length-map ws law_way

pub length_whole : (lead : Option PartStruct) (up : ℕ) (ws : List Way) → length (whole_row lead up (parts_of ws)) ≡ length (lead_parts lead) + up * length ws
length_whole lead up ws =
    length-append (lead_parts lead) (repeated up (parts_of ws)) ∙ ap (λ k. length (lead_parts lead) + k) (length-repeated up (parts_of ws) ∙ ap (λ k. up * k) (length-parts ws))

next_part : (ws : List Way) (i : ℕ) (w : Way) → i < length ws → w ≡ get_or ws i w → drop i (parts_of ws) ≡ way_part (law_way w) ∷ drop (i + 1) (parts_of ws)
next_part ws i w h e =
    drop_more (parts_of ws) i (way_part (law_way w)) (let l = length-parts ws in omega arith)
    ∙ ap (λ (p : Part). p ∷ drop (i + 1) (parts_of ws))
    (get_or-map way_part (law_ways ws) i (law_way w) (way_part (law_way w)) (let l = length-map ws law_way in omega arith)
    ∙ ap way_part (get_or-map law_way ws i w (law_way w) h ∙ ap law_way (sym e)))

-- the loop over the ways, from the number of the spouse's part
module _ (ws : List Way) (lead : Option PartStruct) (up : ℕ) where
  abbrev row : List Part
  row = whole_row lead up (parts_of ws)

  module _ (first i n : ℕ) (same : common_multiple (drop i (parts_of ws)) n ≡ common_multiple (parts_of ws) first) where
    pub way_on : (w : Way) (m : ℕ) → i < length ws → w ≡ get_or ws i w → Some m ≡ word_number (lcm n w.by) →
        (common_multiple (drop (i + 1) (parts_of ws)) m ≡ common_multiple (parts_of ws) first) × (0 < m)
    way_on w m h e some = (
      sym (multiple_on (way_part (law_way w)) (drop (i + 1) (parts_of ws)) n m some)
          ∙ ap (λ (qs : List Part). common_multiple qs n) (sym (next_part ws i w h e))
          ∙ same,
      (word_some (lcm n w.by) m some).some,
    )

    module _ (start : Some first ≡ word_number (common_multiple (lead_parts lead) 1)) (counts : 0 < up) where
      from : common_multiple row 1 ≡ common_multiple (drop i (parts_of ws)) n
      from = multiple_row lead up (parts_of ws) first start (λ z. omega arith) ∙ sym same

      pub way_off : (w : Way) → i < length ws → w ≡ get_or ws i w → None ≡ word_number (lcm n w.by) → number_of row ≡ None
      way_off w h e none =
          number_none row
          (from ∙ ap (λ (qs : List Part). common_multiple qs n) (next_part ws i w h e) ∙ multiple_off (way_part (law_way w)) (drop (i + 1) (parts_of ws)) n none)

      pub way_end : length ws ≤ i → 0 < n → length row ≤ 4096 → number_of row ≡ Some n
      way_end h some few =
          number_some row n few
          (from ∙ ap (λ (qs : List Part). common_multiple qs n) (drop_all i (parts_of ws) (let l = length-parts ws in omega arith)) ∙ multiple_end n) some

-- what a number that there is, or is not, says of a row
pub number_there : (ps : List Part) (n : ℕ) → Some n ≡ number_of ps → (dividable ps ≡ true) × (n ≡ common_multiple ps 1)
number_there ps n e = go (dividable ps) refl e
  where
    go : (t : Bool) → dividable ps ≡ t → Some n ≡ cond t (Some (common_multiple ps 1)) None → (dividable ps ≡ true) × (n ≡ common_multiple ps 1)
    go true h q = (h, cc)
    go false h q = absurd (let z : ◌≡◌ {A = ℕ} 0 1 = cc in omega arith)

pub number_missing : (ps : List Part) → None ≡ number_of ps → dividable ps ≡ false
number_missing ps e = go (dividable ps) refl e
  where
    go : (t : Bool) → dividable ps ≡ t → None ≡ cond t (Some (common_multiple ps 1)) None → dividable ps ≡ false
    go true h q = absurd (let z : ◌≡◌ {A = ℕ} 0 1 = cc in omega arith)
    go false h q = h

-- ways beyond the limits: so is the estate
pub up_some : (f : Family) (d : ℕ) → 0 < relatives_up f d
up_some f d = go (has_living_spouse f d) (eqb (order f d) 1)
  where
    go : (m x : Bool) → 0 < cond m (cond x 3 1) 1
    go true true = omega arith
    go true false = omega arith
    go false x = omega arith

pub beyond_refused : (f : Family) (d : ℕ) → Beyond [] (kin_ways f d) → dividable (estate f d) ≡ false
unfolding repeated
beyond_refused f d h = subst (λ ps. dividable ps ≡ false) (sym (estate_forget f d)) (go (relatives_up f d) (up_some f d))
  where
    front : List Part
    front = map way_part (spouse_ways f d)

    ps : List Part
    ps = map way_part (kin_ways f d)

    go : (u : ℕ) → 0 < u → dividable (front ++ repeated u ps) ≡ false
    go zero l = absurd (omega arith)
    go (suc k) l =
        ⊎_elim
        (λ (m : 4096 < 0 + length (kin_ways f d)).
        and_left (leb (length (front ++ (ps ++ repeated k ps))) 4096) (not (eqb (common_multiple (front ++ (ps ++ repeated k ps)) 1) 0))
        (lt-leb (length (front ++ (ps ++ repeated k ps))) 4096
        (omega (arith, length-append front (ps ++ repeated k ps), length-append ps (repeated k ps), length-map (kin_ways f d) way_part))))
        (λ (m : TooLarge ps).
        and_right (leb (length (front ++ (ps ++ repeated k ps))) 4096) (not (eqb (common_multiple (front ++ (ps ++ repeated k ps)) 1) 0))
        (not_from_true (eqb (common_multiple (front ++ (ps ++ repeated k ps)) 1) 0) (eq-eqb (common_multiple (front ++ (ps ++ repeated k ps)) 1) 0 (m front (repeated k ps)))))
        h

-- a living spouse's part
pub lead_forget : (p : Option PartStruct) → lead_parts p ≡ map way_part (lead_ways p)
lead_forget None = refl
lead_forget (Some p) = refl

pub spouse_there : (f : Family) (d : ℕ) → is_some (spouse_in f d) ≡ has_living_spouse f d
spouse_there f d = go (has_living_spouse f d)
  where
    go : (t : Bool) → is_some (cond t (Some ((person f d).spouse - 1)) None) ≡ t
    go true = refl
    go false = refl

pub many_listed : (up count lead : ℕ) → 0 < up → 4096 < count → 4096 < lead + up * count
many_listed zero count lead l h = absurd (omega arith)
many_listed (suc k) count lead l h = omega (arith, suc-mul k count)
