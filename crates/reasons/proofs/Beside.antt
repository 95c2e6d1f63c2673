-- How an estate is divided beside a living spouse: by the order that inherits and the spouse alone. Assumes nothing.
use Rattle.std.proofs.Common.{◌≡◌, ℕ, ◌+◌, ◌-◌, Bool, true, false, cond, eqb, List, [], ◌∷◌, ◌++◌, map, is_some, Some, None, Option, sym, refl, ap, ◌∙◌, subst, ap₂, ⊎_elim}
use Rattle.std.proofs.lemmas.Bool.{eqb-true, cases_Bool}
use Rattle.law.specs.Family.{Family, Part, person, order, has_living_spouse, repeated, estate, spouse_parts}
use Rattle.theory.specs.Decedent.{kept_order}
use Rattle.shares.specs.Parts.{lead_parts, whole_row, dividable}
use Rattle.shares.specs.declared.Part.{Part as PartStruct}
use Rattle.succession.specs.declared.Order.{Order}
use Rattle.succession.specs.declared.Beside.{Beside}
use Rattle.succession.specs.Orders.{order_number, spouse_in}
use Rattle.ways.specs.Ways.{Way, way_part, relatives_ways, spouse_ways, kin_ways, relatives_up, relatives_by, spouse_by}
use Rattle.ways.specs.Going.{Beyond}
use Rattle.ways.proofs.Laws.{estate_forget}
use Rattle.reasons.specs.Estates.{lead_ways}
use Rattle.reasons.proofs.Orders.{ways_nobody}
use Rattle.reasons.proofs.StandIns.{stand_in, stand_in_order, stand_in_spouse}
use Rattle.reasons.proofs.StandIns.{stand_in, stand_in_order, stand_in_spouse}
use Rattle.reasons.proofs.Wholes.{beyond_refused, lead_forget, spouse_there}

-- The parts of an estate, as it is divided: the spouse's way, how many times each way of the relatives counts, and those ways.
pub record Parted (f : Family) (d : ℕ) (b : Beside) : Type 0 where
  pub lead : lead_ways b.lead ≡ spouse_ways f d
  pub times : b.times ≡ relatives_up f d
  pub kin : relatives_ways f d b.by ≡ kin_ways f d

-- what `beside_spouse` promises of any family: by how many the relatives have their part, how often it counts, and the spouse's part
abbrev pub by_of : Family → ℕ → ℕ
by_of g e = cond (has_living_spouse g e) (cond (eqb (kept_order g e) 1) 4 (cond (eqb (kept_order g e) 4) 1 2)) 1

abbrev pub times_of : Family → ℕ → ℕ
times_of g e = cond (has_living_spouse g e) (cond (eqb (kept_order g e) 1) 3 1) 1

abbrev pub lead_of : Family → ℕ → List Part
lead_of g e = cond (has_living_spouse g e) (spouse_parts g e (by_of g e)) []

-- whether there is a living spouse, and who it is, goes by the spouse alone
married_same : (f g : Family) (d e : ℕ) → spouse_in f d ≡ spouse_in g e → has_living_spouse f d ≡ has_living_spouse g e
married_same f g d e h = sym (spouse_there f d) ∙ ap is_some h ∙ spouse_there g e

lead_same : (f g : Family) (d e : ℕ) (n m : ℕ) → spouse_in f d ≡ spouse_in g e → (has_living_spouse f d ≡ true → n ≡ m) →
    cond (has_living_spouse f d) (spouse_parts f d n) [] ≡ cond (has_living_spouse g e) (spouse_parts g e m) []
lead_same f g d e n m h k = go (has_living_spouse f d) (has_living_spouse g e) h k
  where
    go : (x y : Bool) → ◌≡◌ {A = Option ℕ} (cond x (Some ((person f d).spouse - 1)) None) (cond y (Some ((person g e).spouse - 1)) None) → (x ≡ true → n ≡ m) →
        cond x (spouse_parts f d n) [] ≡ cond y (spouse_parts g e m) []
    go true true q l = let same : (person f d).spouse - 1 ≡ (person g e).spouse - 1 = cc in ap₂ (λ (v z : ℕ). record { who = v; by = z } ∷ []) same (l refl)
    go true false q l = cc
    go false true q l = cc
    go false false q l = refl

-- a part as a way without a line
abbrev bare : Part → Way
bare q = record { line = []; who = q.who; by = q.by }

lead_way : (p : Option PartStruct) → lead_ways p ≡ map bare (lead_parts p)
lead_way None = refl
lead_way (Some p) = refl

spouse_way : (f : Family) (d : ℕ) → map bare (cond (has_living_spouse f d) (spouse_parts f d (spouse_by f d)) []) ≡ spouse_ways f d
spouse_way f d = go (has_living_spouse f d)
  where
    go : (t : Bool) → map bare (cond t (spouse_parts f d (spouse_by f d)) []) ≡ cond t (record { line = []; who = (person f d).spouse - 1; by = spouse_by f d } ∷ []) []
    go true = refl
    go false = refl

-- where nobody but a spouse inherits, it does not matter by how many the relatives go
kin_by : (f : Family) (d n : ℕ) → n ≡ cond (has_living_spouse f d) (cond (eqb (order f d) 1) 4 (cond (eqb (order f d) 4) 1 2)) 1 → relatives_ways f d n ≡ kin_ways f d
kin_by f d n e =
    ⊎_elim (λ (h : eqb (order f d) 4 ≡ true). let o = eqb-true (order f d) 4 h in ways_nobody f d n o ∙ sym (ways_nobody f d (relatives_by f d) o))
    (λ (h : eqb (order f d) 4 ≡ false). ap (relatives_ways f d) (e ∙ ap (λ (t : Bool). cond (has_living_spouse f d) (cond (eqb (order f d) 1) 4 (cond t 1 2)) 1) h))
    (cases_Bool (eqb (order f d) 4))

pub parted : (f : Family) (d : ℕ) (o : Order) (spouse : Option ℕ) (b : Beside) → spouse ≡ spouse_in f d → order_number o ≡ order f d →
    ((g : Family) (e : ℕ) → spouse ≡ spouse_in g e → order_number o ≡ kept_order g e → (b.by ≡ by_of g e) × (b.times ≡ times_of g e) × (lead_parts b.lead ≡ lead_of g e)) →
    Parted f d b
parted f d o spouse b married inherits numbers =
    let t = stand_in_spouse o spouse in
    let g = stand_in o t.0 t.1 in
    let e = t.0 + 1 in
    let kept = stand_in_order o t.0 t.1 in
    let said = numbers g e t.2 kept in
    let pair = married_same f g d e (sym married ∙ t.2) in
    let same : kept_order g e ≡ order f d = sym kept ∙ inherits in
    record {
      lead =
          lead_way b.lead
          ∙ ap (map bare) (said.2 ∙ sym (lead_same f g d e (spouse_by f d) (by_of g e) (sym married ∙ t.2) (λ h. sym (ap₂ (λ (v : Bool) (n : ℕ). cond v (cond (eqb n 1) 4 (cond (eqb n 4) 1 2)) 1) (sym pair ∙ h) same))))
          ∙ spouse_way f d;
      times = said.1 ∙ ap₂ (λ (v : Bool) (n : ℕ). cond v (cond (eqb n 1) 3 1) 1) (sym pair) same;
      kin = kin_by f d b.by (said.0 ∙ ap₂ (λ (v : Bool) (n : ℕ). cond v (cond (eqb n 1) 4 (cond (eqb n 4) 1 2)) 1) (sym pair) same);
    }

module _ {f : Family} {d : ℕ} {b : Beside} (p : Parted f d b) where
  pub parted_beyond : Beyond [] (relatives_ways f d b.by) → dividable (estate f d) ≡ false
  parted_beyond h = beyond_refused f d (subst (Beyond []) p.kin h)

  pub parted_row : (ws : List Way) → ws ≡ kin_ways f d → whole_row b.lead b.times (map way_part ws) ≡ estate f d
  parted_row ws e =
      ap₂ (λ (ps : List Part) (u : ℕ). ps ++ repeated u (map way_part ws)) (lead_forget b.lead ∙ ap (map way_part) p.lead) p.times
      ∙ ap (λ vs. map way_part (spouse_ways f d) ++ repeated (relatives_up f d) (map way_part vs)) e
      ∙ sym (estate_forget f d)
