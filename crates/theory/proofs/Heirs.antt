-- Heirs live, are there, and are not the decedent; in the first order they descend from the decedent, or are the spouse. Assumes nothing.
use Rattle.std.proofs.Common.{◌≡◌, ℕ, zero, suc, ◌-◌, ◌*◌, ◌<◌, true, not, ◌&&◌, eqb, ◌≢◌, ◌⊎◌, List, [], ◌∷◌, length, sym, refl, ◌∙◌, inl, inr, arith}
use Rattle.std.specs.List.{flat_map, AllByRecursion}
use Rattle.std.proofs.ByRecursion.{All-weaker}
use Rattle.std.proofs.lemmas.Bool.{and_parts, and_from, eqb-false, ne_eqb, not-true, not_from_false, cond_both}
use Rattle.law.specs.Family.{person, Family, is_child, living_lines, Part, line_parts_in, line_parts, parents, couple_parts, living_sides, order, relatives_parts, has_living_spouse, estate}
use Rattle.law.specs.Promise.{heirs_live, OnlyLiving, OfLine, all_heirs, NearerFirst}
use Rattle.theory.specs.Families.{WellFormed}
use Rattle.theory.specs.Living.{lines_below}
use Rattle.theory.specs.Statements.{HeirsAreThere, FirstOrderOnly}
use Rattle.theory.proofs.Lists.{all_any, joined_all}
use Rattle.theory.proofs.Families.{lives_there, well_formed_reached}
use Rattle.theory.proofs.Lines.{line_here, line_step, below_child}
use Rattle.theory.proofs.Orders.{relatives_cases, estate_cases}
use Rattle.theory.proofs.Parts.{repeated_all}

-- each part of a line is of somebody of the line, who lives and is not the decedent
abbrev OfLivingLine : Family → ℕ → ℕ → Part → Type 0
OfLivingLine f d p q = ((person f q.who).lives ≡ true) × (q.who ≢ d) × OfLine f p q.who

heirs_in : (f : Family) (d n p b : ℕ) → AllByRecursion (OfLivingLine f d p) (line_parts_in n f d p b)
unfolding line_parts_in
heirs_in f d zero p b = tt
heirs_in f d (suc n) p b =
    let k = b * length (lines_below f d p) in
    cond_both (not (eqb p d) && (person f p).lives) (record { who = p; by = b } ∷ []) (flat_map (λ c. line_parts_in n f d c k) (lines_below f d p)) (AllByRecursion (OfLivingLine f d p))
    (λ e. let r = and_parts (not (eqb p d)) (person f p).lives e in ((r.1, eqb-false p d (not-true (eqb p d) r.0), line_here f p), tt))
    (λ _.
    joined_all (OfLivingLine f d p) (λ c. line_parts_in n f d c k) (lines_below f d p)
    (All-weaker (λ c. is_child f p c ≡ true) (λ c. AllByRecursion (OfLivingLine f d p) (line_parts_in n f d c k))
    (λ c h.
    All-weaker (OfLivingLine f d c) (OfLivingLine f d p) (λ q v. (v.0, v.1, line_step f p c q.who h v.2)) (line_parts_in n f d c k) (heirs_in f d n c k))
    (lines_below f d p) (below_child f d p)))

pub line_heirs : (f : Family) (d p b : ℕ) → AllByRecursion (OfLivingLine f d p) (line_parts f d p b)
line_heirs f d p b = heirs_in f d (suc (length f)) p b

-- heirs live
abbrev Living : Family → ℕ → Part → Type 0
Living f d q = ((person f q.who).lives ≡ true) × (q.who ≢ d)

line_living : (f : Family) (d p b : ℕ) → AllByRecursion (Living f d) (line_parts f d p b)
line_living f d p b = All-weaker (OfLivingLine f d p) (Living f d) (λ q v. (v.0, v.1)) (line_parts f d p b) (line_heirs f d p b)

couple_living : (f : Family) (d : ℕ) (ps : List ℕ) (b : ℕ) → AllByRecursion (Living f d) (couple_parts f d ps b)
unfolding couple_parts
couple_living f d ps b =
    let k = b * length (living_lines f d ps) in
    joined_all (Living f d) (λ p. line_parts f d p k) (living_lines f d ps) (all_any (λ p. AllByRecursion (Living f d) (line_parts f d p k)) (λ p. line_living f d p k) (living_lines f d ps))

relatives_living : (f : Family) (d b : ℕ) → AllByRecursion (Living f d) (relatives_parts f d b)
relatives_living f d b =
    let k = b * length (living_sides f d) in
    relatives_cases f d b (AllByRecursion (Living f d)) (λ _ _. line_living f d d b) (λ _ _. couple_living f d (parents f d) b)
    (λ _ _.
    joined_all (Living f d) (λ p. couple_parts f d (parents f p) k) (living_sides f d)
    (all_any (λ p. AllByRecursion (Living f d) (couple_parts f d (parents f p) k)) (λ p. couple_living f d (parents f p) k) (living_sides f d)))
    (λ _. tt)

pub living_spouse : (f : Family) (d : ℕ) → has_living_spouse f d ≡ true
    → (suc ((person f d).spouse - 1) ≡ (person f d).spouse) × ((person f ((person f d).spouse - 1)).lives ≡ true)
living_spouse f d e =
    let r = and_parts (not (eqb (person f d).spouse 0)) (person f ((person f d).spouse - 1)).lives e in
    let n = eqb-false (person f d).spouse 0 (not-true (eqb (person f d).spouse 0) r.0) in
    (omega arith, r.1)

pub estate_living : (f : Family) (d : ℕ) → WellFormed f → AllByRecursion (Living f d) (estate f d)
estate_living f d w =
    estate_cases f d (AllByRecursion (Living f d)) (λ h _. (spouse h, repeated_all (Living f d) 3 (relatives_parts f d 4) (relatives_living f d 4))) (λ h _. (spouse h, tt))
    (λ h _. (spouse h, relatives_living f d 2)) (λ _. relatives_living f d 1)
  where
    spouse : has_living_spouse f d ≡ true → ((person f ((person f d).spouse - 1)).lives ≡ true) × ((person f d).spouse - 1 ≢ d)
    spouse h =
        let r = living_spouse f d h in
        let m = w.spouses d ((person f d).spouse - 1) (sym r.0) in
        (r.1, λ q. m.2 (sym q))

pub estate_there : (f : Family) (d : ℕ) → WellFormed f → AllByRecursion (λ q. q.who < length f) (estate f d)
estate_there f d w = All-weaker (Living f d) (λ q. q.who < length f) (λ q v. lives_there f q.who v.0) (estate f d) (estate_living f d w)

pub heirs_are_there : HeirsAreThere
unfolding HeirsAreThere
heirs_are_there f d w =
    All-weaker (Living f d) (λ q. (q.who < length f) × ((person f q.who).lives ≡ true) × (q.who ≢ d)) (λ q v. (lives_there f q.who v.0, v.0, v.1)) (estate f d)
    (estate_living f d w)

heirs_test : (f : Family) (d : ℕ) (ps : List Part) → AllByRecursion (Living f d) ps → heirs_live f d ps ≡ true
unfolding heirs_live
heirs_test f d [] a = refl
heirs_test f d (q ∷ qs) a =
    and_from ((person f q.who).lives && not (eqb q.who d)) (heirs_live f d qs)
    (and_from (person f q.who).lives (not (eqb q.who d)) a.0.0 (not_from_false (eqb q.who d) (ne_eqb q.who d a.0.1))) (heirs_test f d qs a.1)

pub only_living : OnlyLiving
unfolding OnlyLiving
only_living l f d r _ = heirs_test f d (estate f d) (estate_living f d (well_formed_reached l f r))

-- the first order, beside the spouse
abbrev Near : Family → ℕ → Part → Type 0
Near f d q = OfLine f d q.who ⊎ (suc q.who ≡ (person f d).spouse)

relatives_near : (f : Family) (d b : ℕ) → order f d ≡ 1 → AllByRecursion (Near f d) (relatives_parts f d b)
relatives_near f d b o =
    relatives_cases f d b (AllByRecursion (Near f d)) (λ _ _. All-weaker (OfLivingLine f d d) (Near f d) (λ q v. inl v.2) (line_parts f d d b) (line_heirs f d d b))
    (λ e _. absurd (two (order f d) 2 o e (λ z. omega arith))) (λ e _. absurd (two (order f d) 3 o e (λ z. omega arith))) (λ e. tt)
  where
    two : (o k : ℕ) → o ≡ 1 → o ≡ k → 1 ≢ k → ⊥
    two o k e g n = n (sym e ∙ g)

estate_near : (f : Family) (d : ℕ) → order f d ≡ 1 → AllByRecursion (Near f d) (estate f d)
estate_near f d o =
    estate_cases f d (AllByRecursion (Near f d))
    (λ h _. (inr (living_spouse f d h).0, repeated_all (Near f d) 3 (relatives_parts f d 4) (relatives_near f d 4 o))) (λ h _. (inr (living_spouse f d h).0, tt))
    (λ h _. (inr (living_spouse f d h).0, relatives_near f d 2 o)) (λ _. relatives_near f d 1 o)

near_heirs : (f : Family) (d : ℕ) (ps : List Part) → AllByRecursion (Near f d) ps → all_heirs f d ps
unfolding all_heirs
near_heirs f d [] a = 0
near_heirs f d (q ∷ qs) a = (a.0, near_heirs f d qs a.1)

pub first_order_only : FirstOrderOnly
unfolding FirstOrderOnly
first_order_only f d o = near_heirs f d (estate f d) (estate_near f d o)

pub nearer_first : NearerFirst
unfolding NearerFirst
nearer_first l f d _ _ o = near_heirs f d (estate f d) (estate_near f d o)
