-- Where the decedent is marked dead, their estate is the same, and no line need leave them out. Assumes nothing.
use Rattle.std.proofs.Common.{◌≡◌, ℕ, zero, suc, ◌-◌, ◌<◌, ◌≤◌, Bool, true, false, cond, not, ◌&&◌, ◌||◌, eqb, ◌≢◌, ◌⊎◌, List, ◌++◌, length, set, sym, refl, ap, ◌∙◌, subst, ap₂, inl, inr, ⊎_elim, arith}
use Rattle.std.specs.List.{AllByRecursion}
use Rattle.std.proofs.lemmas.List.{length-set, get_or-set_same, get_or-set_other, set-set, set-get_or, set_past}
use Rattle.std.proofs.lemmas.Bool.{cases_eq, cases_lt, cases_Bool, eqb-true, eq-eqb, ne_eqb, not-false, not_from_true, cond-true, cond-false}
use Rattle.law.specs.Family.{Person, person, Family, nobody, is_child, children, some_of, line_lives, living_lines, Part, line_parts, parents, couple_parts, side_lives, living_sides, order, relatives_parts, has_living_spouse, estate}
use Rattle.law.specs.Calls.{dead}
use Rattle.law.specs.Promise.{OfLine}
use Rattle.theory.specs.Families.{Ranked, WellFormed, SameParents}
use Rattle.theory.specs.Living.{alive, lines_below}
use Rattle.theory.specs.Decedent.{with_dead, kept_sides, kept_order, kept_relatives, kept_estate, MarkedDead, DecedentMarkedDead}
use Rattle.theory.proofs.Lists.{all_any, kept_some}
use Rattle.theory.proofs.Families.{past_nobody, same_set, parents_set, ranked_same, well_formed_reached}
use Rattle.theory.proofs.Children.{children_same, parents_same}
use Rattle.theory.proofs.Lines.{line_here, line_step, not_of_child, stands_decedent, stands_dead, decedent_line, line_lives_past, lives_alike, below_alike, parts_alike_below, parts_alike}
use Rattle.theory.proofs.Living.{alive_law}
use Rattle.theory.proofs.Orders.{third_of, relatives_by, estate_by, living_same, side_same, sides_same, couple_alike, third_alike, estates_alike}

-- who is dead already
pub dead_already : (f : Family) (d : ℕ) → (person f d).lives ≡ false → with_dead f d ≡ f
dead_already f d v =
    ap (λ (x : Person). set f d x) same ∙ set-get_or f d nobody
  where
    same : dead (person f d) ≡ person f d
    same = λ i. record { mother = (person f d).mother; father = (person f d).father; lives = sym v i; spouse = (person f d).spouse }

-- and coming to life again
pub dead_and_back : (f : Family) (d : ℕ) → set (with_dead f d) d (person f d) ≡ f
dead_and_back f d = set-set f d (dead (person f d)) (person f d) ∙ set-get_or f d nobody

-- f is the family, g the one in which d is dead
module _ {f : Family} {rk : ℕ → ℕ} (s : Ranked f rk) (d : ℕ) where
  abbrev g : Family
  g = with_dead f d

  pub dead_parents : SameParents f g
  dead_parents = parents_set f d (dead (person f d)) refl refl

  pub dead_ranked : Ranked g rk
  dead_ranked = ranked_same f g rk dead_parents s

  pub dead_other : (p : ℕ) → p ≢ d → person g p ≡ person f p
  dead_other p n = get_or-set_other f d p (dead (person f d)) nobody n

  pub dead_lives : (person g d).lives ≡ false
  dead_lives =
      ⊎_elim (λ (l : d < length f). ap (λ (x : Person). x.lives) (get_or-set_same f d (dead (person f d)) nobody l))
      (λ (l : length f ≤ d). ap (λ (h : Family). (person h d).lives) (set_past f d (dead (person f d)) l) ∙ ap (λ (x : Person). x.lives) (past_nobody f d l)) (cases_lt d (length f))

  -- with d as the decedent in both, the same lines live and have the same parts
  decedent_lives : (p : ℕ) → line_lives g d p ≡ line_lives f d p
  decedent_lives p = lives_alike s dead_parents d d (λ q. Unit {0}) (λ q c k v. tt) at p tt
    where
      at : (q : ℕ) → Unit {0} → ((q ≢ d) × (q ≢ d) × ((person g q).lives ≡ (person f q).lives)) ⊎ (line_lives g d q ≡ line_lives f d q)
      at q v =
          ⊎_elim (λ (e : q ≡ d). inr (ap (λ (z : ℕ). line_lives g d z) e ∙ (decedent_line g d ∙ sym (ap (λ (z : ℕ). line_lives f d z) e ∙ decedent_line f d))))
          (λ (n : q ≡ d → ⊥). inl (n, n, ap (λ (x : Person). x.lives) (dead_other q n))) (cases_eq q d)

  decedent_parts : (p b : ℕ) → line_parts g d p b ≡ line_parts f d p b
  decedent_parts p b = parts_alike s dead_parents d d (λ q. Unit {0}) (λ q c k v. tt) (λ q v. decedent_lives q) at p tt b
    where
      at : (q : ℕ) → Unit {0} → (not (eqb q d) && (person g q).lives) ≡ (not (eqb q d) && (person f q).lives)
      at q v =
          ⊎_elim (λ (e : q ≡ d). rw (eq-eqb q d e)) (λ (n : q ≡ d → ⊥). ap (λ (x : Person). not (eqb q d) && x.lives) (dead_other q n)) (cases_eq q d)

  -- a line that d is not of, or any line if d's own does not live
  abbrev pub Apart : ℕ → Type 0
  Apart p = (OfLine f p d → ⊥) ⊎ (alive g d ≡ false)

  apart_child : (p c : ℕ) → is_child f p c ≡ true → Apart p → Apart c
  apart_child p c k v = ⊎_elim (λ (un : OfLine f p d → ⊥). inl (λ h. un (line_step f p c d k h))) (λ (z : alive g d ≡ false). inr z) v

  apart_below : (c : ℕ) → is_child f d c ≡ true → Apart c
  apart_below c k = inl (λ h. not_of_child s d c k h)

  size : length g ≡ length f
  size = length-set f d (dead (person f d))

  pub apart_lives : (p : ℕ) → Apart p → alive g p ≡ line_lives f d p
  apart_lives = lives_alike s dead_parents d (length g) Apart apart_child at
    where
      at : (q : ℕ) → Apart q → ((q ≢ d) × (q ≢ length g) × ((person g q).lives ≡ (person f q).lives)) ⊎ (alive g q ≡ line_lives f d q)
      at q v =
          ⊎_elim
          (λ (e : q ≡ d).
          ⊎_elim (λ (un : OfLine f q d → ⊥). absurd (un (subst (λ (z : ℕ). OfLine f q z) e (line_here f q))))
          (λ (z : alive g d ≡ false). inr (ap (λ (k : ℕ). alive g k) e ∙ (z ∙ sym (ap (λ (k : ℕ). line_lives f d k) e ∙ decedent_line f d)))) v)
          (λ (n : q ≡ d → ⊥).
          ⊎_elim (λ (l : q < length f). inl (n, (λ e. omega (arith, size)), ap (λ (x : Person). x.lives) (dead_other q n)))
          (λ (l : length f ≤ q). inr (line_lives_past dead_ranked (length g) q (omega (arith, size)) ∙ sym (line_lives_past s d q l))) (cases_lt q (length f)))
          (cases_eq q d)

  stands_apart : (p : ℕ) → (not (eqb p (length g)) && (person g p).lives) ≡ (not (eqb p d) && (person f p).lives)
  stands_apart p =
      ⊎_elim
      (λ (e : p ≡ d).
      stands_dead g (length g) p (ap (λ (k : ℕ). (person g k).lives) e ∙ dead_lives)
      ∙ sym (ap (λ (k : ℕ). not (eqb k d) && (person f k).lives) e ∙ stands_decedent f d))
      (λ (n : p ≡ d → ⊥).
      ⊎_elim
      (λ (l : p < length f).
      rw (ne_eqb p (length g) (λ e. omega (arith, size)), ne_eqb p d n) (ap (λ (x : Person). x.lives) (dead_other p n)))
      (λ (l : length f ≤ p).
      stands_dead g (length g) p (ap (λ (x : Person). x.lives) (past_nobody g p (omega (arith, size))))
      ∙ sym (stands_dead f d p (ap (λ (x : Person). x.lives) (past_nobody f p l)))) (cases_lt p (length f)))
      (cases_eq p d)

  pub apart_parts : (p : ℕ) → Apart p → (b : ℕ) → line_parts g (length g) p b ≡ line_parts f d p b
  apart_parts = parts_alike s dead_parents d (length g) Apart apart_child apart_lives (λ q _. stands_apart q)

  -- the first order: d's own line
  pub first_below : lines_below g (length g) d ≡ lines_below f d d
  first_below = below_alike s dead_parents d (length g) Apart apart_child apart_lives d apart_below

  pub first_parts : (b : ℕ) → line_parts g (length g) d b ≡ line_parts f d d b
  first_parts b = parts_alike_below s dead_parents d (length g) Apart apart_child apart_lives d b (stands_apart d) apart_below (λ c k n. apart_parts c (apart_below c k) n)

  pub first_lives : not (eqb (length (lines_below f d d)) 0) ≡ alive g d
  first_lives =
      ap (λ (ws : List ℕ). not (eqb (length ws) 0)) (sym first_below)
      ∙ (kept_some (λ c. alive g c) (children g d) ∙ sym (alive_law dead_ranked d ∙ ap (λ (x : Bool). x || some_of (λ c. alive g c) (children g d)) dead_lives))

  -- where d's own line does not live, no line need leave d out
  module _ (none : alive g d ≡ false) where
    all_lives : (p : ℕ) → alive g p ≡ line_lives f d p
    all_lives p = apart_lives p (inr none)

    pub living_kept : (ps : List ℕ) → living_lines f d ps ≡ living_lines g (length g) ps
    living_kept ps = sym (living_same f g d (length g) all_lives ps)

    pub couple_kept : (ps : List ℕ) (b : ℕ) → couple_parts f d ps b ≡ couple_parts g (length g) ps b
    couple_kept =
        couple_alike (λ (x y : List Part). x ≡ y) refl (λ a b c e p q. ap₂ (λ (x z : List Part). x ++ z) p q) f g d (length g) all_lives
        (λ p b. sym (apart_parts p (inr none) b))

    pub side_kept : (p : ℕ) → side_lives f d p ≡ side_lives g (length g) p
    side_kept p = sym (side_same f g d (length g) all_lives p (parents_same f g dead_parents p))

    parents_also : (x : ℕ) → AllByRecursion (λ p. parents g p ≡ parents f p) (parents f x)
    parents_also x = all_any (λ p. parents g p ≡ parents f p) (parents_same f g dead_parents) (parents f x)

    pub sides_kept : living_sides f d ≡ kept_sides g d
    sides_kept = sym (sides_same f g d (length g) all_lives d (parents_same f g dead_parents d) (parents_also d))

    third_kept : (b : ℕ) → third_of f d d b ≡ third_of g (length g) d b
    third_kept b =
        third_alike (λ (x y : List Part). x ≡ y) refl (λ a b c e p q. ap₂ (λ (x z : List Part). x ++ z) p q) f g d (length g) all_lives
        (λ p n. sym (apart_parts p (inr none) n)) d b (parents_same f g dead_parents d) (parents_also d)

  -- which order inherits, and what the relatives have
  pub order_kept : order f d ≡ kept_order g d
  order_kept =
      ⊎_elim
      (λ (v : alive g d ≡ true). cond-true (not (eqb (length (lines_below f d d)) 0)) 1 nearer (first_lives ∙ v) ∙ sym (cond-true (alive g d) 1 kept_nearer v))
      (λ (v : alive g d ≡ false).
      cond-false (not (eqb (length (lines_below f d d)) 0)) 1 nearer (first_lives ∙ v)
      ∙ (ap₂ (λ (x y : List ℕ). cond (not (eqb (length x) 0)) 2 (cond (not (eqb (length y) 0)) 3 4))
      (ap (λ (ps : List ℕ). living_lines f d ps) (sym (parents_same f g dead_parents d)) ∙ living_kept v (parents g d)) (sides_kept v)
      ∙ sym (cond-false (alive g d) 1 kept_nearer v)))
      (cases_Bool (alive g d))
    where
      nearer : ℕ
      nearer = cond (not (eqb (length (living_lines f d (parents f d))) 0)) 2 (cond (not (eqb (length (living_sides f d)) 0)) 3 4)

      kept_nearer : ℕ
      kept_nearer = cond (not (eqb (length (living_lines g (length g) (parents g d))) 0)) 2 (cond (not (eqb (length (kept_sides g d)) 0)) 3 4)

  pub first_none : (length (lines_below f d d) ≡ 0 → alive g d ≡ false) × (alive g d ≡ false → length (lines_below f d d) ≡ 0)
  first_none = (
    λ e. sym first_lives ∙ not_from_true (eqb (length (lines_below f d d)) 0) (eq-eqb (length (lines_below f d d)) 0 e),
    λ v. eqb-true (length (lines_below f d d)) 0 (not-false (eqb (length (lines_below f d d)) 0) (first_lives ∙ v)),
  )

  pub order_first : alive g d ≡ true → order f d ≡ 1
  order_first v =
      cond-true {A = ℕ} (not (eqb (length (lines_below f d d)) 0)) 1
      (cond (not (eqb (length (living_lines f d (parents f d))) 0)) 2 (cond (not (eqb (length (living_sides f d)) 0)) 3 4)) (first_lives ∙ v)

  pub relatives_first : alive g d ≡ true → (b : ℕ) → relatives_parts f d b ≡ line_parts g (length g) d b
  relatives_first v b =
      ap (λ (k : ℕ). relatives_by k (line_parts f d d b) (couple_parts f d (parents f d) b) (third_of f d d b)) (order_first v) ∙ sym (first_parts b)

  pub relatives_kept : (b : ℕ) → relatives_parts f d b ≡ kept_relatives g d b
  relatives_kept b =
      ⊎_elim
      (λ (v : alive g d ≡ true).
      relatives_first v b
      ∙ sym (ap (λ (k : ℕ). relatives_by k (line_parts g (length g) d b) (couple_parts g (length g) (parents g d) b) (third_of g (length g) d b)) (sym order_kept ∙ order_first v)))
      (λ (v : alive g d ≡ false).
      let second : couple_parts f d (parents f d) b ≡ couple_parts g (length g) (parents g d) b =
      couple_kept v (parents f d) b ∙ ap (λ (ps : List ℕ). couple_parts g (length g) ps b) (sym (parents_same f g dead_parents d)) in
      λ i. relatives_by (order_kept i) (sym (first_parts b) i) (second i) (third_kept v b i))
      (cases_Bool (alive g d))

-- the spouse, and so the whole estate
module _ {f : Family} (w : WellFormed f) (d : ℕ) where
  spouse_number : (person (with_dead f d) d).spouse ≡ (person f d).spouse
  spouse_number = same_set (λ (x : Person). x.spouse) f d (dead (person f d)) d refl

  pub spouse_kept : has_living_spouse f d ≡ has_living_spouse (with_dead f d) d
  spouse_kept = sym (ap (λ (z : ℕ). not (eqb z 0) && (person (with_dead f d) (z - 1)).lives) spouse_number ∙ go (person f d).spouse refl)
    where
      go : (k : ℕ) → (person f d).spouse ≡ k → (not (eqb (person f d).spouse 0) && (person (with_dead f d) ((person f d).spouse - 1)).lives) ≡ has_living_spouse f d
      go zero e = rw (eq-eqb (person f d).spouse 0 e)
      go (suc k) e =
          let r = w.spouses d ((person f d).spouse - 1) (omega arith) in
          ap (λ (x : Person). not (eqb (person f d).spouse 0) && x.lives) (dead_other w.ranked d ((person f d).spouse - 1) (λ q. r.2 (sym q)))

  pub marked_dead : MarkedDead f d
  marked_dead = record {
    same_estate =
        sym (estates_alike (λ (x y : List Part). x ≡ y) refl (λ a b c e p q. ap₂ (λ (x z : List Part). x ++ z) p q) f (with_dead f d) d (decedent_lives s d)
        (λ p b. sym (decedent_parts s d p b)) (parents_same f (with_dead f d) u d)
        (all_any (λ p. parents (with_dead f d) p ≡ parents f p) (parents_same f (with_dead f d) u) (parents f d))
        (ap (λ (cs : List ℕ). living_lines (with_dead f d) d cs) (children_same f (with_dead f d) u d) ∙ living_same f (with_dead f d) d d (decedent_lives s d) (children f d))
        (sym spouse_kept) spouse_number (λ _ b. refl));
    lines = λ p v. sym (apart_lives s d p v);
    parts = λ p b v. sym (apart_parts s d p v b);
    first = λ v. (order_first s d v, relatives_first s d v);
    first_only = first_none s d;
    order_is = order_kept s d;
    relatives_are = relatives_kept s d;
    spouse_is = spouse_kept;
    estate_is = λ i. estate_by (spouse_kept i) (order_kept s d i) (sym spouse_number i - 1) (relatives_kept s d 4 i) (relatives_kept s d 2 i) (relatives_kept s d 1 i);
  }
    where
      s : Ranked f w.rank
      s = w.ranked

      u : SameParents f (with_dead f d)
      u = dead_parents s d

  -- who is dead already need not be marked
  pub estate_already : (person f d).lives ≡ false → (order f d ≡ kept_order f d) × ((b : ℕ) → relatives_parts f d b ≡ kept_relatives f d b) × (estate f d ≡ kept_estate f d)
  estate_already v =
      subst (λ (g : Family). (order f d ≡ kept_order g d) × ((b : ℕ) → relatives_parts f d b ≡ kept_relatives g d b) × (estate f d ≡ kept_estate g d)) (dead_already f d v)
      (marked_dead.order_is, marked_dead.relatives_are, marked_dead.estate_is)

pub decedent_marked_dead : DecedentMarkedDead
unfolding DecedentMarkedDead
decedent_marked_dead l f d r = marked_dead (well_formed_reached l f r) d
