-- Who dies, and whose line lives on, has each of their parts had by their line, and nobody else has less. Assumes nothing.
use Rattle.std.proofs.Common.{◌≡◌, ℕ, zero, suc, ◌-◌, ◌*◌, ◌/◌, ◌≤◌, Bool, true, false, cond, not, ◌&&◌, eqb, ◌≢◌, ◌⊎◌, List, [], ◌∷◌, ◌++◌, length, sym, refl, ap, ◌∙◌, subst, ap₂, inl, inr, ⊎_elim, arith}
use Rattle.std.specs.List.{flat_map}
use Rattle.std.proofs.lemmas.List.{append-nil}
use Rattle.std.proofs.ByRecursion.{All-weaker}
use Rattle.std.proofs.lemmas.Bool.{cases_eq, cases_Bool, both_ways, eqb-true, eq-eqb, ne_eqb, cond-true, cond-false, cond_both}
use Rattle.law.specs.Family.{Person, person, Family, is_child, line_lives, Part, line_parts, parents, has_living_spouse, estate}
use Rattle.law.specs.Calls.{dies, refusal, changed, after, divides_all, pieces, all_pieces}
use Rattle.law.specs.Promise.{StandsFor}
use Rattle.theory.specs.Families.{Ranked, WellFormed}
use Rattle.theory.specs.Living.{lines_below}
use Rattle.theory.specs.Decedent.{with_dead}
use Rattle.theory.specs.Statements.{line_instead, LineHasInstead, LineStandsFor, NobodyElseHasLess}
use Rattle.theory.proofs.Lists.{all_any, joined_cong, joined_append, joined_joined}
use Rattle.theory.proofs.Refusals.{after_taken, after_refused, dies_allowed}
use Rattle.theory.proofs.Families.{lives_there, well_formed_reached}
use Rattle.theory.proofs.Children.{parents_same}
use Rattle.theory.proofs.Lines.{stands_dead, decedent_line, below_child, descend, line_lives_self, line_parts_law, parts_standing, lives_alike, below_alike}
use Rattle.theory.proofs.Decedent.{dead_already, dead_parents, dead_ranked, dead_other, dead_lives}
use Rattle.theory.proofs.Orders.{estates_alike}
use Rattle.theory.proofs.Parts.{pieces_append, line_adds}
use Rattle.theory.proofs.Heirs.{living_spouse}

-- f is the family, g the one in which p is dead
module _ {f : Family} {rk : ℕ → ℕ} (s : Ranked f rk) (d p : ℕ) (pd : p ≢ d) (on : line_lives (with_dead f p) d p ≡ true) where
  abbrev g : Family
  g = with_dead f p

  lived : line_lives f d p ≡ true
  lived =
      ⊎_elim (λ (v : (person f p).lives ≡ true). line_lives_self s d p pd v)
      (λ (v : (person f p).lives ≡ false). subst (λ (h : Family). line_lives h d p ≡ true) (dead_already f p v) on) (cases_Bool (person f p).lives)

  -- the same lines live
  lives_same : (q : ℕ) → line_lives g d q ≡ line_lives f d q
  lives_same q = lives_alike s (dead_parents s p) d d (λ c. Unit {0}) (λ c x k v. tt) at q tt
    where
      at : (q : ℕ) → Unit {0} → ((q ≢ d) × (q ≢ d) × ((person g q).lives ≡ (person f q).lives)) ⊎ (line_lives g d q ≡ line_lives f d q)
      at q v =
          ⊎_elim (λ (e : q ≡ p). inr (ap (λ (z : ℕ). line_lives g d z) e ∙ (on ∙ sym (ap (λ (z : ℕ). line_lives f d z) e ∙ lived))))
          (λ (n : q ≡ p → ⊥).
          ⊎_elim (λ (e : q ≡ d). inr (ap (λ (z : ℕ). line_lives g d z) e ∙ (decedent_line g d ∙ sym (ap (λ (z : ℕ). line_lives f d z) e ∙ decedent_line f d))))
          (λ (m : q ≡ d → ⊥). inl (m, m, ap (λ (x : Person). x.lives) (dead_other s p q n))) (cases_eq q d))
          (cases_eq q p)

  below_same : (q : ℕ) → lines_below g d q ≡ lines_below f d q
  below_same q = below_alike s (dead_parents s p) d d (λ c. Unit {0}) (λ c x k v. tt) (λ c v. lives_same c) q (λ c k. tt)

  -- a line's parts: those of p are had by p's line
  instead_other : (q : Part) → q.who ≢ p → flat_map (line_instead g d p) (q ∷ []) ≡ q ∷ []
  instead_other q n = ap (λ (x : List Part). x ++ []) (cond-false (eqb q.who p) (line_parts g d p q.by) (q ∷ []) (ne_eqb q.who p n))

  instead_p : (b : ℕ) → flat_map (line_instead g d p) (record { who = p; by = b } ∷ []) ≡ line_parts g d p b
  instead_p b =
      append-nil (cond (eqb p p) (line_parts g d p b) (record { who = p; by = b } ∷ []))
      ∙ cond-true (eqb p p) (line_parts g d p b) (record { who = p; by = b } ∷ []) (eq-eqb p p refl)

  -- where the same stands for the line in both, and is not p
  instead_step : (q b : ℕ) → (not (eqb q d) && (person g q).lives) ≡ (not (eqb q d) && (person f q).lives) → ((not (eqb q d) && (person f q).lives) ≡ true → q ≢ p)
      → ((c : ℕ) → is_child f q c ≡ true → (k : ℕ) → line_parts g d c k ≡ flat_map (line_instead g d p) (line_parts f d c k))
      → line_parts g d q b ≡ flat_map (line_instead g d p) (line_parts f d q b)
  instead_step q b v n ih =
      let k = b * length (lines_below f d q) in
      line_parts_law (dead_ranked s p) d q b
      ∙ (ap₂ (λ (x : Bool) (ws : List ℕ). cond x (record { who = q; by = b } ∷ []) (flat_map (λ c. line_parts g d c (b * length ws)) ws)) v (below_same q)
      ∙ (both (not (eqb q d) && (person f q).lives) (flat_map (λ c. line_parts g d c k) (lines_below f d q)) (flat_map (λ c. line_parts f d c k) (lines_below f d q)) n
      (joined_cong (λ c. line_parts g d c k) (λ c. flat_map (line_instead g d p) (line_parts f d c k)) (lines_below f d q)
      (All-weaker (λ c. is_child f q c ≡ true) (λ c. line_parts g d c k ≡ flat_map (line_instead g d p) (line_parts f d c k)) (λ c h. ih c h k) (lines_below f d q) (below_child f d q))
      ∙ sym (joined_joined (line_instead g d p) (λ c. line_parts f d c k) (lines_below f d q)))
      ∙ ap (flat_map (line_instead g d p)) (sym (line_parts_law s d q b))))
    where
      both : (x : Bool) (y z : List Part) → (x ≡ true → q ≢ p) → y ≡ flat_map (line_instead g d p) z
          → cond x (record { who = q; by = b } ∷ []) y ≡ flat_map (line_instead g d p) (cond x (record { who = q; by = b } ∷ []) z)
      both true y z h e = sym (instead_other (record { who = q; by = b }) (h refl))
      both false y z h e = e

  instead_parts : (q b : ℕ) → line_parts g d q b ≡ flat_map (line_instead g d p) (line_parts f d q b)
  instead_parts = descend s (λ q. (b : ℕ) → line_parts g d q b ≡ flat_map (line_instead g d p) (line_parts f d q b)) step
    where
      step : (q : ℕ) → ((c : ℕ) → is_child f q c ≡ true → (b : ℕ) → line_parts g d c b ≡ flat_map (line_instead g d p) (line_parts f d c b)) → (b : ℕ)
          → line_parts g d q b ≡ flat_map (line_instead g d p) (line_parts f d q b)
      step q ih b =
          ⊎_elim
          (λ (e : q ≡ p).
          ⊎_elim
          (λ (v : (person f p).lives ≡ true).
          subst (λ (z : ℕ). line_parts g d z b ≡ flat_map (line_instead g d p) (line_parts f d z b)) (sym e)
          (sym (ap (flat_map (line_instead g d p)) (parts_standing s d p b pd v) ∙ instead_p b)))
          (λ (v : (person f p).lives ≡ false).
          let w : (person f q).lives ≡ false = ap (λ (z : ℕ). (person f z).lives) e ∙ v in
          let x : (person g q).lives ≡ false = ap (λ (z : ℕ). (person g z).lives) e ∙ dead_lives s p in
          instead_step q b (stands_dead g d q x ∙ sym (stands_dead f d q w)) (λ h. absurd (both_ways (not (eqb q d) && (person f q).lives) (stands_dead f d q w) h)) ih)
          (cases_Bool (person f p).lives))
          (λ (n : q ≡ p → ⊥). instead_step q b (ap (λ (x : Person). not (eqb q d) && x.lives) (dead_other s p q n)) (λ _. n) ih) (cases_eq q p)

  -- the estate
  module _ (sp : (person f d).spouse ≢ suc p) where
    same_d : person g d ≡ person f d
    same_d = dead_other s p d (λ e. pd (sym e))

    spouse_same : has_living_spouse g d ≡ has_living_spouse f d
    spouse_same = ap (λ (z : Person). not (eqb z.spouse 0) && (person g (z.spouse - 1)).lives) same_d ∙ go (person f d).spouse refl
      where
        go : (k : ℕ) → (person f d).spouse ≡ k → (not (eqb (person f d).spouse 0) && (person g ((person f d).spouse - 1)).lives) ≡ has_living_spouse f d
        go zero e = rw (eq-eqb (person f d).spouse 0 e)
        go (suc k) e = ap (λ (z : Person). not (eqb (person f d).spouse 0) && z.lives) (dead_other s p ((person f d).spouse - 1) (λ z. sp (omega arith)))

    pub estate_instead : estate g d ≡ flat_map (line_instead g d p) (estate f d)
    estate_instead =
        estates_alike (λ (x y : List Part). y ≡ flat_map (line_instead g d p) x) refl
        (λ a b c e x y. ap₂ (λ (m n : List Part). m ++ n) x y ∙ sym (joined_append (line_instead g d p) a c)) f g d lives_same instead_parts (parents_same f g (dead_parents s p) d)
        (all_any (λ q. parents g q ≡ parents f q) (parents_same f g (dead_parents s p)) (parents f d)) (below_same d) spouse_same (ap (λ (z : Person). z.spouse) same_d)
        (λ h b. sym (instead_other (record { who = (person f d).spouse - 1; by = b }) (λ e. sp (let r = living_spouse f d h in omega arith))))

-- in which nobody else has less
pub instead_more : (g : Family) (d p n w : ℕ) → w ≢ p → (ps : List Part) → pieces n ps w ≤ pieces n (flat_map (line_instead g d p) ps) w
unfolding pieces
instead_more g d p n w h [] = omega arith
instead_more g d p n w h (q ∷ qs) =
    let ih = instead_more g d p n w h qs in
    let e = pieces_append n (line_instead g d p q) (flat_map (line_instead g d p) qs) w in
    let one : cond (eqb q.who w) (n / q.by) 0 ≤ pieces n (line_instead g d p q) w =
    cond_both (eqb q.who p) (line_parts g d p q.by) (q ∷ []) (λ (ps : List Part). cond (eqb q.who w) (n / q.by) 0 ≤ pieces n ps w)
    (λ e. rw (ne_eqb q.who w (λ z. h (sym z ∙ eqb-true q.who p e))) (omega arith)) (λ _. omega arith) in
    omega arith

pub line_has_instead : LineHasInstead
unfolding LineHasInstead
line_has_instead f rk d p s pd sp on = estate_instead s d p pd on sp

pub nobody_else_has_less : NobodyElseHasLess
unfolding NobodyElseHasLess changed
nobody_else_has_less l f rk d p n w s pd sp on wp =
    ⊎_elim
    (λ (r : refusal l f (dies p) ≡ 0).
    let a : after l f (dies p) ≡ with_dead f p = after_taken l f (dies p) r in
    subst (λ (h : Family). pieces n (estate f d) w ≤ pieces n (estate h d) w) (sym a)
    (subst (λ (ps : List Part). pieces n (estate f d) w ≤ pieces n ps w) (sym (estate_instead s d p pd (subst (λ (h : Family). line_lives h d p ≡ true) a on) sp))
    (instead_more (with_dead f p) d p n w wp (estate f d))))
    (λ (r : refusal l f (dies p) ≡ 0 → ⊥).
    subst (λ (h : Family). pieces n (estate f d) w ≤ pieces n (estate h d) w) (sym (after_refused l f (dies p) r)) (omega arith))
    (cases_eq (refusal l f (dies p)) 0)

-- who has no spouse is nobody's
not_spouse : (f : Family) → WellFormed f → (d p : ℕ) → (person f p).spouse ≡ 0 → (person f d).spouse ≢ suc p
not_spouse f w d p n e = let r = w.spouses d p e in omega (arith, r.1)

pub stands_for : StandsFor
unfolding StandsFor NobodyElseHasLess
stands_for l f d p n r _ _ pd _ sp on _ _ _ _ w wp =
    let k = well_formed_reached l f r in
    nobody_else_has_less l f k.rank d p n w k.ranked pd (not_spouse f k d p sp) on wp

pub line_stands_for : LineStandsFor
unfolding LineStandsFor changed
line_stands_for l f d p r pd v sp can on =
    let k = well_formed_reached l f r in
    let a : after l f (dies p) ≡ with_dead f p = after_taken l f (dies p) (dies_allowed l f p can (lives_there f p v) v) in
    let here : line_lives (with_dead f p) d p ≡ true = subst (λ (h : Family). line_lives h d p ≡ true) a on in (
      subst (λ (h : Family). estate h d ≡ flat_map (line_instead h d p) (estate f d)) (sym a) (estate_instead k.ranked d p pd here (not_spouse f k d p sp)),
      subst (λ (h : Family). (n b : ℕ) → divides_all n (line_parts h d p b) ≡ true → all_pieces n (line_parts h d p b) * b ≡ n) (sym a)
          (λ n b h. line_adds (dead_ranked k.ranked p) d n p here b h),
    )
