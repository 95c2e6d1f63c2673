-- Lines of descent by one step, without a bound on the steps, and induction along them, in a family that has a rank. Assumes nothing.
use Rattle.std.proofs.Common.{◌≡◌, ℕ, zero, suc, ◌+◌, ◌*◌, ◌<◌, ◌≤◌, Bool, true, false, cond, not, ◌&&◌, ◌||◌, eqb, ◌≢◌, ◌⊎◌, List, [], ◌∷◌, length, sym, refl, ap, ◌∙◌, subst, ap₂, inl, inr, ⊎_elim, arith}
use Rattle.std.specs.List.{flat_map, AllByRecursion}
use Rattle.std.proofs.ByRecursion.{All-weaker, all_kept_by, kept_by_passes}
use Rattle.std.proofs.lemmas.Bool.{cases_lt, cases_Bool, and_from, and_right, or_from, or_left, or_right, or_parts, eq-eqb, ne_eqb, not_from_false, not_from_true, and_left, cond-true, cond-false, cond_both}
use Rattle.law.specs.Family.{Person, person, Family, is_child, children, some_of, line_lives_in, line_lives, living_lines, Part, line_parts_in, line_parts}
use Rattle.law.specs.Promise.{descends_by, OfLine}
use Rattle.theory.specs.Families.{Ranked, SameParents}
use Rattle.theory.specs.Living.{lines_below}
use Rattle.theory.proofs.Lists.{some_cong, some_none, kept_cong, kept_empty, joined_cong, joined_none}
use Rattle.theory.proofs.Families.{past_nobody, child_there, ranked_same}
use Rattle.theory.proofs.Children.{children_child, children_same, some_child, child_of_some}

-- who is of a line
pub line_here : (f : Family) (p : ℕ) → OfLine f p p
unfolding OfLine descends_by
line_here f p = ([], refl)

pub line_step : (f : Family) (p x w : ℕ) → is_child f p x ≡ true → OfLine f x w → OfLine f p w
unfolding OfLine descends_by
line_step f p x w k h = (x ∷ h.0, (k, h.1))

-- what goes up from child to parent goes up a line
ascend_by : (f : Family) (P : ℕ → Type 0) → ((p c : ℕ) → is_child f p c ≡ true → P c → P p) → (p : ℕ) (xs : List ℕ) (w : ℕ) → descends_by f p xs w → P w → P p
unfolding descends_by
ascend_by f P up p [] w h v = subst P (sym h) v
ascend_by f P up p (x ∷ xs) w h v = up p x h.0 (ascend_by f P up x xs w h.1 v)

pub ascend : (f : Family) (P : ℕ → Type 0) → ((p c : ℕ) → is_child f p c ≡ true → P c → P p) → (p w : ℕ) → OfLine f p w → P w → P p
unfolding OfLine
ascend f P up p w h v = ascend_by f P up p h.0 w h.1 v

pub line_trans : (f : Family) (p q w : ℕ) → OfLine f p q → OfLine f q w → OfLine f p w
line_trans f p q w h k = ascend f (λ r. OfLine f r w) (λ r c e v. line_step f r c w e v) p q h k

-- the last step of a line
pub line_last : (f : Family) (p w : ℕ) → OfLine f p w → (p ≡ w) ⊎ ((m : ℕ) × (is_child f m w ≡ true) × OfLine f p m)
line_last f p w h = ascend f (λ q. (q ≡ w) ⊎ ((m : ℕ) × (is_child f m w ≡ true) × OfLine f q m)) up p w h (inl refl)
  where
    up : (q c : ℕ) → is_child f q c ≡ true → (c ≡ w) ⊎ ((m : ℕ) × (is_child f m w ≡ true) × OfLine f c m) → (q ≡ w) ⊎ ((m : ℕ) × (is_child f m w ≡ true) × OfLine f q m)
    up q c k v =
        ⊎_elim (λ (e : c ≡ w). inr (q, subst (λ (z : ℕ). is_child f q z ≡ true) e k, line_here f q))
        (λ (t : (m : ℕ) × (is_child f m w ≡ true) × OfLine f c m). inr (t.0, t.1, line_step f q c t.0 k t.2)) v

pub of_line_map : (f g : Family) → ((p c : ℕ) → is_child f p c ≡ true → is_child g p c ≡ true) → (p w : ℕ) → OfLine f p w → OfLine g p w
of_line_map f g up p w h = ascend f (λ q. OfLine g q w) (λ q c k v. line_step g q c w (up q c k) v) p w h (line_here g w)

-- a rank does not fall along a line, so that nobody is of a child's line
pub of_line_rank : {f : Family} {rk : ℕ → ℕ} → Ranked f rk → (p w : ℕ) → OfLine f p w → rk p ≤ rk w
of_line_rank {f} {rk} s p w h = ascend f (λ q. rk q ≤ rk w) (λ q c k v. let u = s.up q c k in omega arith) p w h (omega arith)

pub not_of_child : {f : Family} {rk : ℕ → ℕ} → Ranked f rk → (p c : ℕ) → is_child f p c ≡ true → OfLine f c p → ⊥
not_of_child s p c k h = let a = of_line_rank s c p h in let b = s.up p c k in omega arith

-- who stands for their line: everybody who lives, but the decedent
pub stands_true : (f : Family) (d p : ℕ) → p ≢ d → (person f p).lives ≡ true → (not (eqb p d) && (person f p).lives) ≡ true
stands_true f d p n v = and_from (not (eqb p d)) (person f p).lives (not_from_false (eqb p d) (ne_eqb p d n)) v

pub stands_dead : (f : Family) (d p : ℕ) → (person f p).lives ≡ false → (not (eqb p d) && (person f p).lives) ≡ false
stands_dead f d p v = and_right (not (eqb p d)) (person f p).lives v

pub stands_decedent : (f : Family) (d : ℕ) → (not (eqb d d) && (person f d).lives) ≡ false
stands_decedent f d = and_left (not (eqb d d)) (person f d).lives (not_from_true (eqb d d) (eq-eqb d d refl))

-- the decedent's line does not live
decedent_line_in : (f : Family) (d n : ℕ) → line_lives_in n f d d ≡ false
unfolding line_lives_in
decedent_line_in f d zero = refl
decedent_line_in f d (suc n) = cond-true (eqb d d) false ((person f d).lives || some_of (λ c. line_lives_in n f d c) (children f d)) (eq-eqb d d refl)

pub decedent_line : (f : Family) (d : ℕ) → line_lives f d d ≡ false
decedent_line f d = decedent_line_in f d (length f)

-- the children whose lines live are children, and their lines live
pub below_child : (f : Family) (d p : ℕ) → AllByRecursion (λ c. is_child f p c ≡ true) (lines_below f d p)
below_child f d p = all_kept_by (λ c. line_lives f d c) (λ c. is_child f p c ≡ true) (children f p) (children_child f p)

pub below_lives : (f : Family) (d p : ℕ) → AllByRecursion (λ c. line_lives f d c ≡ true) (lines_below f d p)
below_lives f d p = kept_by_passes (λ c. line_lives f d c) (children f p)

module _ {f : Family} {rk : ℕ → ℕ} (s : Ranked f rk) where
  -- past all ranks stands nobody
  rank_past : (p : ℕ) → length f ≤ rk p → length f ≤ p
  rank_past p l = ⊎_elim (λ (k : p < length f). absurd (let w = s.within p k in omega arith)) (λ k. k) (cases_lt p (length f))

  children_after : (p : ℕ) (P : ℕ → Type 0) → ((c : ℕ) → rk p < rk c → P c) → AllByRecursion P (children f p)
  children_after p P h = All-weaker (λ c. is_child f p c ≡ true) P (λ c k. h c (s.up p c k)) (children f p) (children_child f p)

  -- what holds of a person if it holds of the children holds of everybody
  pub descend : (P : ℕ → Type 0) → ((p : ℕ) → ((c : ℕ) → is_child f p c ≡ true → P c) → P p) → (p : ℕ) → P p
  descend P step p = go (length f) p (omega arith)
    where
      go : (n p : ℕ) → length f ≤ n + rk p → P p
      go zero p l = step p (λ c k. absurd (let a = s.up p c k in let b = s.within c (child_there f p c k) in omega arith))
      go (suc n) p l = step p (λ c k. go n c (let a = s.up p c k in omega arith))

  module _ (d : ℕ) where
    -- which lines live
    lives_past : (n p : ℕ) → length f ≤ rk p → line_lives_in n f d p ≡ false
    unfolding line_lives_in
    lives_past zero p l = refl
    lives_past (suc n) p l =
        cond_both (eqb p d) false ((person f p).lives || some_of (λ c. line_lives_in n f d c) (children f p)) (λ x. x ≡ false) (λ _. refl)
        (λ _.
        or_from (person f p).lives (some_of (λ c. line_lives_in n f d c) (children f p)) (ap (λ (x : Person). x.lives) (past_nobody f p (rank_past p l)))
        (some_none (λ c. line_lives_in n f d c) (children f p) (children_after p (λ c. line_lives_in n f d c ≡ false) (λ c k. lives_past n c (omega arith)))))

    lives_more : (n p : ℕ) → length f ≤ n + rk p → line_lives_in n f d p ≡ line_lives_in (suc n) f d p
    unfolding line_lives_in
    lives_more zero p l = sym (lives_past 1 p (omega arith))
    lives_more (suc n) p l =
        ap (λ (z : Bool). cond (eqb p d) false ((person f p).lives || z))
        (some_cong (λ c. line_lives_in n f d c) (λ c. line_lives_in (suc n) f d c) (children f p)
        (children_after p (λ c. line_lives_in n f d c ≡ line_lives_in (suc n) f d c) (λ c k. lives_more n c (omega arith))))

    -- a line lives if the person does, or a child's line; the decedent's does not
    pub line_lives_law : (p : ℕ) → line_lives f d p ≡ cond (eqb p d) false ((person f p).lives || some_of (λ c. line_lives f d c) (children f p))
    unfolding line_lives_in
    line_lives_law p = lives_more (length f) p (omega arith)

    -- as many steps as there are ranks from the person's on are enough
    lives_steps : (k n p : ℕ) → length f ≤ n + rk p → line_lives_in n f d p ≡ line_lives_in (k + n) f d p
    lives_steps zero n p l = ap (λ (m : ℕ). line_lives_in m f d p) (let e : n ≡ 0 + n = omega arith in e)
    lives_steps (suc k) n p l =
        lives_steps k n p l ∙ (lives_more (k + n) p (omega arith) ∙ ap (λ (m : ℕ). line_lives_in m f d p) (let e : suc (k + n) ≡ suc k + n = omega arith in e))

    pub lives_enough : (n p : ℕ) → length f ≤ n + rk p → line_lives_in n f d p ≡ line_lives f d p
    lives_enough n p l =
        lives_steps (length f) n p l
        ∙ (ap (λ (m : ℕ). line_lives_in m f d p) (let e : length f + n ≡ n + length f = omega arith in e) ∙ sym (lives_steps n (length f) p (omega arith)))

    -- which parts a line has
    parts_past : (n p b : ℕ) → length f ≤ rk p → line_parts_in n f d p b ≡ []
    unfolding line_parts_in
    parts_past zero p b l = refl
    parts_past (suc n) p b l =
        let k = b * length (lines_below f d p) in
        cond-false (not (eqb p d) && (person f p).lives) (record { who = p; by = b } ∷ []) (flat_map (λ c. line_parts_in n f d c k) (lines_below f d p))
        (stands_dead f d p (ap (λ (x : Person). x.lives) (past_nobody f p (rank_past p l))))
        ∙ joined_none (λ c. line_parts_in n f d c k) (lines_below f d p)
        (all_kept_by (λ c. line_lives f d c) (λ c. line_parts_in n f d c k ≡ []) (children f p)
        (children_after p (λ c. line_parts_in n f d c k ≡ []) (λ c r. parts_past n c k (omega arith))))

    parts_more : (n p b : ℕ) → length f ≤ n + rk p → line_parts_in n f d p b ≡ line_parts_in (suc n) f d p b
    unfolding line_parts_in
    parts_more zero p b l = sym (parts_past 1 p b (omega arith))
    parts_more (suc n) p b l =
        let k = b * length (lines_below f d p) in
        ap (λ (z : List Part). cond (not (eqb p d) && (person f p).lives) (record { who = p; by = b } ∷ []) z)
        (joined_cong (λ c. line_parts_in n f d c k) (λ c. line_parts_in (suc n) f d c k) (lines_below f d p)
        (all_kept_by (λ c. line_lives f d c) (λ c. line_parts_in n f d c k ≡ line_parts_in (suc n) f d c k) (children f p)
        (children_after p (λ c. line_parts_in n f d c k ≡ line_parts_in (suc n) f d c k) (λ c r. parts_more n c k (omega arith)))))

    -- who lives has a line's part; else the children's lines that live have as much each
    pub line_parts_law : (p b : ℕ)
        → line_parts f d p b
        ≡ cond (not (eqb p d) && (person f p).lives) (record { who = p; by = b } ∷ [])
        (flat_map (λ c. line_parts f d c (b * length (lines_below f d p))) (lines_below f d p))
    unfolding line_parts_in
    line_parts_law p b = parts_more (suc (length f)) p b (omega arith)

    parts_steps : (k n p b : ℕ) → length f ≤ n + rk p → line_parts_in n f d p b ≡ line_parts_in (k + n) f d p b
    parts_steps zero n p b l = ap (λ (m : ℕ). line_parts_in m f d p b) (let e : n ≡ 0 + n = omega arith in e)
    parts_steps (suc k) n p b l =
        parts_steps k n p b l ∙ (parts_more (k + n) p b (omega arith) ∙ ap (λ (m : ℕ). line_parts_in m f d p b) (let e : suc (k + n) ≡ suc k + n = omega arith in e))

    pub parts_enough : (n p b : ℕ) → length f ≤ n + rk p → line_parts_in n f d p b ≡ line_parts f d p b
    parts_enough n p b l =
        parts_steps (suc (length f)) n p b l
        ∙ (ap (λ (m : ℕ). line_parts_in m f d p b) (let e : suc (length f) + n ≡ n + suc (length f) = omega arith in e)
        ∙ sym (parts_steps n (suc (length f)) p b (omega arith)))

    -- the same by cases
    pub line_lives_other : (p : ℕ) → p ≢ d → line_lives f d p ≡ ((person f p).lives || some_of (λ c. line_lives f d c) (children f p))
    line_lives_other p n = line_lives_law p ∙ cond-false (eqb p d) false ((person f p).lives || some_of (λ c. line_lives f d c) (children f p)) (ne_eqb p d n)

    pub line_lives_self : (p : ℕ) → p ≢ d → (person f p).lives ≡ true → line_lives f d p ≡ true
    line_lives_self p n v = line_lives_other p n ∙ or_left (person f p).lives (some_of (λ c. line_lives f d c) (children f p)) v

    pub line_lives_child : (p c : ℕ) → p ≢ d → is_child f p c ≡ true → line_lives f d c ≡ true → line_lives f d p ≡ true
    line_lives_child p c n k v =
        line_lives_other p n ∙ or_right (person f p).lives (some_of (λ x. line_lives f d x) (children f p)) (some_child f (λ x. line_lives f d x) p c k v)

    pub line_lives_past : (p : ℕ) → length f ≤ p → line_lives f d p ≡ false
    line_lives_past p l =
        line_lives_law p
        ∙ cond_both (eqb p d) false ((person f p).lives || some_of (λ c. line_lives f d c) (children f p)) (λ x. x ≡ false) (λ _. refl)
        (λ _.
        or_from (person f p).lives (some_of (λ c. line_lives f d c) (children f p)) (ap (λ (x : Person). x.lives) (past_nobody f p l))
        (⊎_elim (λ e. let t = child_of_some f (λ c. line_lives f d c) p e in absurd (let z = s.here p t.0 t.1 in omega arith)) (λ e. e)
        (cases_Bool (some_of (λ c. line_lives f d c) (children f p)))))

    pub parts_standing : (p b : ℕ) → p ≢ d → (person f p).lives ≡ true → line_parts f d p b ≡ record { who = p; by = b } ∷ []
    parts_standing p b n v =
        line_parts_law p b
        ∙ cond-true (not (eqb p d) && (person f p).lives) (record { who = p; by = b } ∷ [])
        (flat_map (λ c. line_parts f d c (b * length (lines_below f d p))) (lines_below f d p)) (stands_true f d p n v)

    pub parts_divided : (p b : ℕ) → (not (eqb p d) && (person f p).lives) ≡ false
        → line_parts f d p b ≡ flat_map (λ c. line_parts f d c (b * length (lines_below f d p))) (lines_below f d p)
    parts_divided p b v =
        line_parts_law p b
        ∙ cond-false (not (eqb p d) && (person f p).lives) (record { who = p; by = b } ∷ [])
        (flat_map (λ c. line_parts f d c (b * length (lines_below f d p))) (lines_below f d p)) v

    -- a line that does not live has no parts
    pub parts_none : (p b : ℕ) → p ≢ d → line_lives f d p ≡ false → line_parts f d p b ≡ []
    parts_none p b n e =
        let r = or_parts (person f p).lives (some_of (λ c. line_lives f d c) (children f p)) (sym (line_lives_other p n) ∙ e) in
        let none : lines_below f d p ≡ [] = kept_empty (λ c. line_lives f d c) (children f p) r.1 in
        parts_divided p b (stands_dead f d p r.0) ∙ ap (λ (ws : List ℕ). flat_map (λ c. line_parts f d c (b * length ws)) ws) none

-- Two families with the same parents, d the decedent in f and e in g. Q is said of somebody and then of their children.
module _ {f g : Family} {rk : ℕ → ℕ} (s : Ranked f rk) (u : SameParents f g) (d e : ℕ) (Q : ℕ → Type 0) (down : (p c : ℕ) → is_child f p c ≡ true → Q p → Q c) where
  -- the same lines live where the same persons do
  pub lives_alike : ((p : ℕ) → Q p → ((p ≢ d) × (p ≢ e) × ((person g p).lives ≡ (person f p).lives)) ⊎ (line_lives g e p ≡ line_lives f d p))
      → (p : ℕ) → Q p → line_lives g e p ≡ line_lives f d p
  lives_alike h = descend s (λ p. Q p → line_lives g e p ≡ line_lives f d p) step
    where
      step : (p : ℕ) → ((c : ℕ) → is_child f p c ≡ true → Q c → line_lives g e c ≡ line_lives f d c) → Q p → line_lives g e p ≡ line_lives f d p
      step p ih q =
          ⊎_elim
          (λ (v : (p ≢ d) × (p ≢ e) × ((person g p).lives ≡ (person f p).lives)).
          line_lives_other (ranked_same f g rk u s) e p v.1
          ∙ (ap₂ (λ (x : Bool) (cs : List ℕ). x || some_of (λ c. line_lives g e c) cs) v.2 (children_same f g u p)
          ∙ (ap (λ (x : Bool). (person f p).lives || x)
          (some_cong (λ c. line_lives g e c) (λ c. line_lives f d c) (children f p)
          (All-weaker (λ c. is_child f p c ≡ true) (λ c. line_lives g e c ≡ line_lives f d c) (λ c k. ih c k (down p c k q)) (children f p) (children_child f p)))
          ∙ sym (line_lives_other s d p v.0))))
          (λ v. v) (h p q)

  module _ (lives : (p : ℕ) → Q p → line_lives g e p ≡ line_lives f d p) where
    -- the same lines live below, and so the same parts are had, where the same persons stand for their lines
    pub below_alike : (p : ℕ) → ((c : ℕ) → is_child f p c ≡ true → Q c) → lines_below g e p ≡ lines_below f d p
    below_alike p q =
        ap (λ (cs : List ℕ). living_lines g e cs) (children_same f g u p)
        ∙ kept_cong (λ c. line_lives g e c) (λ c. line_lives f d c) (children f p)
        (All-weaker (λ c. is_child f p c ≡ true) (λ c. line_lives g e c ≡ line_lives f d c) (λ c k. lives c (q c k)) (children f p) (children_child f p))

    pub parts_alike_below : (p b : ℕ) → (not (eqb p e) && (person g p).lives) ≡ (not (eqb p d) && (person f p).lives) → ((c : ℕ) → is_child f p c ≡ true → Q c)
        → ((c : ℕ) → is_child f p c ≡ true → (k : ℕ) → line_parts g e c k ≡ line_parts f d c k) → line_parts g e p b ≡ line_parts f d p b
    parts_alike_below p b v q same =
        let k = b * length (lines_below f d p) in
        line_parts_law (ranked_same f g rk u s) e p b
        ∙ (ap₂ (λ (x : Bool) (ws : List ℕ). cond x (record { who = p; by = b } ∷ []) (flat_map (λ c. line_parts g e c (b * length ws)) ws)) v (below_alike p q)
        ∙ (ap (λ (z : List Part). cond (not (eqb p d) && (person f p).lives) (record { who = p; by = b } ∷ []) z)
        (joined_cong (λ c. line_parts g e c k) (λ c. line_parts f d c k) (lines_below f d p)
        (All-weaker (λ c. is_child f p c ≡ true) (λ c. line_parts g e c k ≡ line_parts f d c k) (λ c h. same c h k) (lines_below f d p) (below_child f d p)))
        ∙ sym (line_parts_law s d p b)))

    pub parts_alike : ((p : ℕ) → Q p → (not (eqb p e) && (person g p).lives) ≡ (not (eqb p d) && (person f p).lives)) → (p : ℕ) → Q p → (b : ℕ) → line_parts g e p b ≡ line_parts f d p b
    parts_alike v =
        descend s (λ p. Q p → (b : ℕ) → line_parts g e p b ≡ line_parts f d p b)
        (λ p ih q b. parts_alike_below p b (v p q) (λ c k. down p c k q) (λ c k n. ih c k (down p c k q) n))
