-- Two families in which the same lines live: what holds between their lines holds between their orders and estates. Assumes nothing.
use Rattle.std.proofs.Common.{◌≡◌, ℕ, zero, suc, ◌-◌, ◌*◌, ◌<◌, Bool, true, false, cond, not, eqb, ◌≢◌, ◌⊎◌, List, [], ◌∷◌, ◌++◌, length, filter, sym, refl, ap, ◌∙◌, subst, inl, inr, ⊎_elim}
use Rattle.std.specs.List.{flat_map, AllByRecursion}
use Rattle.std.proofs.ByRecursion.{All-weaker, all_kept_by}
use Rattle.std.proofs.lemmas.Bool.{eqb-true, eqb-false, cond_both}
use Rattle.law.specs.Family.{person, Family, line_lives, living_lines, Part, line_parts, parents, couple_parts, first_order, second_order, side_lives, living_sides, third_order, order, relatives_parts, has_living_spouse, spouse_parts, repeated, estate}
use Rattle.theory.specs.Living.{lines_below}
use Rattle.theory.proofs.Lists.{all_any, kept_cong, kept_positive}

-- the third order of x's relatives, where d is the decedent
abbrev pub sides_of : Family → ℕ → ℕ → List ℕ
sides_of f d x = filter (λ p. side_lives f d p) (parents f x)

abbrev pub third_of : Family → ℕ → ℕ → ℕ → List Part
third_of f d x b = flat_map (λ p. couple_parts f d (parents f p) (b * length (sides_of f d x))) (sides_of f d x)

-- an estate by what it is made of
abbrev pub order_by : ℕ → ℕ → ℕ → ℕ
order_by a b c = cond (not (eqb a 0)) 1 (cond (not (eqb b 0)) 2 (cond (not (eqb c 0)) 3 4))

abbrev pub relatives_by : ℕ → List Part → List Part → List Part → List Part
relatives_by o a b c = cond (eqb o 1) a (cond (eqb o 2) b (cond (eqb o 3) c []))

abbrev pub estate_by : Bool → ℕ → ℕ → List Part → List Part → List Part → List Part
estate_by h o w r4 r2 r1 =
    cond h
    (cond (eqb o 1) (record { who = w; by = 4 } ∷ repeated 3 r4) (cond (eqb o 4) (record { who = w; by = 1 } ∷ []) (record { who = w; by = 2 } ∷ r2)))
    r1

-- which order inherits, and a line that lives in it
order_tests : (x y z : Bool) (o : ℕ) → o ≡ cond x 1 (cond y 2 (cond z 3 4))
    → ((o ≡ 1) × (x ≡ true)) ⊎ (((o ≡ 2) × (y ≡ true)) ⊎ (((o ≡ 3) × (z ≡ true)) ⊎ (o ≡ 4)))
order_tests true y z o e = inl (e, refl)
order_tests false true z o e = inr (inl (e, refl))
order_tests false false true o e = inr (inr (inl (e, refl)))
order_tests false false false o e = inr (inr (inr e))

pub relatives_cases : (f : Family) (d b : ℕ) (M : List Part → Type 0) → (order f d ≡ 1 → 0 < length (lines_below f d d) → M (first_order f d b))
    → (order f d ≡ 2 → 0 < length (living_lines f d (parents f d)) → M (second_order f d b)) → (order f d ≡ 3 → 0 < length (living_sides f d) → M (third_order f d b))
    → (order f d ≡ 4 → M []) → M (relatives_parts f d b)
relatives_cases f d b M one two three four =
    ⊎_elim (λ (t : (order f d ≡ 1) × (not (eqb (length (lines_below f d d)) 0) ≡ true)). at 1 t.0 (one t.0 (kept_positive (lines_below f d d) t.1)))
    (⊎_elim
    (λ (t : (order f d ≡ 2) × (not (eqb (length (living_lines f d (parents f d))) 0) ≡ true)). at 2 t.0 (two t.0 (kept_positive (living_lines f d (parents f d)) t.1)))
    (⊎_elim (λ (t : (order f d ≡ 3) × (not (eqb (length (living_sides f d)) 0) ≡ true)). at 3 t.0 (three t.0 (kept_positive (living_sides f d) t.1)))
    (λ (t : order f d ≡ 4). at 4 t (four t))))
    (order_tests (not (eqb (length (lines_below f d d)) 0)) (not (eqb (length (living_lines f d (parents f d))) 0)) (not (eqb (length (living_sides f d)) 0)) (order f d) refl)
  where
    at : (o : ℕ) → order f d ≡ o → M (relatives_by o (first_order f d b) (second_order f d b) (third_order f d b)) → M (relatives_parts f d b)
    at o e m = subst (λ (k : ℕ). M (relatives_by k (first_order f d b) (second_order f d b) (third_order f d b))) (sym e) m

pub estate_cases : (f : Family) (d : ℕ) (M : List Part → Type 0)
    → (has_living_spouse f d ≡ true → order f d ≡ 1 → M (spouse_parts f d 4 ++ repeated 3 (relatives_parts f d 4)))
    → (has_living_spouse f d ≡ true → order f d ≡ 4 → M (spouse_parts f d 1)) → (has_living_spouse f d ≡ true → order f d ≢ 4 → M (spouse_parts f d 2 ++ relatives_parts f d 2))
    → (has_living_spouse f d ≡ false → M (relatives_parts f d 1)) → M (estate f d)
estate_cases f d M quarter all half none =
    cond_both (has_living_spouse f d)
    (cond (eqb (order f d) 1) (spouse_parts f d 4 ++ repeated 3 (relatives_parts f d 4)) (cond (eqb (order f d) 4) (spouse_parts f d 1) (spouse_parts f d 2 ++ relatives_parts f d 2)))
    (relatives_parts f d 1) M
    (λ h.
    cond_both (eqb (order f d) 1) (spouse_parts f d 4 ++ repeated 3 (relatives_parts f d 4))
    (cond (eqb (order f d) 4) (spouse_parts f d 1) (spouse_parts f d 2 ++ relatives_parts f d 2)) M (λ e. quarter h (eqb-true (order f d) 1 e))
    (λ _.
    cond_both (eqb (order f d) 4) (spouse_parts f d 1) (spouse_parts f d 2 ++ relatives_parts f d 2) M (λ e. all h (eqb-true (order f d) 4 e))
    (λ e. half h (eqb-false (order f d) 4 e))))
    none

-- the same lines live, with d as the decedent in f and e in g
module _ (f g : Family) (d e : ℕ) (A : (p : ℕ) → line_lives g e p ≡ line_lives f d p) where
  pub living_same : (ps : List ℕ) → living_lines g e ps ≡ living_lines f d ps
  living_same ps = kept_cong (λ p. line_lives g e p) (λ p. line_lives f d p) ps (all_any (λ p. line_lives g e p ≡ line_lives f d p) A ps)

  pub side_same : (p : ℕ) → parents g p ≡ parents f p → side_lives g e p ≡ side_lives f d p
  unfolding side_lives
  side_same p h = ap (λ (ws : List ℕ). not (eqb (length ws) 0)) (living_same (parents g p) ∙ ap (λ (ps : List ℕ). living_lines f d ps) h)

  pub sides_same : (x : ℕ) → parents g x ≡ parents f x → AllByRecursion (λ p. parents g p ≡ parents f p) (parents f x) → sides_of g e x ≡ sides_of f d x
  sides_same x h a =
      ap (λ (ps : List ℕ). filter (λ p. side_lives g e p) ps) h
      ∙ kept_cong (λ p. side_lives g e p) (λ p. side_lives f d p) (parents f x)
      (All-weaker (λ p. parents g p ≡ parents f p) (λ p. side_lives g e p ≡ side_lives f d p) side_same (parents f x) a)

-- a relation between rows of parts that empty rows have, and rows joined of such that have it
module _ (R : List Part → List Part → Type 0) (none : R [] []) (join : (a b c e : List Part) → R a b → R c e → R (a ++ c) (b ++ e)) where
  pub joined_alike : {X : Type 0} (h k : X → List Part) (xs : List X) → AllByRecursion (λ x. R (h x) (k x)) xs → R (flat_map h xs) (flat_map k xs)
  joined_alike h k [] a = none
  joined_alike h k (x ∷ xs) a = join (h x) (k x) (flat_map h xs) (flat_map k xs) a.0 (joined_alike h k xs a.1)

  pub repeated_alike : (n : ℕ) (x y : List Part) → R x y → R (repeated n x) (repeated n y)
  unfolding repeated
  repeated_alike zero x y r = none
  repeated_alike (suc n) x y r = join x y (repeated n x) (repeated n y) r (repeated_alike n x y r)

  relatives_by_alike : (o : ℕ) (a b c a' b' c' : List Part) → R a a' → R b b' → R c c' → R (relatives_by o a b c) (relatives_by o a' b' c')
  relatives_by_alike o a b c a' b' c' x y z = go (eqb o 1) (eqb o 2) (eqb o 3)
    where
      go : (p q r : Bool) → R (cond p a (cond q b (cond r c []))) (cond p a' (cond q b' (cond r c' [])))
      go true q r = x
      go false true r = y
      go false false true = z
      go false false false = none

  estate_by_alike : (h : Bool) (o w : ℕ) → (h ≡ true → (k : ℕ) → R (record { who = w; by = k } ∷ []) (record { who = w; by = k } ∷ [])) → (a b c a' b' c' : List Part) → R a a'
      → R b b' → R c c' → R (estate_by h o w a b c) (estate_by h o w a' b' c')
  estate_by_alike h o w s a b c a' b' c' x y z = go h (eqb o 1) (eqb o 4) s
    where
      one : ℕ → List Part
      one k = record { who = w; by = k } ∷ []

      go : (h p q : Bool) → (h ≡ true → (k : ℕ) → R (record { who = w; by = k } ∷ []) (record { who = w; by = k } ∷ []))
          → R (cond h (cond p (record { who = w; by = 4 } ∷ repeated 3 a) (cond q (record { who = w; by = 1 } ∷ []) (record { who = w; by = 2 } ∷ b))) c)
          (cond h (cond p (record { who = w; by = 4 } ∷ repeated 3 a') (cond q (record { who = w; by = 1 } ∷ []) (record { who = w; by = 2 } ∷ b'))) c')
      go false p q s = z
      go true true q s = join (one 4) (one 4) (repeated 3 a) (repeated 3 a') (s refl 4) (repeated_alike 3 a a' x)
      go true false true s = s refl 1
      go true false false s = join (one 2) (one 2) b b' (s refl 2) y

  module _ (f g : Family) (d e : ℕ) (A : (p : ℕ) → line_lives g e p ≡ line_lives f d p) (L : (p b : ℕ) → R (line_parts f d p b) (line_parts g e p b)) where
    pub couple_alike : (ps : List ℕ) (b : ℕ) → R (couple_parts f d ps b) (couple_parts g e ps b)
    unfolding couple_parts
    couple_alike ps b =
        subst (λ (ws : List ℕ). R (couple_parts f d ps b) (flat_map (λ p. line_parts g e p (b * length ws)) ws)) (sym (living_same f g d e A ps))
        (joined_alike (λ p. line_parts f d p (b * length (living_lines f d ps))) (λ p. line_parts g e p (b * length (living_lines f d ps))) (living_lines f d ps)
        (all_any (λ p. R (line_parts f d p (b * length (living_lines f d ps))) (line_parts g e p (b * length (living_lines f d ps)))) (λ p. L p (b * length (living_lines f d ps)))
        (living_lines f d ps)))

    pub third_alike : (x b : ℕ) → parents g x ≡ parents f x → AllByRecursion (λ p. parents g p ≡ parents f p) (parents f x) → R (third_of f d x b) (third_of g e x b)
    third_alike x b h a =
        let k = b * length (sides_of f d x) in
        subst (λ (ws : List ℕ). R (third_of f d x b) (flat_map (λ p. couple_parts g e (parents g p) (b * length ws)) ws)) (sym (sides_same f g d e A x h a))
        (joined_alike (λ p. couple_parts f d (parents f p) k) (λ p. couple_parts g e (parents g p) k) (sides_of f d x)
        (all_kept_by (λ p. side_lives f d p) (λ p. R (couple_parts f d (parents f p) k) (couple_parts g e (parents g p) k)) (parents f x)
        (All-weaker (λ p. parents g p ≡ parents f p) (λ p. R (couple_parts f d (parents f p) k) (couple_parts g e (parents g p) k))
        (λ p q. subst (λ (ps : List ℕ). R (couple_parts f d (parents f p) k) (couple_parts g e ps k)) (sym q) (couple_alike (parents f p) k)) (parents f x) a)))

  -- the same decedent in both
  module _ (f g : Family) (d : ℕ) (A : (p : ℕ) → line_lives g d p ≡ line_lives f d p) (L : (p b : ℕ) → R (line_parts f d p b) (line_parts g d p b))
      (P : parents g d ≡ parents f d) (Q : AllByRecursion (λ p. parents g p ≡ parents f p) (parents f d)) (C : lines_below g d d ≡ lines_below f d d)
      (H : has_living_spouse g d ≡ has_living_spouse f d) (S : (person g d).spouse ≡ (person f d).spouse)
      (T : has_living_spouse f d ≡ true → (b : ℕ) → R (spouse_parts f d b) (spouse_parts f d b)) where
    order_same : order g d ≡ order f d
    order_same =
        λ i. order_by (length (C i)) (length ((living_same f g d d A (parents g d) ∙ ap (λ (ps : List ℕ). living_lines f d ps) P) i)) (length (sides_same f g d d A d P Q i))

    relatives_alike : (b : ℕ) → R (relatives_parts f d b) (relatives_parts g d b)
    relatives_alike b =
        subst (λ (o : ℕ). R (relatives_parts f d b) (relatives_by o (first_order g d b) (second_order g d b) (third_order g d b))) (sym order_same)
        (relatives_by_alike (order f d) (first_order f d b) (second_order f d b) (third_order f d b) (first_order g d b) (second_order g d b) (third_order g d b) (L d b)
        (subst (λ (ps : List ℕ). R (second_order f d b) (couple_parts g d ps b)) (sym P) (couple_alike f g d d A L (parents f d) b)) (third_alike f g d d A L d b P Q))

    pub estates_alike : R (estate f d) (estate g d)
    estates_alike =
        subst (λ (h : Bool). R (estate f d) (estate_by h (order g d) ((person g d).spouse - 1) (relatives_parts g d 4) (relatives_parts g d 2) (relatives_parts g d 1))) (sym H)
        (subst (λ (o : ℕ). R (estate f d) (estate_by (has_living_spouse f d) o ((person g d).spouse - 1) (relatives_parts g d 4) (relatives_parts g d 2) (relatives_parts g d 1)))
        (sym order_same)
        (subst (λ (w : ℕ). R (estate f d) (estate_by (has_living_spouse f d) (order f d) (w - 1) (relatives_parts g d 4) (relatives_parts g d 2) (relatives_parts g d 1))) (sym S)
        (estate_by_alike (has_living_spouse f d) (order f d) ((person f d).spouse - 1) T (relatives_parts f d 4) (relatives_parts f d 2) (relatives_parts f d 1)
        (relatives_parts g d 4) (relatives_parts g d 2) (relatives_parts g d 1) (relatives_alike 4) (relatives_alike 2) (relatives_alike 1))))
