-- Of which orders somebody is, and that somebody whom no one stands before has a way. Assumes nothing.
use Rattle.std.proofs.Common.{◌≡◌, ℕ, zero, suc, ◌+◌, ◌*◌, ◌<◌, ◌≤◌, Bool, true, false, eqb, ◌≢◌, ◌⊎◌, List, [], ◌∷◌, ◌++◌, length, filter, sym, refl, ap, ◌∙◌, subst, inl, inr, ⊎_elim, arith}
use Rattle.std.specs.List.{flat_map, AllByRecursion}
use Rattle.std.proofs.lemmas.Bool.{both_ways, cases_Bool, cases_eq, ne_eqb, not_from_false, cond-true, cond-false, cond_both}
use Rattle.law.specs.Family.{Family, person, is_child, children_in, children, parents, line_lives, living_lines, side_lives, living_sides, order}
use Rattle.law.specs.Promise.{descends_by, OfLine}
use Rattle.theory.specs.Families.{Ranked}
use Rattle.theory.proofs.Families.{child_there, lives_there}
use Rattle.theory.proofs.Lines.{line_lives_self, line_lives_child, stands_true}
use Rattle.ways.specs.Ways.{Way, stands, line_ways_in, line_ways, couple_ways, relatives_by, kin_ways}
use Rattle.ways.proofs.Going.{way_standing}
use Rattle.reasons.proofs.Orders.{ways_first, ways_second, ways_third}
use Rattle.kinship.specs.Causes.{stood_before}

-- somebody is on a row
abbrev pub In : ℕ → List ℕ → Type 0
In x [] = ⊥
In x (y ∷ ys) = (y ≡ x) ⊎ In x ys

pub in_left : (x : ℕ) (xs ys : List ℕ) → In x xs → In x (xs ++ ys)
in_left x [] ys h = absurd h
in_left x (z ∷ xs) ys h = ⊎_elim (λ e. inl e) (λ k. inr (in_left x xs ys k)) h

pub in_right : (x : ℕ) (xs ys : List ℕ) → In x ys → In x (xs ++ ys)
in_right x [] ys h = h
in_right x (z ∷ xs) ys h = inr (in_right x xs ys h)

pub in_kept : (s : ℕ → Bool) (x : ℕ) (xs : List ℕ) → In x xs → s x ≡ true → In x (filter s xs)
in_kept s x [] h e = absurd h
in_kept s x (y ∷ ys) h e =
    cond_both (s y) (y ∷ filter s ys) (filter s ys) (In x) (λ t. ⊎_elim (λ q. inl q) (λ k. inr (in_kept s x ys k e)) h)
    (λ t. ⊎_elim (λ (q : y ≡ x). absurd (both_ways (s y) t (ap s q ∙ e))) (λ k. in_kept s x ys k e) h)

pub in_some : (x : ℕ) (xs : List ℕ) → In x xs → 0 < length xs
in_some x [] h = absurd h
in_some x (y ∷ ys) h = omega arith

pub in_joined : (g : ℕ → List ℕ) (x : ℕ) (xs : List ℕ) → In x (flat_map g xs) → (q : ℕ) × In q xs × In x (g q)
in_joined g x [] h = absurd h
in_joined g x (y ∷ ys) h = ⊎_elim (λ k. (y, inl refl, k)) (λ k. let r = in_joined g x ys k in (r.0, inr r.1, r.2)) (split (g y) h)
  where
    split : (zs : List ℕ) → In x (zs ++ flat_map g ys) → In x zs ⊎ In x (flat_map g ys)
    split [] k = inr k
    split (z ∷ zs) k = ⊎_elim (λ e. inl (inl e)) (λ m. ⊎_elim (λ n. inl (inr n)) (λ n. inr n) (split zs m)) k

pub all_in : (P : ℕ → Type 0) (xs : List ℕ) → ((x : ℕ) → In x xs → P x) → AllByRecursion P xs
all_in P [] h = tt
all_in P (x ∷ xs) h = (h x (inl refl), all_in P xs (λ y k. h y (inr k)))

child_in_from : (f : Family) (p x n c : ℕ) → is_child f p x ≡ true → c ≤ x → x < c + n → In x (children_in f p n c)
unfolding children_in
child_in_from f p x zero c k a b = absurd (omega arith)
child_in_from f p x (suc n) c k a b =
    ⊎_elim
    (λ (q : c ≡ x). subst (In x) (sym (cond-true (is_child f p c) (c ∷ children_in f p n (suc c)) (children_in f p n (suc c)) (ap (is_child f p) q ∙ k))) (inl q))
    (λ (q : c ≡ x → ⊥).
    let ih = child_in_from f p x n (suc c) k (omega arith) (omega arith) in
    cond_both (is_child f p c) (c ∷ children_in f p n (suc c)) (children_in f p n (suc c)) (In x) (λ _. inr ih) (λ _. ih))
    (cases_eq c x)

pub child_in : (f : Family) (p x : ℕ) → is_child f p x ≡ true → In x (children f p)
child_in f p x k = let l = child_there f p x k in child_in_from f p x (length f) 0 k (omega arith) (omega arith)

-- a way ends at somebody
abbrev pub Ends : ℕ → List Way → Type 0
Ends w [] = ⊥
Ends w (x ∷ xs) = (x.who ≡ w) ⊎ Ends w xs

pub ends_not : (w : ℕ) (xs : List Way) → AllByRecursion (λ (x : Way). x.who ≢ w) xs → Ends w xs → ⊥
ends_not w [] a h = h
ends_not w (x ∷ xs) a h = ⊎_elim (λ e. a.0 e) (λ k. ends_not w xs a.1 k) h

ends_left : (w : ℕ) (xs ys : List Way) → Ends w xs → Ends w (xs ++ ys)
ends_left w [] ys h = absurd h
ends_left w (x ∷ xs) ys h = ⊎_elim (λ e. inl e) (λ k. inr (ends_left w xs ys k)) h

ends_right : (w : ℕ) (xs ys : List Way) → Ends w ys → Ends w (xs ++ ys)
ends_right w [] ys h = h
ends_right w (x ∷ xs) ys h = inr (ends_right w xs ys h)

ends_joined : (w : ℕ) (g : ℕ → List Way) (x : ℕ) (xs : List ℕ) → In x xs → Ends w (g x) → Ends w (flat_map g xs)
ends_joined w g x [] h e = absurd h
ends_joined w g x (y ∷ ys) h e =
    ⊎_elim (λ (q : y ≡ x). ends_left w (g y) (flat_map g ys) (subst (λ z. Ends w (g z)) (sym q) e)) (λ k. ends_right w (g y) (flat_map g ys) (ends_joined w g x ys k e)) h

-- nobody on the way stands before the last
abbrev Clear : Family → ℕ → ℕ → List ℕ → Type 0
Clear f d p [] = Unit {0}
Clear f d p (x ∷ xs) = (stands f d p ≡ false) × Clear f d x xs

clear_or_stood : (f : Family) (d p : ℕ) (xs : List ℕ) → Clear f d p xs ⊎ stood_before f d p xs
unfolding stood_before
clear_or_stood f d p [] = inl tt
clear_or_stood f d p (x ∷ xs) =
    ⊎_elim (λ (e : stands f d p ≡ true). inr (inl e)) (λ (e : stands f d p ≡ false). ⊎_elim (λ k. inl (e, k)) (λ k. inr (inr k)) (clear_or_stood f d x xs)) (cases_Bool (stands f d p))

module _ {f : Family} {rk : ℕ → ℕ} (s : Ranked f rk) (d w : ℕ) (lives : (person f w).lives ≡ true) (other : w ≢ d) where
  -- below the decedent, or not of the decedent's line at all: on such a line everybody's line lives
  abbrev pub Beside : ℕ → Type 0
  Beside p = (rk d < rk p) ⊎ (OfLine f d w → ⊥)

  chain_of : (p : ℕ) (xs : List ℕ) → descends_by f p xs w → OfLine f p w
  unfolding OfLine
  chain_of p xs h = (xs, h)

  beside_other : (p : ℕ) → Beside p → OfLine f p w → p ≢ d
  beside_other p b h e = ⊎_elim (λ (l : rk d < rk p). let z = ap rk e in omega arith) (λ k. k (subst (λ q. OfLine f q w) e h)) b

  beside_child : (p x : ℕ) → (rk d ≤ rk p) ⊎ (OfLine f d w → ⊥) → is_child f p x ≡ true → Beside x
  beside_child p x b k = ⊎_elim (λ (l : rk d ≤ rk p). inl (let u = s.up p x k in omega arith)) (λ n. inr n) b

  beside_weaker : (p : ℕ) → Beside p → (rk d ≤ rk p) ⊎ (OfLine f d w → ⊥)
  beside_weaker p b = ⊎_elim (λ (l : rk d < rk p). inl (omega arith)) (λ n. inr n) b

  pub lives_up : (p : ℕ) (xs : List ℕ) → Beside p → descends_by f p xs w → line_lives f d p ≡ true
  unfolding descends_by
  lives_up p [] b h = subst (λ q. line_lives f d q ≡ true) (sym h) (line_lives_self s d w other lives)
  lives_up p (x ∷ xs) b h =
      line_lives_child s d p x (beside_other p b (chain_of p (x ∷ xs) h)) h.0 (lives_up x xs (beside_child p x (beside_weaker p b) h.0) h.1)

  pub line_up : (p : ℕ) → Beside p → OfLine f p w → line_lives f d p ≡ true
  unfolding OfLine
  line_up p b h = lives_up p h.0 b h.1

  -- whom nobody stands before on some way has a part by it
  way_there : (n p b : ℕ) (ys xs : List ℕ) → length f < n + rk p → (rk d ≤ rk p) ⊎ (OfLine f d w → ⊥) → descends_by f p xs w → Clear f d p xs → Ends w (line_ways_in n f d ys p b)
  unfolding descends_by line_ways_in
  way_there zero p b ys [] l c h k = absurd (let z = s.within w (lives_there f w lives) in omega (arith, ap rk h))
  way_there zero p b ys (x ∷ xs) l c h k = absurd (let z = s.within p (s.here p x h.0) in omega arith)
  way_there (suc n) p b ys [] l c h k =
      subst (Ends w) (sym (way_standing f d n ys p b (ap (stands f d) h ∙ stands_true f d w other lives))) (inl h)
  way_there (suc n) p b ys (x ∷ xs) l c h k =
      let each = b * length (living_lines f d (children f p)) in
      let beside = beside_child p x c h.0 in
      subst (Ends w) (sym (cond-false (stands f d p) (record { line = ys; who = p; by = b } ∷ []) (flat_map (λ c. line_ways_in n f d (ys ++ (c ∷ [])) c each) (living_lines f d (children f p))) k.0))
      (ends_joined w (λ c. line_ways_in n f d (ys ++ (c ∷ [])) c each) x (living_lines f d (children f p))
      (in_kept (line_lives f d) x (children f p) (child_in f p x h.0) (lives_up x xs beside h.1))
      (way_there n x each (ys ++ (x ∷ [])) xs (let u = s.up p x h.0 in omega arith) (beside_weaker x beside) h.1 k.1))

  module _ (none : Ends w (kin_ways f d) → ⊥) where
    stood : (p : ℕ) (xs : List ℕ) → (Clear f d p xs → ⊥) → stood_before f d p xs
    stood p xs h = ⊎_elim (λ c. absurd (h c)) (λ k. k) (clear_or_stood f d p xs)

    pub first_stood : order f d ≡ 1 → (xs : List ℕ) → descends_by f d xs w → stood_before f d d xs
    first_stood o xs h =
        stood d xs (λ c. none (subst (Ends w) (sym (ways_first f d (relatives_by f d) o)) (way_there (suc (length f)) d (relatives_by f d) [] xs (omega arith) (inl (omega arith)) h c)))

    module _ (apart : OfLine f d w → ⊥) where
      couple_ends : (b p : ℕ) (ps xs : List ℕ) → In p ps → descends_by f p xs w → Clear f d p xs → Ends w (couple_ways f d ps b)
      couple_ends b p ps xs i h c =
          let each = b * length (living_lines f d ps) in
          ends_joined w (λ q. line_ways f d (q ∷ []) q each) p (living_lines f d ps) (in_kept (line_lives f d) p ps i (lives_up p xs (inr apart) h))
          (way_there (suc (length f)) p each (p ∷ []) xs (omega arith) (inr apart) h c)

      pub second_stood : order f d ≡ 2 → (p : ℕ) → In p (parents f d) → (xs : List ℕ) → descends_by f p xs w → stood_before f d p xs
      second_stood o p i xs h =
          stood p xs (λ c. none (subst (Ends w) (sym (ways_second f d (relatives_by f d) o)) (couple_ends (relatives_by f d) p (parents f d) xs i h c)))

      pub third_stood : order f d ≡ 3 → (p : ℕ) → In p (flat_map (λ q. parents f q) (parents f d)) → (xs : List ℕ) → descends_by f p xs w → stood_before f d p xs
      unfolding side_lives
      third_stood o p i xs h =
          let t = in_joined (λ q. parents f q) p (parents f d) i in
          let q = t.0 in
          let b = relatives_by f d * length (living_sides f d) in
          let some = in_some p (living_lines f d (parents f q)) (in_kept (line_lives f d) p (parents f q) t.2 (lives_up p xs (inr apart) h)) in
          let side : side_lives f d q ≡ true = not_from_false (eqb (length (living_lines f d (parents f q))) 0) (ne_eqb (length (living_lines f d (parents f q))) 0 (λ z. omega arith)) in
          stood p xs
          (λ c.
          none
          (subst (Ends w) (sym (ways_third f d (relatives_by f d) o))
          (ends_joined w (λ r. couple_ways f d (parents f r) b) q (living_sides f d) (in_kept (λ r. side_lives f d r) q (parents f d) t.1 side) (couple_ends b p (parents f q) xs t.2 h c))))
