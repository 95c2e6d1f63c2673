-- The nearest order of which somebody is, and what follows for who has no share. Assumes nothing.
use Rattle.std.proofs.Common.{◌≡◌, ℕ, zero, suc, ◌<◌, ◌≤◌, Bool, true, false, cond, eqb, ltb, ◌≢◌, ◌⊎◌, List, [], ◌∷◌, ◌++◌, length, filter, sym, refl, ap, ◌∙◌, subst, inl, inr, ⊎_elim, arith}
use Rattle.std.specs.List.{flat_map, AllByRecursion}
use Rattle.std.proofs.lemmas.List.{append-nil, length-append}
use Rattle.std.proofs.lemmas.List.Elements.{filter-append}
use Rattle.std.proofs.ByRecursion.{all_kept_by, kept_by_passes}
use Rattle.std.proofs.lemmas.Bool.{both_ways, cases_Bool, cases_eq, eqb-true, eqb-false, ltb-true, ltb-false, ne_eqb, cond-false, cond_both}
use Rattle.law.specs.Family.{Family, person, is_child, children, parents, known, order}
use Rattle.law.specs.Promise.{descends_by, OfLine}
use Rattle.theory.specs.Families.{Ranked}
use Rattle.theory.proofs.Lists.{joined_append, all_both}
use Rattle.theory.proofs.Children.{children_child}
use Rattle.theory.proofs.Lines.{line_step}
use Rattle.reasons.specs.Estates.{side_in, Known}
use Rattle.reasons.proofs.Orders.{order_is}
use Rattle.kinship.specs.Forebears.{LinesTo}
use Rattle.kinship.specs.Causes.{starts, OfSome, stood_before, NoWay, order_in, cause_by, CauseHolds}
use Rattle.kinship.specs.declared.Cause.TheVariants.{NearerOrder, LivingForebear, NotOfFamily}
use Rattle.kinship.proofs.Standing.{ends_not, line_up, in_kept, in_some, child_in, all_in, first_stood, second_stood, third_stood}

-- the lines of the third order that are in a set, by sides
kept_known : (s : ℕ → Bool) (f : Family) (k : ℕ) → filter s (flat_map (λ p. parents f p) (known k)) ≡ side_in s f k
unfolding known
kept_known s f zero = refl
kept_known s f (suc p) = ap (filter s) (append-nil (parents f p)) ∙ sym (append-nil (filter s (parents f p)))

kept_third : (s : ℕ → Bool) (f : Family) (d : ℕ) → filter s (flat_map (λ p. parents f p) (parents f d)) ≡ side_in s f (person f d).mother ++ side_in s f (person f d).father
kept_third s f d =
    let m = known (person f d).mother in
    let e = known (person f d).father in
    ap (filter s) (joined_append (λ p. parents f p) m e)
    ∙ filter-append s (flat_map (λ p. parents f p) m) (flat_map (λ p. parents f p) e)
    ∙ ap (λ xs. xs ++ filter s (flat_map (λ p. parents f p) e)) (kept_known s f (person f d).mother)
    ∙ ap (λ xs. side_in s f (person f d).mother ++ xs) (kept_known s f (person f d).father)

-- the nearest order, by which orders have no line
abbrev near_by : Bool → Bool → Bool → Bool → ℕ
near_by a b m e = cond a (cond b (cond m (cond e 4 3) 3) 2) 1

near_cases : (a b m e : Bool) (P : ℕ → Type 0) → (a ≡ false → P 1) → (a ≡ true → b ≡ false → P 2) → (a ≡ true → b ≡ true → (m ≡ false) ⊎ (e ≡ false) → P 3) →
    (a ≡ true → b ≡ true → m ≡ true → e ≡ true → P 4) → P (near_by a b m e)
near_cases false b m e P one two three four = one refl
near_cases true false m e P one two three four = two refl refl
near_cases true true false e P one two three four = three refl refl (inl refl)
near_cases true true true false P one two three four = three refl refl (inr refl)
near_cases true true true true P one two three four = four refl refl refl refl

some_length : (xs : List ℕ) → eqb (length xs) 0 ≡ false → 0 < length xs
some_length xs e = let z = eqb-false (length xs) 0 e in omega arith

no_length : (xs : List ℕ) → eqb (length xs) 0 ≡ true → length xs ≡ 0
no_length xs e = eqb-true (length xs) 0 e

-- the nearest order is no farther than any that has a line in the set
order_least : (s : ℕ → Bool) (f : Family) (d : ℕ) →
    (0 < length (filter s (children f d)) → order_in s f d ≤ 1) × (0 < length (filter s (parents f d)) → order_in s f d ≤ 2)
    × (0 < length (filter s (flat_map (λ p. parents f p) (parents f d))) → order_in s f d ≤ 3)
order_least s f d =
    near_cases (eqb (length c) 0) (eqb (length p) 0) (eqb (length m) 0) (eqb (length e) 0) (λ o. (0 < length c → o ≤ 1) × (0 < length p → o ≤ 2) × (0 < length t → o ≤ 3))
    (λ _. (λ _. omega arith, λ _. omega arith, λ _. omega arith)) (λ x _. (λ l. absurd (omega (arith, no_length c x)), λ _. omega arith, λ _. omega arith))
    (λ x y _. (λ l. absurd (omega (arith, no_length c x)), λ l. absurd (omega (arith, no_length p y)), λ _. omega arith))
    (λ x y u v. (
      λ l. absurd (omega (arith, no_length c x)),
      λ l. absurd (omega (arith, no_length p y)),
      λ l. absurd (omega (arith, no_length m u, no_length e v, ap length (kept_third s f d), length-append m e)),
    ))
  where
    c : List ℕ
    c = filter s (children f d)

    p : List ℕ
    p = filter s (parents f d)

    m : List ℕ
    m = side_in s f (person f d).mother

    e : List ℕ
    e = side_in s f (person f d).father

    t : List ℕ
    t = filter s (flat_map (λ p. parents f p) (parents f d))

module _ {f : Family} {rk : ℕ → ℕ} (r : Ranked f rk) (d w : ℕ) (other : w ≢ d) where
  -- of which order a line is that somebody is of
  kinds : (k : ℕ) → OfSome f (starts f d k) w →
      ((k ≡ 1) × OfLine f d w) ⊎ (((k ≡ 2) × OfSome f (parents f d) w) ⊎ ((k ≡ 3) × OfSome f (flat_map (λ p. parents f p) (parents f d)) w))
  unfolding OfSome
  kinds k h =
      ⊎_elim (λ (e : k ≡ 1). inl (e, ⊎_elim (λ x. x) (λ x. absurd x) (subst (λ z. OfSome f (starts f d z) w) e h)))
      (λ n1.
      ⊎_elim (λ (e : k ≡ 2). inr (inl (e, subst (λ z. OfSome f (starts f d z) w) e h)))
      (λ n2.
      ⊎_elim (λ (e : k ≡ 3). inr (inr (e, subst (λ z. OfSome f (starts f d z) w) e h)))
      (λ n3.
      absurd
      (subst (λ ps. OfSome f ps w)
      (cond-false (eqb k 1) (d ∷ []) (cond (eqb k 2) (parents f d) (cond (eqb k 3) (flat_map (λ p. parents f p) (parents f d)) [])) (ne_eqb k 1 n1)
      ∙ cond-false (eqb k 2) (parents f d) (cond (eqb k 3) (flat_map (λ p. parents f p) (parents f d)) []) (ne_eqb k 2 n2)
      ∙ cond-false (eqb k 3) (flat_map (λ p. parents f p) (parents f d)) [] (ne_eqb k 3 n3)) h))
      (cases_eq k 3))
      (cases_eq k 2))
      (cases_eq k 1)

  -- a set that holds everybody of whose line somebody is
  kept_some : (s : ℕ → Bool) (ps : List ℕ) → ((p : ℕ) → OfLine f p w → s p ≡ true) → OfSome f ps w → 0 < length (filter s ps)
  unfolding OfSome
  kept_some s [] up h = absurd h
  kept_some s (p ∷ ps) up h =
      cond_both (s p) (p ∷ filter s ps) (filter s ps) (λ xs. 0 < length xs) (λ _. omega arith)
      (λ e. ⊎_elim (λ k. absurd (both_ways (s p) e (up p k))) (λ k. kept_some s ps up k) h)

  some_kept : (s : ℕ → Bool) (ps : List ℕ) → ((p : ℕ) → s p ≡ true → OfLine f p w) → 0 < length (filter s ps) → OfSome f ps w
  unfolding OfSome
  some_kept s [] down l = absurd (omega arith)
  some_kept s (p ∷ ps) down l =
      ⊎_elim (λ (e : s p ≡ true). inl (down p e))
      (λ (e : s p ≡ false). inr (some_kept s ps down (subst (λ xs. 0 < length xs) (cond-false (s p) (p ∷ filter s ps) (filter s ps) e) l))) (cases_Bool (s p))

  -- a child of the decedent on the way to somebody
  first_child : OfLine f d w → (x : ℕ) × (is_child f d x ≡ true) × OfLine f x w
  unfolding OfLine descends_by
  first_child h = go h.0 h.1
    where
      go : (xs : List ℕ) → descends_by f d xs w → (x : ℕ) × (is_child f d x ≡ true) × OfLine f x w
      go [] k = absurd (other (sym k))
      go (x ∷ xs) k = (x, k.0, (xs, k.1))

  children_kept : (s : ℕ → Bool) → ((x : ℕ) → is_child f d x ≡ true → OfLine f x w → s x ≡ true) → OfLine f d w → 0 < length (filter s (children f d))
  children_kept s up h =
      let t = first_child h in in_some t.0 (filter s (children f d)) (in_kept s t.0 (children f d) (child_in f d t.0 t.1) (up t.0 t.1 t.2))

  kept_children : (s : ℕ → Bool) → ((p : ℕ) → s p ≡ true → OfLine f p w) → 0 < length (filter s (children f d)) → OfLine f d w
  kept_children s down l =
      go (filter s (children f d)) l
      (all_both (λ x. is_child f d x ≡ true) (λ x. s x ≡ true) (λ x. OfLine f d w) (λ x k e. line_step f d x w k (down x e)) (filter s (children f d))
      (all_kept_by s (λ x. is_child f d x ≡ true) (children f d) (children_child f d)) (kept_by_passes s (children f d)))
    where
      go : (xs : List ℕ) → 0 < length xs → AllByRecursion (λ x. OfLine f d w) xs → OfLine f d w
      go [] m a = absurd (omega arith)
      go (x ∷ xs) m a = a.0

  -- of the nearest order somebody is, and of none that is nearer
  pub record Nearest (n : ℕ) : Type 0 where
    pub of : n ≤ 3 → OfSome f (starts f d n) w
    pub least : (k : ℕ) → OfSome f (starts f d k) w → (n ≤ k) × (k ≤ 3)

  module _ (s : ℕ → Bool) (to : LinesTo f w s) where
    up : (p : ℕ) → OfLine f p w → s p ≡ true
    up p = (to p).1

    down : (p : ℕ) → s p ≡ true → OfLine f p w
    down p = (to p).0

    least_is : (k : ℕ) → OfSome f (starts f d k) w → (order_in s f d ≤ k) × (k ≤ 3)
    least_is k h =
        let l = order_least s f d in
        ⊎_elim (λ t. (let z = l.0 (children_kept s (λ x _ v. up x v) t.1) in omega (arith, t.0), omega (arith, t.0)))
        (λ q.
        ⊎_elim (λ t. (let z = l.1 (kept_some s (parents f d) up t.1) in omega (arith, t.0), omega (arith, t.0)))
        (λ t. (let z = l.2 (kept_some s (flat_map (λ p. parents f p) (parents f d)) up t.1) in omega (arith, t.0), omega (arith, t.0))) q)
        (kinds k h)

    of_is : order_in s f d ≤ 3 → OfSome f (starts f d (order_in s f d)) w
    unfolding OfSome
    of_is =
        near_cases (eqb (length (filter s (children f d))) 0) (eqb (length (filter s (parents f d))) 0) (eqb (length (side_in s f (person f d).mother)) 0)
        (eqb (length (side_in s f (person f d).father)) 0) (λ o. o ≤ 3 → OfSome f (starts f d o) w)
        (λ a _. inl (kept_children s down (some_length (filter s (children f d)) a))) (λ a b _. some_kept s (parents f d) down (some_length (filter s (parents f d)) b))
        (λ a b c _.
        some_kept s (flat_map (λ p. parents f p) (parents f d)) down
        (let k = ap length (kept_third s f d) ∙ length-append (side_in s f (person f d).mother) (side_in s f (person f d).father) in
        ⊎_elim (λ x. let z = some_length (side_in s f (person f d).mother) x in omega arith) (λ x. let z = some_length (side_in s f (person f d).father) x in omega arith) c))
        (λ a b c e l. absurd (omega arith))

    pub nearest_is : Nearest (order_in s f d)
    nearest_is = record { of = of_is; least = least_is }

  module _ (lives : (person f w).lives ≡ true) {t : ℕ → Bool} (k : Known f rk d t) (n : ℕ) (near : Nearest n) where
    -- no nearer order inherits than one of which somebody who lives is
    inherits_is : order f d ≡ order_in t f d
    inherits_is = order_is k (side_in t f (person f d).mother) (side_in t f (person f d).father) refl refl (filter t (children f d)) (filter t (parents f d)) refl refl

    apart : 2 ≤ n → OfLine f d w → ⊥
    unfolding OfSome
    apart l h = let z = near.least 1 (inl h) in omega (arith, z.0)

    lines_live : 2 ≤ n → (p : ℕ) → OfLine f p w → t p ≡ true
    lines_live l p h = k.marks p ∙ line_up r d w lives other p (inr (apart l)) h

    no_farther : n ≤ 3 → order f d ≤ n
    no_farther l =
        let least = order_least t f d in
        let e = inherits_is in
        ⊎_elim
        (λ (q : (n ≡ 1) × OfLine f d w).
        let z = least.0 (children_kept t (λ x c v. k.marks x ∙ line_up r d w lives other x (inl (r.up d x c)) v) q.1) in
        omega (arith, q.0))
        (λ q.
        ⊎_elim (λ (u : (n ≡ 2) × OfSome f (parents f d) w). let z = least.1 (kept_some t (parents f d) (lines_live (omega (arith, u.0))) u.1) in omega (arith, u.0))
        (λ (u : (n ≡ 3) × OfSome f (flat_map (λ p. parents f p) (parents f d)) w).
        let z = least.2 (kept_some t (flat_map (λ p. parents f p) (parents f d)) (lines_live (omega (arith, u.0))) u.1) in omega (arith, u.0))
        q)
        (kinds n (near.of l))

    module _ (none : NoWay f d w) where
      before_all : (o : ℕ) → order f d ≡ o → o ≡ n → n ≤ 3 → AllByRecursion (λ p. (xs : List ℕ) → descends_by f p xs w → stood_before f d p xs) (starts f d o)
      before_all o e same l =
          let no = ends_not w _ none in
          ⊎_elim
          (λ (q : (n ≡ 1) × OfLine f d w).
          subst (λ z. AllByRecursion (λ p. (xs : List ℕ) → descends_by f p xs w → stood_before f d p xs) (starts f d z)) (sym (same ∙ q.0)) (first_stood r d w lives other no (e ∙ same ∙ q.0), tt))
          (λ q.
          ⊎_elim
          (λ (u : (n ≡ 2) × OfSome f (parents f d) w).
          subst (λ z. AllByRecursion (λ p. (xs : List ℕ) → descends_by f p xs w → stood_before f d p xs) (starts f d z)) (sym (same ∙ u.0))
          (all_in (λ p. (xs : List ℕ) → descends_by f p xs w → stood_before f d p xs) (parents f d) (second_stood r d w lives other no (apart (omega (arith, u.0))) (e ∙ same ∙ u.0))))
          (λ (u : (n ≡ 3) × OfSome f (flat_map (λ p. parents f p) (parents f d)) w).
          subst (λ z. AllByRecursion (λ p. (xs : List ℕ) → descends_by f p xs w → stood_before f d p xs) (starts f d z)) (sym (same ∙ u.0))
          (all_in (λ p. (xs : List ℕ) → descends_by f p xs w → stood_before f d p xs) (flat_map (λ p. parents f p) (parents f d))
          (third_stood r d w lives other no (apart (omega (arith, u.0))) (e ∙ same ∙ u.0))))
          q)
          (kinds n (near.of l))

      pub cause_right : n ≤ 4 → CauseHolds f d w (cause_by (order_in t f d) n)
      cause_right few =
          cond_both (eqb n 4) NotOfFamily (cond (ltb (order_in t f d) n) NearerOrder LivingForebear) (CauseHolds f d w)
          (λ e o h. let z = near.least o h in omega (arith, eqb-true n 4 e, z.0, z.1))
          (λ e.
          let l : n ≤ 3 = let z = eqb-false n 4 e in omega arith in
          cond_both (ltb (order_in t f d) n) NearerOrder LivingForebear (CauseHolds f d w)
          (λ b.
          record {
            farther = n;
            behind = let z = ltb-true (order_in t f d) n b in omega (arith, inherits_is);
            within = l;
            of_farther = near.of l;
            of_none = λ h. let z = near.least (order f d) h in let y = ltb-true (order_in t f d) n b in omega (arith, inherits_is, z.0);
          })
          (λ b.
          let same : order f d ≡ n = let y = ltb-false (order_in t f d) n b in let z = no_farther l in omega (arith, inherits_is) in
          record {
            of_line = subst (λ o. OfSome f (starts f d o) w) (sym same) (near.of l);
            before = before_all (order f d) refl same l;
          }))

pub order_few : (s : ℕ → Bool) (f : Family) (d : ℕ) → order_in s f d ≤ 4
order_few s f d =
    near_cases (eqb (length (filter s (children f d))) 0) (eqb (length (filter s (parents f d))) 0) (eqb (length (side_in s f (person f d).mother)) 0)
    (eqb (length (side_in s f (person f d).father)) 0) (λ o. o ≤ 4) (λ _. omega arith) (λ _ _. omega arith) (λ _ _ _. omega arith) (λ _ _ _ _. omega arith)
