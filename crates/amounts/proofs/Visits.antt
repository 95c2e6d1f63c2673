-- How often the passes meet somebody: from their mother and from their father. Assumes nothing.
use Rattle.std.proofs.Common.{◌≡◌, ℕ, zero, suc, ◌+◌, ◌*◌, ◌<◌, ◌≤◌, Bool, true, false, cond, ◌&&◌, ◌||◌, eqb, ◌≢◌, List, [], ◌∷◌, length, sum_by, count_by, filter, sym, refl, ap, ◌∙◌, ⊎_elim, arith}
use Rattle.std.specs.List.{range_with_len, AllByRecursion}
use Rattle.std.proofs.lemmas.List.FromFn.{length-range_with_len}
use Rattle.std.proofs.lemmas.List.Sums.{sum_by-cons}
use Rattle.std.proofs.ByRecursion.{sum_by_le}
use Rattle.std.proofs.lemmas.Bool.{cases_Bool, eq-eqb, ne_eqb, eqb-true, and_parts, and_right, cond-true, cond-false, cond_both}
use Rattle.law.specs.Family.{person, Family, is_child, children_in, children, some_of, line_lives}
use Rattle.theory.specs.Living.{lines_below}
use Rattle.theory.proofs.Lists.{all_any, all_both}
use Rattle.theory.proofs.Lines.{below_child}
use Rattle.amounts.specs.Passes.{is_in, InDescentOrder}
use Rattle.amounts.specs.Lines.{divided_among}
use Rattle.amounts.specs.Statements.{Listing, MetFromTwo}
use Rattle.amounts.proofs.Members.{Once, order_once, in_none, in_cases, out_parts, in_later}

-- sums over two lists, in either order
sum_zero : {X : Type 0} (h : X → ℕ) (xs : List X) → ((x : X) → h x ≡ 0) → sum_by h xs ≡ 0
sum_zero h [] e = refl
sum_zero h (x ∷ xs) e = let a = e x in let b = sum_zero h xs e in let c = sum_by-cons h x xs in omega arith

sum_plus : {X : Type 0} (h k m : X → ℕ) (xs : List X) → ((x : X) → m x ≡ h x + k x) → sum_by m xs ≡ sum_by h xs + sum_by k xs
sum_plus h k m [] e = refl
sum_plus h k m (x ∷ xs) e =
    let a = e x in
    let b = sum_plus h k m xs e in
    let c = sum_by-cons h x xs in
    let d = sum_by-cons k x xs in
    let f = sum_by-cons m x xs in
    omega arith

sum_swap : (h : ℕ → ℕ → ℕ) (xs ys : List ℕ) → sum_by (λ x. sum_by (λ y. h x y) ys) xs ≡ sum_by (λ y. sum_by (λ x. h x y) xs) ys
sum_swap h [] ys = sym (sum_zero (λ y. sum_by (λ x. h x y) []) ys (λ y. refl))
sum_swap h (x ∷ xs) ys =
    let a = sum_by-cons (λ z. sum_by (λ y. h z y) ys) x xs in
    let b = sum_swap h xs ys in
    let c =
    sum_plus (λ y. h x y) (λ y. sum_by (λ z. h z y) xs) (λ y. sum_by (λ z. h z y) (x ∷ xs)) ys (λ y. sum_by-cons (λ z. h z y) x xs) in
    omega arith

sum_less : {X : Type 0} (h k : X → ℕ) (xs : List X) → AllByRecursion (λ x. h x ≤ k x) xs → sum_by h xs ≤ sum_by k xs
sum_less h k [] a = omega arith
sum_less h k (x ∷ xs) a = let l = a.0 in let r = sum_less h k xs a.1 in let c = sum_by-cons h x xs in let d = sum_by-cons k x xs in omega arith

-- a test that only one number passes is passed at most once where each is there once
none_passes : (t : ℕ → Bool) (q : ℕ) (qs : List ℕ) → ((x : ℕ) → t x ≡ true → x ≡ q) → is_in q qs ≡ false → count_by t qs ≡ 0
none_passes t q [] h n = refl
none_passes t q (x ∷ xs) h n =
    let r = out_parts q x xs n in
    let a = none_passes t q xs h r.1 in
    let c = sum_by-cons (λ (y : ℕ). cond {A = ℕ} (t y) 1 0) x xs in
    ⊎_elim (λ (e : t x ≡ true). absurd (r.0 (sym (h x e)))) (λ (e : t x ≡ false). let z = cond-false {A = ℕ} (t x) 1 0 e in omega arith) (cases_Bool (t x))

once_passes : (t : ℕ → Bool) (qs : List ℕ) → ((x y : ℕ) → t x ≡ true → t y ≡ true → x ≡ y) → Once qs → count_by t qs ≤ 1
unfolding Once
once_passes t [] h o = omega arith
once_passes t (q ∷ qs) h o =
    let c = sum_by-cons (λ (y : ℕ). cond {A = ℕ} (t y) 1 0) q qs in
    ⊎_elim
    (λ (e : t q ≡ true). let z = cond-true {A = ℕ} (t q) 1 0 e in let n = none_passes t q qs (λ x k. h x q k e) o.0 in omega arith)
    (λ (e : t q ≡ false). let z = cond-false {A = ℕ} (t q) 1 0 e in let r = once_passes t qs h o.1 in omega arith) (cases_Bool (t q))

-- of several, each once, at most two are somebody's parents
either_passes : (s t : ℕ → Bool) (qs : List ℕ) → count_by (λ q. s q || t q) qs ≤ count_by s qs + count_by t qs
either_passes s t [] = omega arith
either_passes s t (q ∷ qs) =
    let a = either_passes s t qs in
    let c = sum_by-cons (λ (y : ℕ). cond {A = ℕ} (s y || t y) 1 0) q qs in
    let d = sum_by-cons (λ (y : ℕ). cond {A = ℕ} (s y) 1 0) q qs in
    let e = sum_by-cons (λ (y : ℕ). cond {A = ℕ} (t y) 1 0) q qs in
    let l = one (s q) (t q) in
    omega arith
  where
    one : (x y : Bool) → cond {A = ℕ} (x || y) 1 0 ≤ cond {A = ℕ} x 1 0 + cond {A = ℕ} y 1 0
    one true y = omega arith
    one false y = omega arith

two_parents : (g : Family) (c : ℕ) (os : List ℕ) → Once os → count_by (λ q. is_child g q c) os ≤ 2
two_parents g c os o =
    let e = either_passes (λ q. eqb (person g c).mother (suc q)) (λ q. eqb (person g c).father (suc q)) os in
    let a = once_passes (λ q. eqb (person g c).mother (suc q)) os (only (person g c).mother) o in
    let b = once_passes (λ q. eqb (person g c).father (suc q)) os (only (person g c).father) o in
    omega arith
  where
    only : (m x y : ℕ) → eqb m (suc x) ≡ true → eqb m (suc y) ≡ true → x ≡ y
    only m x y h k = let a = eqb-true m (suc x) h in let b = eqb-true m (suc y) k in omega arith

-- those of a list who pass a test, each once, are no more than all who do
passes_some : (P : ℕ → Bool) (x : ℕ) (os : List ℕ) → is_in x os ≡ true → P x ≡ true → 1 ≤ count_by (λ o. eqb x o && P o) os
passes_some P x [] h p = absurd (in_none x h)
passes_some P x (o ∷ os) h p =
    let c = sum_by-cons (λ (y : ℕ). cond {A = ℕ} (eqb x y && P y) 1 0) o os in
    ⊎_elim
    (λ (e : x ≡ o).
    let z : (eqb x o && P o) ≡ true = rw (eq-eqb x o e) (ap P (sym e) ∙ p) in
    let k = cond-true {A = ℕ} (eqb x o && P o) 1 0 z in
    omega arith)
    (λ (k : is_in x os ≡ true). let r = passes_some P x os k p in omega arith) (in_cases x o os h)

pub sub_count : (P : ℕ → Bool) (xs os : List ℕ) → Once xs → AllByRecursion (λ x. (is_in x os ≡ true) × (P x ≡ true)) xs → length xs ≤ count_by P os
sub_count P xs os o a =
    let l : length xs ≤ sum_by (λ x. count_by (λ y. eqb x y && P y) os) xs = each xs a in
    let s : sum_by (λ x. count_by (λ y. eqb x y && P y) os) xs ≡ sum_by (λ y. count_by (λ x. eqb x y && P y) xs) os =
    sum_swap (λ x y. cond {A = ℕ} (eqb x y && P y) 1 0) xs os in
    let m : sum_by (λ y. count_by (λ x. eqb x y && P y) xs) os ≤ count_by P os =
    sum_less (λ y. count_by (λ x. eqb x y && P y) xs) (λ y. cond {A = ℕ} (P y) 1 0) os (all_any (λ y. count_by (λ x. eqb x y && P y) xs ≤ cond {A = ℕ} (P y) 1 0) most os) in
    omega arith
  where
    each : (ys : List ℕ) → AllByRecursion (λ x. (is_in x os ≡ true) × (P x ≡ true)) ys → length ys ≤ sum_by (λ x. count_by (λ y. eqb x y && P y) os) ys
    each [] h = omega arith
    each (y ∷ ys) h =
        let c = sum_by-cons (λ x. count_by (λ z. eqb x z && P z) os) y ys in
        let p = passes_some P y os h.0.0 h.0.1 in
        let r = each ys h.1 in
        omega arith

    both_true : (x y : ℕ) → (eqb x y && P y) ≡ true → x ≡ y
    both_true x y h = eqb-true x y (and_parts (eqb x y) (P y) h).0

    most : (y : ℕ) → count_by (λ x. eqb x y && P y) xs ≤ cond {A = ℕ} (P y) 1 0
    most y =
        ⊎_elim
        (λ (e : P y ≡ true).
        let z = cond-true {A = ℕ} (P y) 1 0 e in
        let r = once_passes (λ x. eqb x y && P y) xs (λ u v h k. let a = both_true u y h in let b = both_true v y k in omega arith) o in
        omega arith)
        (λ (e : P y ≡ false).
        let r = sum_zero (λ x. cond {A = ℕ} (eqb x y && P y) 1 0) xs (λ x. cond-false {A = ℕ} (eqb x y && P y) 1 0 (and_right (eqb x y) (P y) e)) in
        omega arith)
        (cases_Bool (P y))

-- somebody's children are each there once
children_past : (g : Family) (p n c q : ℕ) → q < c → is_in q (children_in g p n c) ≡ false
unfolding children_in some_of
children_past g p zero c q l = refl
children_past g p (suc n) c q l =
    cond_both (is_child g p c) (c ∷ children_in g p n (suc c)) (children_in g p n (suc c)) (λ (cs : List ℕ). is_in q cs ≡ false)
    (λ _. rw (ne_eqb q c (λ e. omega arith)) (children_past g p n (suc c) q (omega arith))) (λ _. children_past g p n (suc c) q (omega arith))

children_once_in : (g : Family) (p n c : ℕ) → Once (children_in g p n c)
unfolding children_in Once
children_once_in g p zero c = tt
children_once_in g p (suc n) c =
    cond_both (is_child g p c) (c ∷ children_in g p n (suc c)) (children_in g p n (suc c)) Once (λ _. (children_past g p n (suc c) c (omega arith), children_once_in g p n (suc c)))
    (λ _. children_once_in g p n (suc c))

pub children_once : (g : Family) (p : ℕ) → Once (children g p)
children_once g p = children_once_in g p (length g) 0

kept_out : (t : ℕ → Bool) (q : ℕ) (xs : List ℕ) → is_in q xs ≡ false → is_in q (filter t xs) ≡ false
kept_out t q [] h = h
kept_out t q (x ∷ xs) h =
    let r = out_parts q x xs h in
    cond_both (t x) (x ∷ filter t xs) (filter t xs) (λ (ys : List ℕ). is_in q ys ≡ false) (λ _. out_more q x (filter t xs) r.0 (kept_out t q xs r.1))
    (λ _. kept_out t q xs r.1)
  where
    out_more : (q x : ℕ) (ys : List ℕ) → q ≢ x → is_in q ys ≡ false → is_in q (x ∷ ys) ≡ false
    out_more q x ys n k = unfold some_of in (rw (ne_eqb q x n) k)

pub kept_once : (t : ℕ → Bool) (xs : List ℕ) → Once xs → Once (filter t xs)
unfolding Once
kept_once t [] o = tt
kept_once t (x ∷ xs) o =
    cond_both (t x) (x ∷ filter t xs) (filter t xs) Once (λ _. (kept_out t x xs o.0, kept_once t xs o.1)) (λ _. kept_once t xs o.1)

pub divided_among_once : (g : Family) (p : ℕ) → Once (divided_among g p)
unfolding Once
divided_among_once g p =
    cond_both (person g p).lives [] (lines_below g (length g) p) Once (λ _. tt) (λ _. kept_once (λ c. line_lives g (length g) c) (children g p) (children_once g p))

pub divided_among_children : (g : Family) (p : ℕ) → AllByRecursion (λ c. is_child g p c ≡ true) (divided_among g p)
divided_among_children g p =
    cond_both (person g p).lives [] (lines_below g (length g) p) (AllByRecursion (λ c. is_child g p c ≡ true)) (λ _. tt) (λ _. below_child g (length g) p)

-- how many children
children_counted : (g : Family) (p n c : ℕ) → length (children_in g p n c) ≡ count_by (λ x. is_child g p x) (range_with_len c n)
unfolding children_in
children_counted g p zero c = refl
children_counted g p (suc n) c =
    let e : suc c ≡ c + 1 = omega arith in
    let r : length (children_in g p n (suc c)) ≡ count_by (λ x. is_child g p x) (range_with_len (c + 1) n) =
    children_counted g p n (suc c) ∙ ap (λ (k : ℕ). count_by (λ x. is_child g p x) (range_with_len k n)) e in
    let a = sum_by-cons (λ (x : ℕ). cond {A = ℕ} (is_child g p x) 1 0) c (range_with_len (c + 1) n) in
    cond_both (is_child g p c) (c ∷ children_in g p n (suc c)) (children_in g p n (suc c)) (λ (cs : List ℕ). length cs ≡ count_by (λ x. is_child g p x) (range_with_len c (suc n)))
    (λ h. let z = cond-true {A = ℕ} (is_child g p c) 1 0 h in omega arith) (λ h. let z = cond-false {A = ℕ} (is_child g p c) 1 0 h in omega arith)

module _ (g : Family) (os : List ℕ) (h : Listing g os) where
  once : Once os
  once = order_once (divided_among g) os h.order

  -- from all who are listed, nobody among several is met more than twice
  met_most : (ds : List ℕ) → sum_by (λ q. count_by (λ c. is_child g q c) ds) os ≤ length ds * 2
  met_most ds =
      let s = sum_swap (λ q c. cond {A = ℕ} (is_child g q c) 1 0) os ds in
      let m = sum_by_le (λ c. count_by (λ q. is_child g q c) os) 2 ds (all_any (λ c. count_by (λ q. is_child g q c) os ≤ 2) (λ c. two_parents g c os once) ds) in
      omega arith

  lines_met : sum_by (λ q. length (divided_among g q)) os ≤ 2 * length os
  lines_met =
      let l = sum_less (λ q. length (divided_among g q)) (λ q. count_by (λ c. is_child g q c) os) os (each os h.order (λ c k. k)) in
      let m = met_most os in
      omega arith
    where
      each : (qs : List ℕ) → InDescentOrder (divided_among g) qs → ((c : ℕ) → is_in c qs ≡ true → is_in c os ≡ true)
          → AllByRecursion (λ q. length (divided_among g q) ≤ count_by (λ c. is_child g q c) os) qs
      each [] t k = tt
      each (q ∷ qs) t k =
          let r = parts q qs t in (
            sub_count (λ c. is_child g q c) (divided_among g q) os (divided_among_once g q)
                (all_both (λ c. is_in c qs ≡ true) (λ c. is_child g q c ≡ true) (λ c. (is_in c os ≡ true) × (is_child g q c ≡ true)) (λ c i v. (k c (in_later c q qs i), v))
                (divided_among g q) r.0 (divided_among_children g q)),
            each qs r.1 (λ c i. k c (in_later c q qs i)),
          )
        where
          parts : (q : ℕ) (qs : List ℕ) → InDescentOrder (divided_among g) (q ∷ qs) → AllByRecursion (λ c. is_in c qs ≡ true) (divided_among g q) × InDescentOrder (divided_among g) qs
          parts q qs t = unfold InDescentOrder in (t.1, t.2)

  children_met : sum_by (λ q. length (children g q)) os ≤ 2 * length g
  children_met =
      let e = sum_less (λ q. length (children g q)) (λ q. count_by (λ c. is_child g q c) (range_with_len 0 (length g))) os
      (all_any (λ q. length (children g q) ≤ count_by (λ c. is_child g q c) (range_with_len 0 (length g))) (λ q. let z = children_counted g q (length g) 0 in omega arith) os) in
      let m = met_most (range_with_len 0 (length g)) in
      let k = length-range_with_len 0 (length g) in
      omega arith

pub met_from_two : MetFromTwo
unfolding MetFromTwo
met_from_two g os h = (lines_met g os h, children_met g os h)
