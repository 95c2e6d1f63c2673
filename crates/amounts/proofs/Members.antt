-- Who is in a list, and how long a list is in which each is there once. Assumes nothing.
use Rattle.std.proofs.Common.{◌≡◌, ℕ, zero, suc, ◌+◌, ◌<◌, ◌≤◌, Bool, true, false, cond, ◌||◌, eqb, ◌≢◌, ◌⊎◌, List, [], ◌∷◌, length, sym, refl, ap, ◌∙◌, subst, ap₂, inl, inr, ⊎_elim, arith}
use Rattle.std.specs.List.{AllByRecursion}
use Rattle.std.proofs.lemmas.Bool.{cases_eq, eq-eqb, ne_eqb, eqb-true, eqb-false, or_left, or_right, or_cases, or_parts, both_ways, cond_both}
use Rattle.law.specs.Family.{some_of}
use Rattle.amounts.specs.Passes.{is_in, InDescentOrder}

pub in_here : (p : ℕ) (ps : List ℕ) → is_in p (p ∷ ps) ≡ true
unfolding some_of
in_here p ps = or_left (eqb p p) (is_in p ps) (eq-eqb p p refl)

pub in_later : (p q : ℕ) (ps : List ℕ) → is_in p ps ≡ true → is_in p (q ∷ ps) ≡ true
unfolding some_of
in_later p q ps h = or_right (eqb p q) (is_in p ps) h

pub in_cases : (p q : ℕ) (ps : List ℕ) → is_in p (q ∷ ps) ≡ true → (p ≡ q) ⊎ (is_in p ps ≡ true)
unfolding some_of
in_cases p q ps h = ⊎_elim (λ e. inl (eqb-true p q e)) (λ e. inr e) (or_cases (eqb p q) (is_in p ps) h)

pub in_none : (p : ℕ) → is_in p [] ≡ true → ⊥
unfolding some_of
in_none p h = both_ways false refl h

pub out_parts : (p q : ℕ) (ps : List ℕ) → is_in p (q ∷ ps) ≡ false → (p ≢ q) × (is_in p ps ≡ false)
unfolding some_of
out_parts p q ps h = let r = or_parts (eqb p q) (is_in p ps) h in (eqb-false p q r.0, r.1)

-- one who is in a list is not one who isn't
pub in_not : (p q : ℕ) (ps : List ℕ) → is_in p ps ≡ true → is_in q ps ≡ false → p ≢ q
in_not p q ps h k e = both_ways (is_in q ps) k (ap (λ (x : ℕ). is_in x ps) (sym e) ∙ h)

-- what holds of all holds of whoever is in the list, and the other way round
pub all_in : (P : ℕ → Type 0) (ps : List ℕ) → AllByRecursion P ps → (p : ℕ) → is_in p ps ≡ true → P p
all_in P [] a p h = absurd (in_none p h)
all_in P (q ∷ qs) a p h = ⊎_elim (λ (e : p ≡ q). subst P (sym e) a.0) (λ e. all_in P qs a.1 p e) (in_cases p q qs h)

pub in_all : (P : ℕ → Type 0) (ps : List ℕ) → ((p : ℕ) → is_in p ps ≡ true → P p) → AllByRecursion P ps
in_all P [] h = tt
in_all P (q ∷ qs) h = (h q (in_here q qs), in_all P qs (λ p k. h p (in_later p q qs k)))

-- each is there once
unfoldable pub Once : List ℕ → Type 0
Once [] = Unit {0}
Once (q ∷ qs) = (is_in q qs ≡ false) × Once qs

pub order_once : (below : ℕ → List ℕ) (qs : List ℕ) → InDescentOrder below qs → Once qs
unfolding Once InDescentOrder
order_once below [] h = tt
order_once below (q ∷ qs) h = (h.0, order_once below qs h.2)

-- how many of the first n are in a list
how_many_in : ℕ → List ℕ → ℕ
how_many_in zero ps = 0
how_many_in (suc n) ps = cond (is_in n ps) 1 0 + how_many_in n ps

in_most : (n : ℕ) (ps : List ℕ) → how_many_in n ps ≤ n
unfolding how_many_in
in_most zero ps = omega arith
in_most (suc n) ps = let y = in_most n ps in cond_both (is_in n ps) 1 0 (λ (k : ℕ). k + how_many_in n ps ≤ suc n) (λ _. omega arith) (λ _. omega arith)

in_past : (n p : ℕ) (ps : List ℕ) → n ≤ p → how_many_in n (p ∷ ps) ≡ how_many_in n ps
unfolding how_many_in some_of
in_past zero p ps l = refl
in_past (suc n) p ps l = ap₂ (λ (t : Bool) (k : ℕ). cond (t || is_in n ps) 1 0 + k) (ne_eqb n p (λ e. omega arith)) (in_past n p ps (omega arith))

in_more : (n p : ℕ) (ps : List ℕ) → p < n → is_in p ps ≡ false → how_many_in n (p ∷ ps) ≡ suc (how_many_in n ps)
unfolding how_many_in some_of
in_more zero p ps l h = absurd (omega arith)
in_more (suc n) p ps l h =
    ⊎_elim
    (λ (e : p ≡ n).
    let a : is_in n ps ≡ false = ap (λ (k : ℕ). is_in k ps) (sym e) ∙ h in
    let b : how_many_in n (p ∷ ps) ≡ how_many_in n ps = in_past n p ps (omega arith) in
    rw (eq-eqb n p (sym e), a, b) (omega arith))
    (λ (e : p ≡ n → ⊥).
    let b : how_many_in n (p ∷ ps) ≡ suc (how_many_in n ps) = in_more n p ps (omega arith) h in
    rw (ne_eqb n p (λ g. e (sym g)), b) (omega arith))
    (cases_eq p n)

-- persons below n, each once, are no more than n
pub once_most : (n : ℕ) (ps : List ℕ) → Once ps → AllByRecursion (λ p. p < n) ps → length ps ≤ n
once_most n ps o a = let e = counted ps o a in let y = in_most n ps in omega arith
  where
    parts : (p : ℕ) (ps : List ℕ) → Once (p ∷ ps) → (is_in p ps ≡ false) × Once ps
    parts p ps o = unfold Once in o

    counted : (ps : List ℕ) → Once ps → AllByRecursion (λ p. p < n) ps → length ps ≤ how_many_in n ps
    counted [] o a = omega arith
    counted (p ∷ ps) o a = let r = parts p ps o in let y = counted ps r.1 a.1 in let e = in_more n p ps a.0 r.0 in omega arith
