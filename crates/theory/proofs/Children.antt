-- Children: who they are, and how they change with the family. Assumes nothing.
use Rattle.std.proofs.Common.{◌≡◌, ℕ, zero, suc, ◌+◌, ◌<◌, ◌≤◌, Bool, true, false, cond, ◌||◌, eqb, List, [], ◌∷◌, ◌++◌, length, set, sym, refl, ap, ◌∙◌, subst, ap₂, ⊎_elim, arith}
use Rattle.std.specs.List.{AllByRecursion}
use Rattle.std.proofs.lemmas.List.{length_push, get_or_push, get_or_append_left}
use Rattle.std.proofs.ByRecursion.{All-append}
use Rattle.std.proofs.lemmas.Bool.{cases_eq, or_cases, or_left, or_right, both_ways, cond_both}
use Rattle.law.specs.Family.{Person, person, Family, nobody, is_child, children_in, children, some_of, known, parents}
use Rattle.theory.specs.Families.{SameParents}
use Rattle.theory.proofs.Families.{mother_child, father_child, child_there, child_same, parents_set}

-- each of them is a child
children_in_child : (f : Family) (p n c : ℕ) → AllByRecursion (λ x. is_child f p x ≡ true) (children_in f p n c)
unfolding children_in
children_in_child f p zero c = tt
children_in_child f p (suc n) c =
    cond_both (is_child f p c) (c ∷ children_in f p n (suc c)) (children_in f p n (suc c)) (AllByRecursion (λ x. is_child f p x ≡ true))
    (λ e. (e, children_in_child f p n (suc c))) (λ _. children_in_child f p n (suc c))

pub children_child : (f : Family) (p : ℕ) → AllByRecursion (λ x. is_child f p x ≡ true) (children f p)
children_child f p = children_in_child f p (length f) 0

-- a test that a child passes, some child passes; and the other way round
some_in : (f : Family) (g : ℕ → Bool) (p x n c : ℕ) → is_child f p x ≡ true → g x ≡ true → c ≤ x → x < c + n → some_of g (children_in f p n c) ≡ true
unfolding children_in some_of
some_in f g p x zero c k e a b = absurd (omega arith)
some_in f g p x (suc n) c k e a b =
    ⊎_elim
    (λ (q : c ≡ x).
    subst (λ (t : Bool). some_of g (cond t (c ∷ children_in f p n (suc c)) (children_in f p n (suc c))) ≡ true) (sym (ap (λ (z : ℕ). is_child f p z) q ∙ k))
    (or_left (g c) (some_of g (children_in f p n (suc c))) (ap g q ∙ e)))
    (λ (q : c ≡ x → ⊥).
    let ih = some_in f g p x n (suc c) k e (omega arith) (omega arith) in
    cond_both (is_child f p c) (c ∷ children_in f p n (suc c)) (children_in f p n (suc c)) (λ (cs : List ℕ). some_of g cs ≡ true)
    (λ _. or_right (g c) (some_of g (children_in f p n (suc c))) ih) (λ _. ih))
    (cases_eq c x)

pub some_child : (f : Family) (g : ℕ → Bool) (p c : ℕ) → is_child f p c ≡ true → g c ≡ true → some_of g (children f p) ≡ true
some_child f g p c k e = let l = child_there f p c k in some_in f g p c (length f) 0 k e (omega arith) (omega arith)

which_of : (f : Family) (g : ℕ → Bool) (p : ℕ) (cs : List ℕ) → AllByRecursion (λ c. is_child f p c ≡ true) cs → some_of g cs ≡ true → (c : ℕ) × (is_child f p c ≡ true) × (g c ≡ true)
unfolding some_of
which_of f g p [] a e = absurd (both_ways false refl e)
which_of f g p (c ∷ cs) a e = ⊎_elim (λ h. (c, a.0, h)) (λ h. which_of f g p cs a.1 h) (or_cases (g c) (some_of g cs) e)

pub child_of_some : (f : Family) (g : ℕ → Bool) (p : ℕ) → some_of g (children f p) ≡ true → (c : ℕ) × (is_child f p c ≡ true) × (g c ≡ true)
child_of_some f g p e = which_of f g p (children f p) (children_child f p) e

-- a family with the same children in a stretch
pub children_cong : (f g : Family) (p n c : ℕ) → ((k : ℕ) → c ≤ k → k < c + n → is_child g p k ≡ is_child f p k) → children_in g p n c ≡ children_in f p n c
unfolding children_in
children_cong f g p zero c h = refl
children_cong f g p (suc n) c h =
    ap₂ (λ (x : Bool) (xs : List ℕ). cond x (c ∷ xs) xs) (h c (omega arith) (omega arith)) (children_cong f g p n (suc c) (λ k a b. h k (omega arith) (omega arith)))

pub children_same : (f g : Family) → SameParents f g → (p : ℕ) → children g p ≡ children f p
children_same f g s p = ap (λ (k : ℕ). children_in g p k 0) s.size ∙ children_cong f g p (length f) 0 (λ k _ _. child_same f g s p k)

pub children_set : (f : Family) (a : ℕ) (x : Person) → x.mother ≡ (person f a).mother → x.father ≡ (person f a).father → (p : ℕ) → children (set f a x) p ≡ children f p
children_set f a x m d p = children_same f (set f a x) (parents_set f a x m d) p

-- one more in a stretch, at its end
pub children_in_more : (f : Family) (p n c : ℕ) → children_in f p (suc n) c ≡ children_in f p n c ++ cond (is_child f p (c + n)) ((c + n) ∷ []) []
unfolding children_in
children_in_more f p zero c = ap (λ (k : ℕ). cond (is_child f p k) (k ∷ []) []) (let e : c ≡ c + 0 = omega arith in e)
children_in_more f p (suc n) c =
    ap (λ (xs : List ℕ). cond (is_child f p c) (c ∷ xs) xs)
    (children_in_more f p n (suc c) ∙ ap (λ (k : ℕ). children_in f p n (suc c) ++ cond (is_child f p k) (k ∷ []) []) (let e : suc c + n ≡ c + suc n = omega arith in e))
    ∙ out (is_child f p c) (children_in f p n (suc c)) (cond (is_child f p (c + suc n)) ((c + suc n) ∷ []) [])
  where
    out : (t : Bool) (xs ys : List ℕ) → cond t (c ∷ (xs ++ ys)) (xs ++ ys) ≡ cond t (c ∷ xs) xs ++ ys
    out true xs ys = refl
    out false xs ys = refl

-- a family with one more: the others have the children that they had, and the new one is a child of their parents, behind the others
pub child_old : (f : Family) (x : Person) (p c : ℕ) → c < length f → is_child (f ++ x ∷ []) p c ≡ is_child f p c
child_old f x p c l = ap (λ (z : Person). eqb z.mother (suc p) || eqb z.father (suc p)) (get_or_append_left f (x ∷ []) nobody c l)

pub child_more : (f : Family) (x : Person) (p c : ℕ) → is_child f p c ≡ true → is_child (f ++ x ∷ []) p c ≡ true
child_more f x p c k = child_old f x p c (child_there f p c k) ∙ k

pub children_push : (f : Family) (x : Person) (p : ℕ)
    → children (f ++ x ∷ []) p ≡ children f p ++ cond (eqb x.mother (suc p) || eqb x.father (suc p)) (length f ∷ []) []
children_push f x p =
    ap (λ (k : ℕ). children_in (f ++ x ∷ []) p k 0) (let e : length (f ++ x ∷ []) ≡ suc (length f) = omega (arith, length_push f x) in e)
    ∙ (children_in_more (f ++ x ∷ []) p (length f) 0
    ∙ ap₂ (λ (xs ys : List ℕ). xs ++ ys) (children_cong f (f ++ x ∷ []) p (length f) 0 (λ k _ l. child_old f x p k (omega arith)))
    (ap (λ (k : ℕ). cond (is_child (f ++ x ∷ []) p k) (k ∷ []) []) (let e : 0 + length f ≡ length f = omega arith in e)
    ∙ ap (λ (z : Person). cond (eqb z.mother (suc p) || eqb z.father (suc p)) (length f ∷ []) []) (get_or_push f x nobody (length f) refl)))

-- parents are those whose child somebody is
known_all : (P : ℕ → Type 0) (m : ℕ) → ((q : ℕ) → m ≡ suc q → P q) → AllByRecursion P (known m)
unfolding known
known_all P zero h = tt
known_all P (suc m) h = (h m refl, tt)

pub parents_parent : (f : Family) (p : ℕ) → AllByRecursion (λ q. is_child f q p ≡ true) (parents f p)
parents_parent f p =
    All-append (λ q. is_child f q p ≡ true) (known (person f p).mother) (known (person f p).father)
    (known_all (λ q. is_child f q p ≡ true) (person f p).mother (λ q e. mother_child f q p e))
    (known_all (λ q. is_child f q p ≡ true) (person f p).father (λ q e. father_child f q p e))

pub parents_same : (f g : Family) → SameParents f g → (p : ℕ) → parents g p ≡ parents f p
parents_same f g s p = ap₂ (λ (x y : ℕ). known x ++ known y) (s.mother p) (s.father p)
