-- Children: who they are, in which order, and how they change with the family. Assumes nothing.
use Rattle.std.proofs.Common.{◌≡◌, ℕ, zero, suc, ◌<◌, ◌≤◌, true, List, [], ◌∷◌, ◌++◌, length, sym, refl, ◌∙◌, ⊎_elim, arith}
use Rattle.std.specs.List.{AllByRecursion}
use Rattle.std.proofs.lemmas.List.{length_push, get_or_push, get_or_append_left, get_or_past}
use Rattle.std.proofs.ByRecursion.{All-weaker}
use Rattle.std.proofs.lemmas.Bool.{cases_lt, cond_both}
use Rattle.theory.proofs.Families.{parent_cases, child_there}
use Rattle.theory.proofs.Children.{children_child}
use Rattle.law.specs.Family.{Person, person, Family, nobody, is_child, children_in, children}
use Rattle.children.specs.Links.{Ascending}

-- the children in a stretch stand by number, and are no more than the stretch is long
children_in_from : (f : Family) (p n c : ℕ) → AllByRecursion (λ x. c ≤ x) (children_in f p n c)
unfolding children_in
children_in_from f p zero c = tt
children_in_from f p (suc n) c =
    let rest = All-weaker (λ x. suc c ≤ x) (λ x. c ≤ x) (λ x h. omega arith) (children_in f p n (suc c)) (children_in_from f p n (suc c)) in
    cond_both (is_child f p c) (c ∷ children_in f p n (suc c)) (children_in f p n (suc c)) (AllByRecursion (λ x. c ≤ x)) (λ _. (omega arith, rest)) (λ _. rest)

children_in_ascending : (f : Family) (p n c : ℕ) → Ascending (children_in f p n c)
unfolding children_in Ascending
children_in_ascending f p zero c = tt
children_in_ascending f p (suc n) c =
    let rest = children_in_ascending f p n (suc c) in
    cond_both (is_child f p c) (c ∷ children_in f p n (suc c)) (children_in f p n (suc c)) Ascending (λ _. (children_in_from f p n (suc c), rest)) (λ _. rest)

children_in_few : (f : Family) (p n c : ℕ) → length (children_in f p n c) ≤ n
unfolding children_in
children_in_few f p zero c = omega arith
children_in_few f p (suc n) c =
    let rest = children_in_few f p n (suc c) in
    cond_both (is_child f p c) (c ∷ children_in f p n (suc c)) (children_in f p n (suc c)) (λ cs. length cs ≤ suc n) (λ _. omega arith) (λ _. omega arith)

-- the children of p are there, stand by number, and are no more than persons
pub children_there : (f : Family) (p : ℕ) → AllByRecursion (λ x. x < length f) (children f p)
children_there f p = All-weaker (λ x. is_child f p x ≡ true) (λ x. x < length f) (λ x k. child_there f p x k) (children f p) (children_child f p)

pub children_ascending : (f : Family) (p : ℕ) → Ascending (children f p)
children_ascending f p = children_in_ascending f p (length f) 0

pub length-children : (f : Family) (p : ℕ) → length (children f p) ≤ length f
length-children f p = children_in_few f p (length f) 0

-- past the last person nobody has a child, if all parents are there
none_of : {P : ℕ → Type 0} → ((x : ℕ) → P x → ⊥) → (xs : List ℕ) → AllByRecursion P xs → xs ≡ []
none_of none [] a = refl
none_of none (x ∷ xs) a = absurd (none x a.0)

pub children_past : (f : Family) → ((c : ℕ) → ((person f c).mother ≤ length f) × ((person f c).father ≤ length f)) → (p : ℕ) → length f ≤ p → children f p ≡ []
children_past f there p h =
    none_of
    (λ c k.
    let t = there c in
    ⊎_elim (λ (e : (person f c).mother ≡ suc p). omega arith) (λ (e : (person f c).father ≡ suc p). omega arith) (parent_cases f p c k))
    (children f p) (children_child f p)

-- a family with one more: who was there, and past the new one still nobody
pub person_other : (f : Family) (x : Person) (c : ℕ) → (c ≡ length f → ⊥) → person (f ++ (x ∷ [])) c ≡ person f c
person_other f x c ne =
    ⊎_elim (λ (l : c < length f). get_or_append_left f (x ∷ []) nobody c l)
    (λ (l : length f ≤ c). get_or_past (f ++ (x ∷ [])) c nobody (omega (arith, length_push f x)) ∙ sym (get_or_past f c nobody l)) (cases_lt c (length f))

pub person_last : (f : Family) (x : Person) → person (f ++ (x ∷ [])) (length f) ≡ x
person_last f x = get_or_push f x nobody (length f) refl
