-- Laws of links: of lists, and of the words of a family. Assumes nothing.
use Rattle.std.proofs.Common.{◌≡◌, ℕ, zero, suc, ◌+◌, ◌*◌, ◌/◌, ◌%◌, ◌<◌, ◌≤◌, true, false, cond, eqb, List, [], ◌∷◌, ◌++◌, length, get_or, set, replicate, sym, refl, ap, ◌∙◌, subst, ⊎_elim, mod-lt, mul_comm, div-lt_iff_lt-mul, arith}
use native.Mathlib.Nat.{div-add-mod}
use Rattle.std.specs.List.{AllByRecursion}
use Rattle.std.proofs.lemmas.List.{ext_get_or, get_or_past}
use Rattle.std.proofs.ByRecursion.{all-has, has_append_right}
use Rattle.std.proofs.lemmas.Bool.{cases_eq, eq-eqb, ne_eqb, cond-true, cond-false}
use Rattle.std.proofs.lemmas.Bool.Decides.{nat_tests}
use Rattle.law.specs.Family.{Person, person, Family, nobody, children_in, children}
use Rattle.rows.specs.Tables.{table, Wide}
use Rattle.rows.proofs.Tables.{length-table, get_or-table, same_tables, table_zeros}
use Rattle.children.specs.Links.{first_of, last_of, successor, Ascending, behind, link_row}
use Rattle.theory.specs.Families.{SameParents}
use Rattle.theory.proofs.Families.{parents_set}
use Rattle.theory.proofs.Children.{children_same}
use Rattle.children.proofs.Children.{children_ascending, children_past}

-- the last of a list
last_some : (x : ℕ) (xs : List ℕ) → last_of (x ∷ xs) ≡ 0 → ⊥
unfolding last_of
last_some x [] e = omega arith
last_some x (y ∷ ys) e = last_some y ys e

pub all_last : (P : ℕ → Type 0) (xs : List ℕ) (c : ℕ) → AllByRecursion P xs → last_of xs ≡ suc c → P c
unfolding last_of
all_last P [] c a e = absurd (omega arith)
all_last P (x ∷ []) c a e = let q : x ≡ c = omega arith in subst P q a.0
all_last P (x ∷ (y ∷ ys)) c a e = all_last P (y ∷ ys) c a.1 e

-- one more at the end
pub first_push : (xs : List ℕ) (k : ℕ) → first_of (xs ++ (k ∷ [])) ≡ cond (eqb (last_of xs) 0) (suc k) (first_of xs)
unfolding first_of last_of
first_push [] k = refl
first_push (x ∷ xs) k = sym (cond-false (eqb (last_of (x ∷ xs)) 0) (suc k) (suc x) (ne_eqb (last_of (x ∷ xs)) 0 (last_some x xs)))

pub last_push : (xs : List ℕ) (k : ℕ) → last_of (xs ++ (k ∷ [])) ≡ suc k
unfolding last_of
last_push [] k = refl
last_push (x ∷ []) k = refl
last_push (x ∷ (y ∷ ys)) k = last_push (y ∷ ys) k

pub successor_push : (xs : List ℕ) (k c : ℕ) → Ascending xs → successor (xs ++ (k ∷ [])) c ≡ cond (eqb (last_of xs) (suc c)) (suc k) (successor xs c)
unfolding first_of last_of successor Ascending
successor_push [] k c a = grind (arith, nat_tests)
successor_push (x ∷ []) k c a = grind (arith, nat_tests)
successor_push (x ∷ (y ∷ ys)) k c a =
    let ih = successor_push (y ∷ ys) k c a.1 in
    ⊎_elim
    (λ (e : x ≡ c).
    let b : eqb x c ≡ true = eq-eqb x c e in
    let l : eqb (last_of (y ∷ ys)) (suc c) ≡ false = ne_eqb (last_of (y ∷ ys)) (suc c) (λ q. let z = all_last (λ z. x < z) (y ∷ ys) c a.0 q in omega arith) in
    rw (b, l))
    (λ (e : x ≡ c → ⊥).
    let b : eqb x c ≡ false = ne_eqb x c e in
    rw b ih)
    (cases_eq x c)

-- what comes behind c is the first of what stands behind it
pub successor_along : (xs : List ℕ) (c : ℕ) (ys : List ℕ) → Ascending (xs ++ (c ∷ ys)) → successor (xs ++ (c ∷ ys)) c ≡ first_of ys
unfolding successor Ascending
successor_along [] c ys a = cond-true (eqb c c) (first_of ys) (successor ys c) (eq-eqb c c refl)
successor_along (x ∷ xs) c ys a =
    let l : x < c = all-has (λ y. x < y) (xs ++ (c ∷ ys)) c a.0 (has_append_right xs (c ∷ ys) c (0, omega arith, λ _. refl)) in
    cond-false (eqb x c) (first_of (xs ++ (c ∷ ys))) (successor (xs ++ (c ∷ ys)) c) (ne_eqb x c (λ e. omega arith)) ∙ successor_along xs c ys a.1

pub children_successor : (f : Family) (p c : ℕ) (xs ys : List ℕ) → children f p ≡ xs ++ (c ∷ ys) → successor (children f p) c ≡ first_of ys
children_successor f p c xs ys e =
    ap (λ zs. successor zs c) e ∙ successor_along xs c ys (subst Ascending e (children_ascending f p))

-- words that are those of the rows are their table
pub table_ext :
    (w n : ℕ) (row : ℕ → List ℕ) (xs : List ℕ) → 0 < w → Wide w row → length xs ≡ w * n →
    ((p j : ℕ) → p < n → j < w → get_or xs (w * p + j) 0 ≡ get_or (row p) j 0) → xs ≡ table n row
table_ext w n row xs pos wide l at =
    ext_get_or 0 xs (table n row) (l ∙ sym (length-table w n row wide))
    (λ i h.
    let e : w * (i / w) + i % w ≡ i = div-add-mod i w in
    let q : i / w < n = (div-lt_iff_lt-mul pos).1 (omega (arith, mul_comm w n)) in
    let r : i % w < w = mod-lt i pos in
    ap (λ z. get_or xs z 0) (sym e) ∙ at (i / w) (i % w) q r ∙ sym (get_or-table w n row (i / w) (i % w) wide q r) ∙ ap (λ z. get_or (table n row) z 0) e)

-- the words of a family
pub links_wide : (f : Family) → Wide 4 (link_row f)
links_wide f p = refl

pub length-links : (n : ℕ) (f : Family) → length (table n (link_row f)) ≡ 4 * n
length-links n f = length-table 4 n (link_row f) (links_wide f)

pub link_read : (n : ℕ) (f : Family) (p j : ℕ) → p < n → j < 4 → get_or (table n (link_row f)) (4 * p + j) 0 ≡ get_or (link_row f p) j 0
link_read n f p j h l = get_or-table 4 n (link_row f) p j (links_wide f) h l

pub links_none : (n : ℕ) → table n (link_row []) ≡ replicate (4 * n) 0
unfolding children_in first_of last_of behind
links_none n = table_zeros 4 n (link_row []) (λ p h. refl)

-- families with the same parents of everybody
pub behind_same : (f g : Family) (m c : ℕ) → ((p : ℕ) → m ≡ suc p → children g p ≡ children f p) → behind g m c ≡ behind f m c
unfolding behind
behind_same f g zero c same = refl
behind_same f g (suc p) c same = ap (λ xs. successor xs c) (same p refl)

pub link_row_same : (f g : Family) → SameParents f g → (p : ℕ) → link_row g p ≡ link_row f p
link_row_same f g s p =
    let same-children = children_same f g s in
    let m : behind g (person g p).mother p ≡ behind f (person f p).mother p = ap (λ z. behind g z p) (s.mother p) ∙ behind_same f g (person f p).mother p (λ q _. same-children q) in
    let d : behind g (person g p).father p ≡ behind f (person f p).father p = ap (λ z. behind g z p) (s.father p) ∙ behind_same f g (person f p).father p (λ q _. same-children q) in
    λ i. first_of (same-children p i) ∷ (last_of (same-children p i) ∷ (m i ∷ (d i ∷ [])))

-- somebody written over by one with the same parents
pub links_set :
    (n : ℕ) (f : Family) (a : ℕ) (x : Person) → x.mother ≡ (person f a).mother → x.father ≡ (person f a).father → table n (link_row (set f a x)) ≡ table n (link_row f)
links_set n f a x m d =
    same_tables n (link_row (set f a x)) (link_row f) (λ p _. link_row_same f (set f a x) (parents_set f a x m d) p)

-- past the last person there are no links, if all parents are there
pub link_row_past :
    (f : Family) → ((c : ℕ) → ((person f c).mother ≤ length f) × ((person f c).father ≤ length f)) → (p : ℕ) → length f ≤ p → link_row f p ≡ 0 ∷ (0 ∷ (0 ∷ (0 ∷ [])))
unfolding first_of last_of behind
link_row_past f there p h =
    let none : children f p ≡ [] = children_past f there p h in
    let past : person f p ≡ nobody = get_or_past f p nobody h in
    λ i. first_of (none i) ∷ (last_of (none i) ∷ (behind f (past i).mother p ∷ (behind f (past i).father p ∷ [])))
