-- Somebody's children found by looking at one person after the other. Assumes nothing.
use Rattle.std.proofs.Common.{◌≡◌, ℕ, zero, suc, ◌+◌, ◌-◌, ◌<◌, ◌≤◌, Bool, true, false, cond, ◌⊎◌, inl, inr, Some, Option, List, [], ◌∷◌, ◌++◌, length, get_or, sym, refl, ap, ◌∙◌, subst, ⊎_elim, zero-add, arith}
use mathlib.Core.Bool.{false≢true}
use Rattle.std.specs.Bool.{MatchBool}
use Rattle.std.specs.List.{find, range_with_len, AllWithin, HoldsAt, AllByRecursion}
use Rattle.std.specs.Option.{IfSome, MatchOption}
use Rattle.std.specs.declared.ops.Range.{Range}
use Rattle.std.proofs.lemmas.Iterator.{YieldsList}
use Rattle.std.proofs.lemmas.Iterator.Consumers.{YieldsList-from_shown}
use Rattle.std.proofs.lemmas.List.{append-nil}
use Rattle.std.proofs.lemmas.List.Elements.{All-from_get_or}
use Rattle.std.proofs.lemmas.List.FromFn.{get_or-range_with_len, length-range_with_len}
use Rattle.std.proofs.lemmas.Iterator.Search.{true_from_All}
use Rattle.std.proofs.lemmas.Bool.{cases_Bool, cond_both, cond-true, cond-false}
use Rattle.law.specs.Family.{person, Family, is_child, children_in, children}
use Rattle.theory.proofs.Families.{mother_child, father_child}
use Rattle.theory.proofs.Children.{children_in_more}
use Rattle.children.specs.Links.{first_of, last_of, successor, behind}
use Rattle.children.proofs.Links.{last_push, children_successor}
use Rattle.people.specs.Persons.{link_of}

-- the children among the persons from c on, up to the k-th: c is the first of them, or they are those from the next on, or there are none
from_here : (f : Family) (p n c : ℕ) → is_child f p c ≡ true → children_in f p (suc n) c ≡ c ∷ children_in f p n (suc c)
unfolding children_in
from_here f p n c e = cond-true (is_child f p c) (c ∷ children_in f p n (suc c)) (children_in f p n (suc c)) e

from_next : (f : Family) (p n c : ℕ) → is_child f p c ≡ false → children_in f p (suc n) c ≡ children_in f p n (suc c)
unfolding children_in
from_next f p n c e = cond-false (is_child f p c) (c ∷ children_in f p n (suc c)) (children_in f p n (suc c)) e

pub child_here : (f : Family) (p k c : ℕ) → c < k → is_child f p c ≡ true → children_in f p (k - c) c ≡ c ∷ children_in f p (k - (c + 1)) (c + 1)
child_here f p k c h e =
    let n : k - c ≡ suc (k - (c + 1)) = omega arith in
    let s : suc c ≡ c + 1 = omega arith in
    ap (λ j. children_in f p j c) n ∙ from_here f p (k - (c + 1)) c e ∙ ap (λ j. c ∷ children_in f p (k - (c + 1)) j) s

-- the first child that is found, and the last
pub first_found : (f : Family) (p n c : ℕ) → link_of (find (is_child f p) (range_with_len c n)) ≡ first_of (children_in f p n c)
unfolding children_in first_of
first_found f p zero c = refl
first_found f p (suc n) c =
    let s : c + 1 ≡ suc c = omega arith in
    let later = first_found f p n (c + 1) ∙ ap (λ j. first_of (children_in f p n j)) s in
    elim (cases_Bool (is_child f p c)) [
      | inl h ↦
          ap link_of (cond-true (is_child f p c) (Some c) (find (is_child f p) (range_with_len (c + 1) n)) h)
          ∙ ap first_of (sym (cond-true (is_child f p c) (c ∷ children_in f p n (suc c)) (children_in f p n (suc c)) h))
      | inr h ↦
          ap link_of (cond-false (is_child f p c) (Some c) (find (is_child f p) (range_with_len (c + 1) n)) h) ∙ later
          ∙ ap first_of (sym (cond-false (is_child f p c) (c ∷ children_in f p n (suc c)) (children_in f p n (suc c)) h))
    ]

-- the n numbers from a on, the last first
pub downs : ℕ → ℕ → List ℕ
downs a zero = []
downs a (suc n) = (a + n) ∷ downs a n

last_step :
    (r : Option ℕ) (xs : List ℕ) (c : ℕ) (t : Bool) → link_of r ≡ last_of xs → link_of (cond t (Some c) r) ≡ last_of (xs ++ cond t (c ∷ []) [])
last_step r xs c true e = sym (last_push xs c)
last_step r xs c false e = e ∙ ap last_of (sym (append-nil xs))

pub last_found : (f : Family) (p n : ℕ) → link_of (find (is_child f p) (downs 0 n)) ≡ last_of (children_in f p n 0)
unfolding downs last_of children_in
last_found f p zero = refl
last_found f p (suc n) =
    last_step (find (is_child f p) (downs 0 n)) (children_in f p n 0) (0 + n) (is_child f p (0 + n)) (last_found f p n) ∙ ap last_of (sym (children_in_more f p n 0))

-- a range from its end on gives these numbers
abbrev pub back : Range ℕ → Option ℕ → Range ℕ → Type 0
back s r t = (t.start ≡ s.start) × MatchOption r ((s.end - s.start ≡ 0) × (t.end ≡ s.end)) (λ x. (0 < s.end - s.start) × (x ≡ t.end) × (s.end ≡ t.end + 1))

pub gives_downs : (s : Range ℕ) → YieldsList back (λ x. x) s (downs s.start (s.end - s.start))
unfolding downs
gives_downs =
    YieldsList-from_shown back (λ x. x) (λ s. downs s.start (s.end - s.start)) (λ s t e. ap (λ n. length (downs s.start n)) e.1.0)
    (λ s x t e.
    let n : s.end - s.start ≡ suc (t.end - t.start) = omega arith in
    let last : s.start + (t.end - t.start) ≡ x = omega arith in
    ap (downs s.start) n ∙ (λ i. last i ∷ downs (sym e.0 i) (t.end - t.start)))

-- who is found among numbers below k is below k
pub found_below : (k : ℕ) (test : ℕ → Bool) (xs : List ℕ) → AllByRecursion (λ x. x < k) xs → IfSome (find test xs) (λ x. x < k)
found_below k test [] a = tt
found_below k test (x ∷ xs) a = cond_both (test x) (Some x) (find test xs) (λ r. IfSome r (λ y. y < k)) (λ _. a.0) (λ _. found_below k test xs a.1)

pub range_below : (k c n : ℕ) → ((n ≡ 0 → ⊥) → c + n ≤ k) → AllByRecursion (λ x. x < k) (range_with_len c n)
range_below k c zero h = tt
range_below k c (suc n) h = let l = h (λ e. omega arith) in (omega arith, range_below k (c + 1) n (λ _. omega arith))

pub downs_below : (k n : ℕ) → n ≤ k → AllByRecursion (λ x. x < k) (downs 0 n)
unfolding downs
downs_below k zero h = tt
downs_below k (suc n) h = (omega arith, downs_below k n (omega arith))

-- the children before c and those from c on
children_split : (f : Family) (p a b c : ℕ) → children_in f p (a + b) c ≡ children_in f p a c ++ children_in f p b (c + a)
unfolding children_in
children_split f p zero b c =
    let z : 0 + b ≡ b = omega arith in
    let s : c ≡ c + 0 = omega arith in
    ap (λ j. children_in f p j c) z ∙ ap (λ j. children_in f p b j) s
children_split f p (suc a) b c =
    let z : suc a + b ≡ suc (a + b) = omega arith in
    let s : suc c + a ≡ c + suc a = omega arith in
    ap (λ j. children_in f p j c) z
    ∙ ap (λ xs. cond (is_child f p c) (c ∷ xs) xs) (children_split f p a b (suc c) ∙ ap (λ j. children_in f p a (suc c) ++ children_in f p b j) s)
    ∙ out (is_child f p c) (children_in f p a (suc c)) (children_in f p b (c + suc a))
  where
    out : (t : Bool) (xs ys : List ℕ) → cond t (c ∷ (xs ++ ys)) (xs ++ ys) ≡ cond t (c ∷ xs) xs ++ ys
    out true xs ys = refl
    out false xs ys = refl

-- the child behind c is the first from the next on
successor_from : (f : Family) (p c : ℕ) → c < length f → is_child f p c ≡ true → successor (children f p) c ≡ first_of (children_in f p (length f - (c + 1)) (c + 1))
successor_from f p c h e =
    let n : length f ≡ c + (length f - c) = omega arith in
    let z : 0 + c ≡ c = omega arith in
    children_successor f p c (children_in f p c 0) (children_in f p (length f - (c + 1)) (c + 1))
    (ap (λ j. children_in f p j 0) n ∙ children_split f p c (length f - c) 0 ∙ ap (λ j. children_in f p c 0 ++ children_in f p (length f - c) j) z
    ∙ ap (λ xs. children_in f p c 0 ++ xs) (child_here f p (length f) c h e))

pub behind_none : (f : Family) (m c : ℕ) → m ≡ 0 → 0 ≡ behind f m c
unfolding behind
behind_none f m c e = ap (λ j. behind f j c) (sym e)

pub behind_from :
    (f : Family) (m c : ℕ) → c < length f → (m ≡ 0 → ⊥) → ((person f c).mother ≡ m) ⊎ ((person f c).father ≡ m) →
    first_of (children_in f (m - 1) (length f - (c + 1)) (c + 1)) ≡ behind f m c
unfolding behind
behind_from f zero c h some is = absurd (some refl)
behind_from f (suc p) c h some is =
    let z : suc p - 1 ≡ p = omega arith in
    ap (λ j. first_of (children_in f j (length f - (c + 1)) (c + 1))) z
    ∙ sym (successor_from f p c h (⊎_elim (λ (e : (person f c).mother ≡ suc p). mother_child f p c e) (λ (e : (person f c).father ≡ suc p). father_child f p c e) is))

-- what `all` says of the numbers below k, and the other way round
module _ (Yes No : ℕ → Type 0) (k : ℕ) where
  at : (p : ℕ) → p < k → get_or (range_with_len 0 k) p 0 ≡ p
  at p h = get_or-range_with_len 0 k p 0 h ∙ zero-add p

  pub below_from_all :
      (r : Bool) → MatchBool r (AllWithin Yes (range_with_len 0 k) 0 (length (range_with_len 0 k))) ((i : ℕ) × (i < length (range_with_len 0 k)) × HoldsAt No (range_with_len 0 k) i) →
      r ≡ true → (p : ℕ) → p < k → Yes p
  below_from_all true within e p h = subst Yes (at p h) (within p 0 (omega arith) (omega (arith, length-range_with_len 0 k)))
  below_from_all false none e p h = absurd (false≢true e)

  pub all_from_below :
      (r : Bool) → MatchBool r (AllWithin Yes (range_with_len 0 k) 0 (length (range_with_len 0 k))) ((i : ℕ) × (i < length (range_with_len 0 k)) × HoldsAt No (range_with_len 0 k) i) →
      ((p : ℕ) → Yes p → No p → ⊥) → ((p : ℕ) → p < k → Yes p) → r ≡ true
  all_from_below r cases apart below =
      true_from_All Yes No r (range_with_len 0 k) apart cases
      (All-from_get_or Yes (range_with_len 0 k) 0
      (λ i h. let l : i < k = omega (arith, length-range_with_len 0 k) in subst Yes (sym (at i l)) (below i l)))
