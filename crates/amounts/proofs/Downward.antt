-- Downward along a list: who has nothing left, who is not reached, and that all together never have more. Assumes nothing.
use Rattle.std.proofs.Common.{◌≡◌, ℕ, suc, ◌+◌, ◌*◌, ◌/◌, ◌<◌, ◌≤◌, true, false, ◌≢◌, List, [], ◌∷◌, length, get_or, set, sum, sym, refl, ap, ◌∙◌, subst, ⊎_elim, mul-le-mul_right, arith}
use native.Mathlib.Nat.{mul-div-le}
use Rattle.std.specs.List.{AllByRecursion}
use Rattle.std.proofs.lemmas.List.{length-set, get_or-set_other, get_or_past}
use Rattle.std.proofs.ByRecursion.{All-weaker}
use Rattle.std.proofs.lemmas.List.Sums.{sum_by-set, get_or-le-sum_by}
use Rattle.std.proofs.lemmas.Bool.{cases_lt}
use Rattle.law.specs.Family.{Part}
use Rattle.law.specs.Calls.{all_pieces}
use Rattle.amounts.specs.Passes.{is_in, InDescentOrder, added_each, handed_on, handed_down, started}
use Rattle.amounts.specs.Statements.{NeverMore}
use Rattle.amounts.proofs.Cleared.{set_own}
use Rattle.amounts.proofs.Members.{in_none, in_cases, in_not, out_parts}

-- how long rows are
pub length-added : (cs : List ℕ) (more : ℕ) (row : List ℕ) → length (added_each cs more row) ≡ length row
unfolding added_each
length-added [] more row = refl
length-added (c ∷ cs) more row = length-added cs more (set row c (get_or row c 0 + more)) ∙ length-set row c (get_or row c 0 + more)

pub length-handed_on : (cs : List ℕ) (q : ℕ) (row : List ℕ) → length (handed_on cs q row) ≡ length row
unfolding handed_on
length-handed_on [] q row = refl
length-handed_on (c ∷ cs) q row = length-added (c ∷ cs) (get_or row q 0 / suc (length cs)) (set row q 0) ∙ length-set row q 0

pub length-handed_down : (below : ℕ → List ℕ) (os row : List ℕ) → length (handed_down below os row) ≡ length row
unfolding handed_down
length-handed_down below [] row = refl
length-handed_down below (q ∷ qs) row = length-handed_down below qs (handed_on (below q) q row) ∙ length-handed_on (below q) q row

pub length-started : (times n : ℕ) (ss : List Part) (row : List ℕ) → length (started times n ss row) ≡ length row
unfolding started
length-started times n [] row = refl
length-started times n (s ∷ ss) row =
    length-started times n ss (set row s.who (get_or row s.who 0 + times * (n / s.by))) ∙ length-set row s.who (get_or row s.who 0 + times * (n / s.by))

-- whoever has others below hands on
pub handed_many : (cs : List ℕ) (q : ℕ) (row : List ℕ) → 0 < length cs → handed_on cs q row ≡ added_each cs (get_or row q 0 / length cs) (set row q 0)
unfolding handed_on
handed_many [] q row l = absurd (omega arith)
handed_many (c ∷ cs) q row l = refl

-- who gets nothing keeps what they have
pub added_other : (cs : List ℕ) (more : ℕ) (row : List ℕ) (w : ℕ) → AllByRecursion (λ c. w ≢ c) cs → get_or (added_each cs more row) w 0 ≡ get_or row w 0
unfolding added_each
added_other [] more row w h = refl
added_other (c ∷ cs) more row w h =
    added_other cs more (set row c (get_or row c 0 + more)) w h.1 ∙ get_or-set_other row c w (get_or row c 0 + more) 0 h.0

pub handed_on_other : (cs : List ℕ) (q : ℕ) (row : List ℕ) (w : ℕ) → w ≢ q → AllByRecursion (λ c. w ≢ c) cs → get_or (handed_on cs q row) w 0 ≡ get_or row w 0
unfolding handed_on
handed_on_other [] q row w n h = refl
handed_on_other (c ∷ cs) q row w n h =
    added_other (c ∷ cs) (get_or row q 0 / suc (length cs)) (set row q 0) w h ∙ get_or-set_other row q w 0 0 n

handed_on_self : (cs : List ℕ) (q : ℕ) (row : List ℕ) → 0 < length cs → AllByRecursion (λ c. q ≢ c) cs → get_or (handed_on cs q row) q 0 ≡ 0
handed_on_self cs q row l h =
    ap (λ (r : List ℕ). get_or r q 0) (handed_many cs q row l) ∙ (added_other cs (get_or row q 0 / length cs) (set row q 0) q h ∙ set_own row q)

-- those below are in the rest of a list, and so are not somebody who isn't
not_below : (w : ℕ) (qs cs : List ℕ) → is_in w qs ≡ false → AllByRecursion (λ c. is_in c qs ≡ true) cs → AllByRecursion (λ c. w ≢ c) cs
not_below w qs cs h a = All-weaker (λ c. is_in c qs ≡ true) (λ c. w ≢ c) (λ c k e. in_not c w qs k h (sym e)) cs a

module _ (below : ℕ → List ℕ) where
  -- who is not in the list keeps what they have
  pub handed_down_other : (os row : List ℕ) (w : ℕ) → InDescentOrder below os → is_in w os ≡ false → get_or (handed_down below os row) w 0 ≡ get_or row w 0
  unfolding handed_down InDescentOrder
  handed_down_other [] row w t h = refl
  handed_down_other (q ∷ qs) row w t h =
      let r = out_parts w q qs h in
      handed_down_other qs (handed_on (below q) q row) w t.2 r.1 ∙ handed_on_other (below q) q row w r.0 (not_below w qs (below q) r.1 t.1)

  -- who has others below has nothing at the end
  pub handed_down_self : (os row : List ℕ) (w : ℕ) → InDescentOrder below os → is_in w os ≡ true → 0 < length (below w) → get_or (handed_down below os row) w 0 ≡ 0
  unfolding handed_down InDescentOrder
  handed_down_self [] row w t h l = absurd (in_none w h)
  handed_down_self (q ∷ qs) row w t h l =
      ⊎_elim
      (λ (e : w ≡ q).
      ap (λ (k : ℕ). get_or (handed_down below qs (handed_on (below q) q row)) k 0) e
      ∙ (handed_down_other qs (handed_on (below q) q row) q t.2 t.0
      ∙ handed_on_self (below q) q row (subst (λ (k : ℕ). 0 < length (below k)) e l) (not_below q qs (below q) t.0 t.1)))
      (λ (k : is_in w qs ≡ true). handed_down_self qs (handed_on (below q) q row) w t.2 k l) (in_cases w q qs h)

-- all together
pub sum_added : (cs : List ℕ) (more : ℕ) (row : List ℕ) → AllByRecursion (λ c. c < length row) cs → sum (added_each cs more row) ≡ length cs * more + sum row
unfolding added_each
sum_added [] more row a = omega arith
sum_added (c ∷ cs) more row a =
    let r : List ℕ = set row c (get_or row c 0 + more) in
    let e : sum (added_each cs more r) ≡ length cs * more + sum r =
    sum_added cs more r (All-weaker (λ x. x < length row) (λ x. x < length r) (λ x k. let z = length-set row c (get_or row c 0 + more) in omega arith) cs a.1) in
    let k : sum r + get_or row c 0 ≡ sum row + (get_or row c 0 + more) = sum_by-set (λ x. x) row c (get_or row c 0 + more) 0 a.0 in
    omega arith

-- once q's place is 0, no more is handed on to any of those below than q had
pub handed_on_most : (q : ℕ) (row cs : List ℕ) (k : ℕ) → q < length row → AllByRecursion (λ c. c < length row) cs → length cs ≤ k → sum (added_each cs (get_or row q 0 / k) (set row q 0)) ≤ sum row
handed_on_most q row cs k l a m =
    let r : List ℕ = set row q 0 in
    let e : sum (added_each cs (get_or row q 0 / k) r) ≡ length cs * (get_or row q 0 / k) + sum r =
    sum_added cs (get_or row q 0 / k) r (All-weaker (λ x. x < length row) (λ x. x < length r) (λ x h. let z = length-set row q 0 in omega arith) cs a) in
    let s : sum r + get_or row q 0 ≡ sum row + 0 = sum_by-set (λ x. x) row q 0 0 l in
    let d : k * (get_or row q 0 / k) ≤ get_or row q 0 = mul-div-le (get_or row q 0) k in
    let p : length cs * (get_or row q 0 / k) ≤ k * (get_or row q 0 / k) = fewer (length cs) k (get_or row q 0 / k) m in
    omega arith
  where
    fewer : (a b x : ℕ) → a ≤ b → a * x ≤ b * x
    fewer a b x l = mul-le-mul_right x l

pub sum_handed_on : (cs : List ℕ) (q : ℕ) (row : List ℕ) → q < length row → AllByRecursion (λ c. c < length row) cs → sum (handed_on cs q row) ≤ sum row
unfolding handed_on
sum_handed_on [] q row l a = omega arith
sum_handed_on (c ∷ cs) q row l a = handed_on_most q row (c ∷ cs) (suc (length cs)) l a (omega arith)

pub sum_handed_down : (below : ℕ → List ℕ) (os row : List ℕ) → AllByRecursion (λ q. (q < length row) × AllByRecursion (λ c. c < length row) (below q)) os → sum (handed_down below os row) ≤ sum row
unfolding handed_down
sum_handed_down below [] row a = omega arith
sum_handed_down below (q ∷ qs) row a =
    let r : List ℕ = handed_on (below q) q row in
    let e = sum_handed_on (below q) q row a.0.0 a.0.1 in
    let h : length r ≡ length row = length-handed_on (below q) q row in
    let k =
    sum_handed_down below qs r
    (All-weaker (λ x. (x < length row) × AllByRecursion (λ c. c < length row) (below x)) (λ x. (x < length r) × AllByRecursion (λ c. c < length r) (below x))
    (λ x v. (let z = v.0 in omega arith, All-weaker (λ c. c < length row) (λ c. c < length r) (λ c z. omega arith) (below x) v.1)) qs a.1) in
    omega arith

pub never_more : NeverMore
unfolding NeverMore
never_more below os row a = sum_handed_down below os row a

-- nobody has more than all together
pub one_most : (row : List ℕ) (w : ℕ) → get_or row w 0 ≤ sum row
one_most row w =
    ⊎_elim (λ (l : w < length row). get_or-le-sum_by (λ x. x) row w 0 l) (λ (l : length row ≤ w). let e = get_or_past row w 0 l in omega arith) (cases_lt w (length row))

-- what lines begin with together
pub sum_started : (times n : ℕ) (ss : List Part) (row : List ℕ) → AllByRecursion (λ (s : Part). s.who < length row) ss → sum (started times n ss row) ≡ times * all_pieces n ss + sum row
unfolding started all_pieces
sum_started times n [] row a = omega arith
sum_started times n (s ∷ ss) row a =
    let r : List ℕ = set row s.who (get_or row s.who 0 + times * (n / s.by)) in
    let e : sum (started times n ss r) ≡ times * all_pieces n ss + sum r =
    sum_started times n ss r
    (All-weaker (λ (x : Part). x.who < length row) (λ (x : Part). x.who < length r) (λ x k. let z = length-set row s.who (get_or row s.who 0 + times * (n / s.by)) in omega arith) ss a.1) in
    let k : sum r + get_or row s.who 0 ≡ sum row + (get_or row s.who 0 + times * (n / s.by)) =
    sum_by-set (λ x. x) row s.who (get_or row s.who 0 + times * (n / s.by)) 0 a.0 in
    omega arith

-- who is none of them keeps what they have
pub started_other : (times n : ℕ) (ss : List Part) (row : List ℕ) (w : ℕ) → AllByRecursion (λ (s : Part). w ≢ s.who) ss → get_or (started times n ss row) w 0 ≡ get_or row w 0
unfolding started
started_other times n [] row w h = refl
started_other times n (s ∷ ss) row w h =
    started_other times n ss (set row s.who (get_or row s.who 0 + times * (n / s.by))) w h.1
    ∙ get_or-set_other row s.who w (get_or row s.who 0 + times * (n / s.by)) 0 h.0
