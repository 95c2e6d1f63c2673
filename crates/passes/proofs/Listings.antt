-- Laws of listing: who is listed by the row of counts, the rows with one more in front, and one line more. Assumes nothing.
use Rattle.std.proofs.Common.{◌≡◌, ℕ, zero, suc, ◌-◌, ◌<◌, ◌≤◌, true, false, leb, ◌≢◌, List, [], ◌∷◌, length, get_or, set, replicate, sum_by, sym, refl, ap, ◌∙◌, subst, ⊎_elim, arith}
use Rattle.std.specs.List.{AllByRecursion}
use Rattle.std.proofs.lemmas.List.{get_or-set_same, get_or-set_other, length-set, length-replicate, get_or-replicate}
use Rattle.std.proofs.ByRecursion.{All-get_or}
use Rattle.std.proofs.lemmas.List.Sums.{sum_by-cons}
use Rattle.std.proofs.lemmas.Bool.{cases_eq, cases_Bool, cond-true, cond-false, cond_both}
use Rattle.law.specs.Family.{Family, Part}
use Rattle.theory.specs.Living.{alive}
use Rattle.amounts.specs.Passes.{is_in, all_listed, listed_in, InDescentOrder, filled_up, few, count_step}
use Rattle.amounts.specs.Lines.{divided_among}
use Rattle.amounts.specs.Statements.{Listing}
use Rattle.amounts.proofs.Members.{in_cases, in_none}
use Rattle.amounts.proofs.Upward.{length-filled, filled_other}
use Rattle.amounts.proofs.Listing.{alive_there, divided_among_lives, line_listed}
use Rattle.passes.specs.Rows.{Rowed}
use Rattle.passes.specs.Listings.{order_row, counts_row, listed_rows, Ready}

pub length-order : (n : ℕ) (os : List ℕ) → length (order_row n os) ≡ n
unfolding order_row
length-order n [] = length-replicate {A = ℕ} n 0
length-order n (q ∷ os) = length-set (order_row n os) (length os) (suc q) ∙ length-order n os

-- who is in the list has some parts
few_some : (x : ℕ) → 0 < x → 0 < few x
few_some x h = cond_both (leb x 4096) x 4097 (λ z. 0 < z) (λ _. h) (λ _. omega arith)

step_some : (cs row : List ℕ) → AllByRecursion (λ c. 0 < get_or row c 0) cs → 0 < count_step cs row
unfolding count_step
step_some [] row h = omega arith
step_some (c ∷ cs) row h = few_some (sum_by (λ p. get_or row p 0) (c ∷ cs)) (let a = h.0 in omega (arith, sum_by-cons (λ p. get_or row p 0) c cs))

each_counted : (qs row cs : List ℕ) → ((q : ℕ) → is_in q qs ≡ true → 0 < get_or row q 0) → AllByRecursion (λ c. is_in c qs ≡ true) cs → AllByRecursion (λ c. 0 < get_or row c 0) cs
each_counted qs row [] h k = tt
each_counted qs row (c ∷ cs) h k = (h c k.0, each_counted qs row cs h k.1)

pub filled_in :
    (below : ℕ → List ℕ) (os row : List ℕ) → InDescentOrder below os → AllByRecursion (λ q. q < length row) os → (q : ℕ) → is_in q os ≡ true → 0 < get_or (filled_up count_step below os row) q 0
unfolding filled_up InDescentOrder
filled_in below [] row order there q h = absurd (in_none q h)
filled_in below (p ∷ os) row order there q h =
    let ih = filled_in below os row order.2 there.1 in
    let old = filled_up count_step below os row in
    ⊎_elim
    (λ (e : q ≡ p).
    let v = step_some (below p) old (each_counted os old (below p) ih order.1) in
    let g : get_or (set old p (count_step (below p) old)) q 0 ≡ count_step (below p) old =
    ap (λ k. get_or (set old p (count_step (below p) old)) k 0) e ∙ get_or-set_same old p (count_step (below p) old) 0 (omega (arith, there.0, length-filled count_step below os row)) in
    subst (λ z. 0 < z) (sym g) v)
    (λ (ne : q ≡ p → ⊥).
    let m : is_in q os ≡ true = ⊎_elim (λ e. absurd (ne e)) (λ m. m) (in_cases q p os h) in
    subst (λ z. 0 < z) (sym (get_or-set_other old p q (count_step (below p) old) 0 ne)) (ih q m))
    (cases_eq q p)

-- whether somebody is listed
module _ (n : ℕ) (f : Family) (out : List ℕ) (listing : Listing f out) (room : length f ≤ n) where
  there_all : (os : List ℕ) → AllByRecursion (λ q. q < length f) os → AllByRecursion (λ q. q < length (replicate {A = ℕ} n 0)) os
  there_all [] h = tt
  there_all (q ∷ os) h = (let a = h.0 in omega (arith, length-replicate {A = ℕ} n 0), there_all os h.1)

  pub is_listed : (q : ℕ) → q < n → get_or (counts_row n f out) q 0 ≢ 0 → is_in q out ≡ true
  is_listed q h some =
      ⊎_elim (λ (e : is_in q out ≡ true). e)
      (λ (e : is_in q out ≡ false). absurd (some (filled_other count_step (divided_among f) out (replicate n 0) q e ∙ get_or-replicate {A = ℕ} n q 0 0 h))) (cases_Bool (is_in q out))

  pub not_listed : (q : ℕ) → get_or (counts_row n f out) q 0 ≡ 0 → is_in q out ≡ false
  not_listed q none =
      ⊎_elim
      (λ (e : is_in q out ≡ true).
      let a = filled_in (divided_among f) out (replicate n 0) listing.order (there_all out listing.there) q e in absurd (omega arith))
      (λ (e : is_in q out ≡ false). e) (cases_Bool (is_in q out))

-- listing stops at who is listed, and else goes down first
pub listed_stop : (steps : ℕ) (below : ℕ → List ℕ) (p : ℕ) (out : List ℕ) → is_in p out ≡ true → listed_in steps below p out ≡ out
unfolding listed_in
listed_stop zero below p out h = refl
listed_stop (suc steps) below p out h = cond-true (is_in p out) out (p ∷ all_listed (λ c o. listed_in steps below c o) (below p) out) h

pub listed_open :
    (steps : ℕ) (below : ℕ → List ℕ) (p : ℕ) (out : List ℕ) → steps ≢ 0 → is_in p out ≡ false →
    listed_in steps below p out ≡ p ∷ all_listed (λ c o. listed_in (steps - 1) below c o) (below p) out
unfolding listed_in
listed_open zero below p out some h = absurd (some refl)
listed_open (suc steps) below p out some h =
    cond-false (is_in p out) out (p ∷ all_listed (λ c o. listed_in steps below c o) (below p) out) h
    ∙ ap (λ k. p ∷ all_listed (λ c o. listed_in k below c o) (below p) out) (let e : steps ≡ suc steps - 1 = omega arith in e)

pub all_none : (g : ℕ → List ℕ → List ℕ) (out : List ℕ) → all_listed g [] out ≡ out
unfolding all_listed
all_none g out = refl

pub all_first : (g : ℕ → List ℕ → List ℕ) (c : ℕ) (cs out : List ℕ) → all_listed g (c ∷ cs) out ≡ all_listed g cs (g c out)
unfolding all_listed
all_first g c cs out = refl

-- from a person to the line of a child
pub ready_line :
    (ws mem : List ℕ) (n : ℕ) (f : Family) (rk : ℕ → ℕ) (ps : List Part) (out now spare rest : List ℕ) (steps who count i c at : ℕ) → Ready ws n f rk ps out spare rest steps who count →
    Rowed mem n f ps (listed_rows n f now) spare rest → at ≡ length now → Listing f now → i < length (divided_among f who) → get_or (divided_among f who) i 0 ≡ c → steps ≢ 0 →
    Ready mem n f rk ps now spare rest (steps - 1) c at
ready_line ws mem n f rk ps out now spare rest steps who count i c at ready rows long listing h e some =
    let below : (alive f c ≡ true) × (rk who < rk c) =
    subst (λ x. (alive f x ≡ true) × (rk who < rk x)) e
    (All-get_or (λ x. (alive f x ≡ true) × (rk who < rk x)) (divided_among f who) i 0 h (divided_among_lives ready.ranked who)) in
    let enough = ready.enough in
    let up = below.1 in
    record { rows = rows; listing = listing; long = sym long; ranked = ready.ranked; lives = below.0; enough = omega arith }

-- the list after one line more is one again
pub listing_line :
    (ws : List ℕ) (n : ℕ) (f : Family) (rk : ℕ → ℕ) (ps : List Part) (out spare rest : List ℕ) (steps who count : ℕ) → Ready ws n f rk ps out spare rest steps who count →
    Listing f (listed_in steps (divided_among f) who out)
listing_line ws n f rk ps out spare rest steps who count ready = (line_listed ready.ranked steps who out ready.enough ready.lives ready.listing).0

-- whoever is not listed yet has room in the list
pub room_for :
    (ws : List ℕ) (n : ℕ) (f : Family) (rk : ℕ → ℕ) (ps : List Part) (out spare rest now : List ℕ) (steps who count : ℕ) → Ready ws n f rk ps out spare rest steps who count →
    listed_in steps (divided_among f) who out ≡ who ∷ now → length now < n
room_for ws n f rk ps out spare rest now steps who count ready e =
    let most = (listing_line ws n f rk ps out spare rest steps who count ready).most in
    let room = ready.rows.room in omega (arith, ap length e)

-- steps enough are some
pub steps_some : (ws : List ℕ) (n : ℕ) (f : Family) (rk : ℕ → ℕ) (ps : List Part) (out spare rest : List ℕ) (who count : ℕ) → Ready ws n f rk ps out spare rest 0 who count → ⊥
steps_some ws n f rk ps out spare rest who count ready =
    let w = ready.ranked.within who (alive_there ready.ranked who ready.lives) in
    let enough = ready.enough in omega arith

-- one more in front
pub order_front : (n who : ℕ) (out : List ℕ) → set (order_row n out) (length out) (suc who) ≡ order_row n (who ∷ out)
unfolding order_row
order_front n who out = refl

pub filled_front :
    (step : List ℕ → List ℕ → ℕ) (below : ℕ → List ℕ) (who : ℕ) (out row : List ℕ) → set (filled_up step below out row) who (step (below who) (filled_up step below out row)) ≡ filled_up step below (who ∷ out) row
unfolding filled_up
filled_front step below who out row = refl
