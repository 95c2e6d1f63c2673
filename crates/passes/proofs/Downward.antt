-- Laws of going down a list and of leaving it. Assumes nothing.
use Rattle.std.proofs.Common.{◌≡◌, ℕ, zero, suc, ◌+◌, ◌-◌, ◌<◌, ◌≤◌, Bool, false, List, [], ◌∷◌, length, get_or, set, replicate, sum, sym, refl, ap, ◌∙◌, arith}
use Rattle.std.proofs.lemmas.List.{get_or-set_same, get_or-set_other, set-set, set-get_or, length-replicate}
use Rattle.std.proofs.ByRecursion.{All-weaker}
use Rattle.law.specs.Family.{Family}
use Rattle.amounts.specs.Passes.{is_in, added_each, handed_on, filled_up, cleared}
use Rattle.amounts.proofs.Cleared.{replicate_nothing, cleared_right}
use Rattle.amounts.proofs.Upward.{length-filled, filled_other}
use Rattle.amounts.proofs.Turns.{added_fits}
use Rattle.amounts.specs.Statements.{ClearedRight}
use Rattle.passes.specs.Listings.{order_row}
use Rattle.passes.specs.Heirs.{with_heir, heirs_of}
use Rattle.passes.specs.Walking.{Ahead}
use Rattle.passes.specs.declared.Walk.{Walk}
use Rattle.passes.proofs.Walks.{ahead_there}
use Rattle.passes.proofs.Listings.{length-order}

-- the next of those below has more
pub added_first : (c : ℕ) (cs : List ℕ) (more : ℕ) (row : List ℕ) → added_each (c ∷ cs) more row ≡ added_each cs more (set row c (get_or row c 0 + more))
unfolding added_each
added_first c cs more row = refl

pub added_none : (more : ℕ) (row : List ℕ) → added_each [] more row ≡ row
unfolding added_each
added_none more row = refl

-- a line's pieces fit while those below somebody are added to
pub line_fits :
    (f : Family) (w : Walk) (c each n : ℕ) (row qs final : List ℕ) → length f ≤ n → length row ≡ n → Ahead f w (c ∷ qs) → added_each (c ∷ qs) each row ≡ final → sum final < 4294967296 →
    get_or row c 0 + each < 4294967296
line_fits f w c each n row qs final room long a is small =
    let there = ahead_there f w (c ∷ qs) a in
    let same = ap sum is in
    let fits =
    added_fits qs c each (sum final) row (let t = there.0 in omega arith) (All-weaker (λ x. x < length f) (λ x. x < length row) (λ x k. omega arith) qs there.1) (omega arith) in
    omega arith

pub handed_none : (q : ℕ) (row cs : List ℕ) → length cs ≡ 0 → handed_on cs q row ≡ row
unfolding handed_on
handed_none q row [] e = refl
handed_none q row (c ∷ cs) e = absurd (omega arith)

-- the list in its row: who stands first lies last
pub order_last : (n q : ℕ) (qs : List ℕ) → length qs < n → get_or (order_row n (q ∷ qs)) (length qs) 0 ≡ suc q
unfolding order_row
order_last n q qs h = get_or-set_same (order_row n qs) (length qs) (suc q) 0 (omega (arith, length-order n qs))

pub order_beyond : (n : ℕ) (qs : List ℕ) (i : ℕ) → length qs ≤ i → get_or (order_row n qs) i 0 ≡ 0
unfolding order_row
order_beyond n [] i h = replicate_nothing n i
order_beyond n (q ∷ qs) i h = get_or-set_other (order_row n qs) (length qs) i (suc q) 0 (λ e. omega arith) ∙ order_beyond n qs i (omega arith)

pub order_left : (n q : ℕ) (qs : List ℕ) → set (order_row n (q ∷ qs)) (length qs) 0 ≡ order_row n qs
unfolding order_row
order_left n q qs =
    set-set (order_row n qs) (length qs) (suc q) 0 ∙ ap (λ v. set (order_row n qs) (length qs) v) (sym (order_beyond n qs (length qs) (omega arith))) ∙ set-get_or (order_row n qs) (length qs) 0

pub order_place : (n : ℕ) (os : List ℕ) (i : ℕ) → i < length os → length os ≤ n → get_or (order_row n os) (length os - 1 - i) 0 ≡ suc (get_or os i 0)
unfolding order_row
order_place n [] i h l = absurd (omega arith)
order_place n (q ∷ qs) zero h l =
    ap (λ k. get_or (order_row n (q ∷ qs)) k 0) (let e : length (q ∷ qs) - 1 - 0 ≡ length qs = omega arith in e) ∙ order_last n q qs (omega arith)
order_place n (q ∷ qs) (suc i) h l =
    let e : length (q ∷ qs) - 1 - suc i ≡ length qs - 1 - i = omega arith in
    ap (λ k. get_or (set (order_row n qs) (length qs) (suc q)) k 0) e
    ∙ get_or-set_other (order_row n qs) (length qs) (length qs - 1 - i) (suc q) 0 (λ z. omega arith) ∙ order_place n qs i (omega arith) (omega arith)

-- rows along the list
none_left : (os row : List ℕ) → ((w : ℕ) → is_in w os ≡ false → get_or row w 0 ≡ 0) → cleared os row ≡ replicate (length row) 0
unfolding ClearedRight
none_left os row h = cleared_right os row h

pub filled_cleared : (step : List ℕ → List ℕ → ℕ) (below : ℕ → List ℕ) (n : ℕ) (os : List ℕ) → cleared os (filled_up step below os (replicate n 0)) ≡ replicate n 0
filled_cleared step below n os =
    none_left os (filled_up step below os (replicate n 0)) (λ w h. filled_other step below os (replicate n 0) w h ∙ replicate_nothing n w)
    ∙ ap (λ k. replicate k 0) (length-filled step below os (replicate n 0) ∙ length-replicate {A = ℕ} n 0)

pub cleared_first : (q : ℕ) (qs row : List ℕ) → cleared (q ∷ qs) row ≡ cleared qs (set row q 0)
unfolding cleared
cleared_first q qs row = refl

pub cleared_none : (row : List ℕ) → cleared [] row ≡ row
unfolding cleared
cleared_none row = refl

pub heirs_first : (pieces : List ℕ) (q : ℕ) (qs : List ℕ) (s : ℕ → Bool) → heirs_of pieces (q ∷ qs) s ≡ heirs_of pieces qs (with_heir pieces q s)
unfolding heirs_of
heirs_first pieces q qs s = refl

pub heirs_none : (pieces : List ℕ) (s : ℕ → Bool) → heirs_of pieces [] s ≡ s
unfolding heirs_of
heirs_none pieces s = refl

pub order_none : (n : ℕ) → order_row n [] ≡ replicate n 0
unfolding order_row
order_none n = refl

-- who comes next where some are left, and that nobody is where none are
pub next_left : (qs : List ℕ) (k : ℕ) → length qs ≡ k → 0 < k → (q : ℕ) × (rest : List ℕ) × (qs ≡ q ∷ rest)
next_left [] k e h = absurd (omega arith)
next_left (q ∷ qs) k e h = (q, qs, refl)

pub none_more : (qs : List ℕ) → length qs ≤ 0 → qs ≡ []
none_more [] h = refl
none_more (q ∷ qs) h = absurd (omega arith)
