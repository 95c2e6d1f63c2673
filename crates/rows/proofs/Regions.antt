-- A region in the middle of a row: what is read from it, and what a write to it leaves. Assumes nothing.
use Rattle.std.proofs.Common.{◌≡◌, ℕ, zero, suc, ◌+◌, ◌<◌, ◌≤◌, List, [], ◌∷◌, ◌++◌, length, get_or, take, drop, set, sym, refl, ap, ◌∙◌, suc-add, arith}
use borrow.Rule.Slice.PartMut.{put_mid}
use Rattle.std.proofs.lemmas.List.{get_or-append-add, get_or_append_left, drop_at, take_at}
use Rattle.rows.specs.Written.{written}
use Rattle.rows.proofs.Written.{written_none, set_written}

-- written behind a front, and before a back
pub written_behind : {X : Type 0} (front xs ys : List X) (i : ℕ) → written (length front + i) ys (front ++ xs) ≡ front ++ written i ys xs
unfolding written
written_behind [] xs ys i = let e : 0 + i ≡ i = omega arith in rw e
written_behind (x ∷ front) xs ys i = rw (suc-add (length front) i) (ap (λ r. x ∷ r) (written_behind front xs ys i))

pub written_before : {X : Type 0} (xs back ys : List X) (i : ℕ) → i + length ys ≤ length xs → written i ys (xs ++ back) ≡ written i ys xs ++ back
unfolding written
written_before [] back [] i h = written_none i back
written_before [] back (y ∷ ys) i h = absurd (omega arith)
written_before (x ∷ xs) back [] zero h = refl
written_before (x ∷ xs) back (y ∷ ys) zero h = ap (λ r. y ∷ r) (written_before xs back ys zero (omega arith))
written_before (x ∷ xs) back ys (suc i) h = ap (λ r. x ∷ r) (written_before xs back ys i (omega arith))

-- a region between a front and a back, which begins at a place
pub region_read : {X : Type 0} (front mid back : List X) (d : X) (at i : ℕ) → length front ≡ at → i < length mid → get_or (front ++ (mid ++ back)) (at + i) d ≡ get_or mid i d
region_read front mid back d at i l h =
    ap (λ k. get_or (front ++ (mid ++ back)) (k + i) d) (sym l) ∙ get_or-append-add front (mid ++ back) i d ∙ get_or_append_left mid back d i h

pub region_write :
    {X : Type 0} (front mid back ys : List X) (at i : ℕ) → length front ≡ at → i + length ys ≤ length mid → written (at + i) ys (front ++ (mid ++ back)) ≡ front ++ (written i ys mid ++ back)
region_write front mid back ys at i l h =
    ap (λ k. written (k + i) ys (front ++ (mid ++ back))) (sym l) ∙ written_behind front (mid ++ back) ys i ∙ ap (λ r. front ++ r) (written_before mid back ys i h)

pub region_set : {X : Type 0} (front mid back : List X) (y : X) (at i : ℕ) → length front ≡ at → i < length mid → set (front ++ (mid ++ back)) (at + i) y ≡ front ++ (set mid i y ++ back)
region_set front mid back y at i l h =
    set_written (at + i) y (front ++ (mid ++ back)) ∙ region_write front mid back (y ∷ []) at i l (omega arith) ∙ ap (λ r. front ++ (r ++ back)) (sym (set_written i y mid))

-- a region handed on as a part
pub region_part : {X : Type 0} (front mid back : List X) (at k : ℕ) → length front ≡ at → length mid ≡ k → take k (drop at (front ++ (mid ++ back))) ≡ mid
region_part front mid back at k l m = ap (take k) (drop_at front (mid ++ back) at l) ∙ take_at mid back k m

pub region_put : {X : Type 0} (front mid back new : List X) (at k : ℕ) → length front ≡ at → length mid ≡ k → put_mid at k (front ++ (mid ++ back)) new ≡ front ++ (new ++ back)
region_put front mid back new at k l m =
    (λ i. take_at front (mid ++ back) at l i ++ (new ++ drop k (drop_at front (mid ++ back) at l i))) ∙ ap (λ r. front ++ (new ++ r)) (drop_at mid back k m)
