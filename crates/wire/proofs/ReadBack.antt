-- The bytes of calls and of answers are read back as those calls and answers. Assumes nothing.
use Rattle.std.proofs.Common.{◌≡◌, ℕ, zero, suc, ◌+◌, ◌-◌, ◌*◌, ◌/◌, ◌<◌, ◌≤◌, Bool, true, false, cond, ◌&&◌, eqb, List, [], ◌∷◌, ◌++◌, length, get_or, take, drop, Some, None, sym, refl, ap, ◌∙◌, arith}
use Rattle.std.specs.List.{flat_map, AllByRecursion, slice_get}
use Rattle.std.proofs.lemmas.List.{append_assoc, length-append, length-drop, length-take-le, take-append-drop}
use Rattle.std.proofs.lemmas.Bool.{and_parts, eqb-true, eq-eqb}
use Rattle.law.specs.Calls.{born, wed, parted, dies, estate_of, unreadable, call_number, Share, refused, number, shares}
use Rattle.wire.specs.declared.Answer.{Answer}
use Rattle.wire.specs.declared.Answer.TheVariants.{Shares}
use Rattle.wire.specs.Bytes.{le4, le8, num4, row_bytes, call_bytes, share_bytes, shares_begun, share_at, shares_from, answer_read, answer_from, share_fits, CallsReadBack, AnswersReadBack}
use Rattle.wire.proofs.Bytes.{length-share, length-begun}
use Rattle.wire.proofs.Numbers.{num4_le4, num8_le8, num4_behind, num8_behind, num4_before, num8_before}

pub calls_read_back : CallsReadBack
unfolding call_bytes call_number row_bytes le4
calls_read_back (born m f) k h = (ap (λ x. born x (num4 (le4 f) 0)) (num4_le4 m h.0) ∙ ap (born m) (num4_le4 f h.1.0), refl)
calls_read_back (wed a b) k h = (ap (λ x. wed x (num4 (le4 b) 0)) (num4_le4 a h.0) ∙ ap (wed a) (num4_le4 b h.1.0), refl)
calls_read_back (parted a) k h = (ap parted (num4_le4 a h.0), refl)
calls_read_back (dies a) k h = (ap dies (num4_le4 a h.0), refl)
calls_read_back (estate_of a) k h = (ap estate_of (num4_le4 a h.0), refl)
calls_read_back (unreadable n) k h = absurd (omega arith)

-- a share, alone and behind other bytes
share_back : (s : Share) (bs : List ℕ) → share_fits s → share_at (share_bytes s ++ bs) 0 ≡ s
unfolding share_bytes le4 le8
share_back s bs h =
    let w = num4_le4 s.who h.0 in
    let u = num8_le8 s.up h.1 in
    let d = num8_le8 s.down h.2 in
    rw (w, u, d)

share_behind : (pre bs : List ℕ) (i j : ℕ) → i ≡ length pre + j → share_at (pre ++ bs) i ≡ share_at bs j
share_behind pre bs i j e =
    let w = num4_behind pre bs i j (omega arith) in
    let u = num8_behind pre bs (i + 4) (j + 4) (omega arith) in
    let d = num8_behind pre bs (i + 12) (j + 12) (omega arith) in
    rw (w, u, d)

shares_back : (pre : List ℕ) (ss : List Share) (i : ℕ) → i ≡ length pre → AllByRecursion share_fits ss → shares_from (pre ++ flat_map share_bytes ss) i (length ss) ≡ ss
unfolding shares_from
shares_back pre [] i e h = refl
shares_back pre (s ∷ ss) i e h =
    let bs = flat_map share_bytes ss in
    ap (λ x. x ∷ shares_from (pre ++ (share_bytes s ++ bs)) (i + 20) (length ss)) (share_behind pre (share_bytes s ++ bs) i 0 (omega arith) ∙ share_back s bs h.0)
    ∙ (ap (λ r. s ∷ shares_from r (i + 20) (length ss)) (sym (append_assoc pre (share_bytes s) bs))
    ∙ ap (λ r. s ∷ r) (shares_back (pre ++ share_bytes s) ss (i + 20) (omega (arith, length-append pre (share_bytes s), length-share s)) h.1))

pub shares_read : (bs : List ℕ) (n : ℕ) → get_or bs 0 0 ≡ 2 → num4 bs 1 ≡ n → length bs ≡ 5 + 20 * n → answer_read bs ≡ Some (shares (shares_from bs 5 n))
shares_read bs n k c l = let t = eq-eqb (length bs) (5 + 20 * n) l in rw (k, c, t)

kind_back : (k : ℕ) (ss : List Share) → get_or (shares_begun k ss) 0 0 ≡ 2
unfolding row_bytes
kind_back k ss = refl

count_back : (k : ℕ) (ss : List Share) → k < 4294967296 → num4 (shares_begun k ss) 1 ≡ k
unfolding row_bytes le4
count_back k ss h = num4_le4 k h

begun_back : (k : ℕ) (ss : List Share) → k ≡ length ss → k < 4294967296 → AllByRecursion share_fits ss → answer_read (shares_begun k ss) ≡ Some (shares ss)
unfolding row_bytes le4
begun_back k ss e h f =
    shares_read (shares_begun k ss) k (kind_back k ss) (count_back k ss h) (omega (arith, length-begun k ss))
    ∙ (ap (λ n. Some (shares (shares_from (shares_begun k ss) 5 n))) e ∙ ap (λ r. Some (shares r)) (shares_back (2 ∷ le4 k) ss 5 refl f))

pub answers_read_back : AnswersReadBack
unfolding row_bytes le4
answers_read_back (refused n p) h f = ap (λ x. Some (refused x (num4 (le4 p) 0))) (num4_le4 n h.0) ∙ ap (λ x. Some (refused n x)) (num4_le4 p h.1.0)
answers_read_back (number n) h f = ap (λ x. Some (number x)) (num4_le4 n h.0)
answers_read_back (shares ss) h f = begun_back (length ss) ss refl h.0 f

-- shares that are read one by one
pub nth_from : (bs : List ℕ) (i n j : ℕ) → j < n → slice_get (shares_from bs i n) j ≡ Some (share_at bs (i + 20 * j))
unfolding shares_from
nth_from bs i zero j h = absurd (omega arith)
nth_from bs i (suc n) zero h = ap (λ k. Some (share_at bs k)) (omega arith)
nth_from bs i (suc n) (suc j) h = nth_from bs (i + 20) n j (omega arith) ∙ ap (λ k. Some (share_at bs k)) (omega arith)

pub length_from : (bs : List ℕ) (i n : ℕ) → length (shares_from bs i n) ≡ n
unfolding shares_from
length_from bs i zero = refl
length_from bs i (suc n) = ap suc (length_from bs (i + 20) n)

-- an answer of shares is as long as its count says
only_shares : (a b c : Bool) (n p m : ℕ) (ss ts : List Share)
    → Some (shares ss) ≡ cond a (Some (refused n p)) (cond b (Some (number m)) (cond c (Some (shares ts)) None)) → (c ≡ true) × (ss ≡ ts)
only_shares true b c n p m ss ts e = let z : ◌≡◌ {A = ℕ} 0 1 = cc in absurd (omega arith)
only_shares false true c n p m ss ts e = let z : ◌≡◌ {A = ℕ} 0 1 = cc in absurd (omega arith)
only_shares false false true n p m ss ts e = (refl, cc)
only_shares false false false n p m ss ts e = let z : ◌≡◌ {A = ℕ} 0 1 = cc in absurd (omega arith)

pub shares_whole : (bs : List ℕ) (n : ℕ) → Some (shares (shares_from bs 5 n)) ≡ answer_read bs → length bs ≡ 5 + 20 * n
shares_whole bs n e =
    let k =
    only_shares (eqb (get_or bs 0 0) 0 && eqb (length bs) 9) (eqb (get_or bs 0 0) 1 && eqb (length bs) 5) (eqb (get_or bs 0 0) 2 && eqb (length bs) (5 + 20 * num4 bs 1))
    (num4 bs 1) (num4 bs 5) (num4 bs 1) (shares_from bs 5 n) (shares_from bs 5 (num4 bs 1)) e
    in
    let t = and_parts (eqb (get_or bs 0 0) 2) (eqb (length bs) (5 + 20 * num4 bs 1)) k.0 in
    let l = ap length k.1 in
    omega (arith, eqb-true (length bs) (5 + 20 * num4 bs 1) t.1, l, length_from bs 5 n, length_from bs 5 (num4 bs 1))

-- what a reading of shares says of the bytes
pub shares_told : (bs : List ℕ) (r : Answer ℕ) (n : ℕ) → r ≡ Shares n → answer_from (Some r) bs ≡ answer_read bs → Some (shares (shares_from bs 5 n)) ≡ answer_read bs
shares_told bs r n e h = ap (λ x. answer_from (Some x) bs) (sym e) ∙ h

-- SHARES GONE THROUGH. Those behind other bytes, and the first of those in bytes, with the others left.
shares_behind : (pre bs : List ℕ) (i j n : ℕ) → i ≡ length pre + j → shares_from (pre ++ bs) i n ≡ shares_from bs j n
unfolding shares_from
shares_behind pre bs i j zero e = refl
shares_behind pre bs i j (suc n) e =
    λ k. share_behind pre bs i j e k ∷ shares_behind pre bs (i + 20) (j + 20) n (omega arith) k

share_before : (bs more : List ℕ) → 20 ≤ length bs → share_at (bs ++ more) 0 ≡ share_at bs 0
share_before bs more h =
    let w = num4_before bs more 0 (omega arith) in
    let u = num8_before bs more 4 (omega arith) in
    let d = num8_before bs more 12 (omega arith) in
    rw (w, u, d)

pub shares_none : (bs : List ℕ) → length bs < 20 → shares_from bs 0 (length bs / 20) ≡ []
unfolding shares_from
shares_none bs h = let e : length bs / 20 ≡ 0 = omega arith in rw e

pub shares_first : (bs first rest : List ℕ) → first ≡ take 20 bs → rest ≡ drop 20 bs → length rest + 20 ≡ length bs
    → shares_from bs 0 (length bs / 20) ≡ share_at first 0 ∷ shares_from rest 0 (length rest / 20)
unfolding shares_from
shares_first bs first rest f r l =
    let n = length rest / 20 in
    let many : length bs / 20 ≡ suc n = omega arith in
    let long : length first ≡ 20 = ap length f ∙ length-take-le 20 bs (omega arith) in
    let whole : bs ≡ first ++ rest = sym (take-append-drop 20 bs) ∙ (λ i. sym f i ++ sym r i) in
    ap (shares_from bs 0) many
    ∙ (ap (λ xs. share_at xs 0 ∷ shares_from xs 20 n) whole
    ∙ (λ i. share_before first rest (omega arith) i ∷ shares_behind first rest 20 0 n (omega arith) i))

-- the shares behind the count
pub shares_counted : (bs : List ℕ) (n : ℕ) → length bs ≡ 5 + 20 * n → shares_from (drop 5 bs) 0 (length (drop 5 bs) / 20) ≡ shares_from bs 5 n
shares_counted bs n e =
    let l : length (drop 5 bs) ≡ length bs - 5 = length-drop 5 bs in
    let many : length (drop 5 bs) / 20 ≡ n = omega arith in
    ap (shares_from (drop 5 bs) 0) many
    ∙ (sym (shares_behind (take 5 bs) (drop 5 bs) 5 0 n (omega (arith, length-take-le 5 bs (omega arith))))
    ∙ ap (λ r. shares_from r 5 n) (take-append-drop 5 bs))
