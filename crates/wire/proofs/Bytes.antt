-- Laws of calls and answers as bytes: how long they are, and what is left where they are written one piece after the other. Assumes nothing.
use Rattle.std.proofs.Common.{◌≡◌, ℕ, ◌+◌, ◌*◌, ◌<◌, ◌≤◌, Bool, true, false, cond, ltb, leb, List, [], ◌∷◌, ◌++◌, length, get_or, take, set, Some, None, sym, refl, ap, ◌∙◌, arith}
use Rattle.std.specs.List.{flat_map}
use Rattle.std.proofs.lemmas.List.{append-nil, append_assoc, length-append, flat_map_more, take_more, take_all, length-take-le}
use Rattle.std.proofs.lemmas.Bool.{ltb-true, lt-ltb, le-leb, and_from}
use Rattle.rows.specs.Written.{written}
use Rattle.rows.proofs.Written.{written_append, set_written}
use Rattle.law.specs.Calls.{Share, Answer, refused, number, shares}
use Rattle.wire.specs.Bytes.{le4, le8, row_bytes, answer_shares, share_bytes, answer_bytes, answer_fits, shares_begun}

-- lengths
pub length-le4 : (n : ℕ) → length (le4 n) ≡ 4
unfolding le4
length-le4 n = refl

pub length-le8 : (n : ℕ) → length (le8 n) ≡ 8
unfolding le8
length-le8 n = refl

pub length-share : (s : Share) → length (share_bytes s) ≡ 20
unfolding share_bytes le4 le8
length-share s = refl

pub length-all : (ss : List Share) → length (flat_map share_bytes ss) ≡ 20 * length ss
length-all [] = refl
length-all (s ∷ ss) = omega (arith, length-append (share_bytes s) (flat_map share_bytes ss), length-share s, length-all ss)

pub length-begun : (k : ℕ) (ss : List Share) → length (shares_begun k ss) ≡ 5 + 20 * length ss
unfolding row_bytes le4
length-begun k ss = omega (arith, length-all ss)

pub length-refused : (n p : ℕ) → length (answer_bytes (refused n p)) ≡ 9
unfolding row_bytes le4
length-refused n p = refl

pub length-number : (n : ℕ) → length (answer_bytes (number n)) ≡ 5
unfolding row_bytes le4
length-number n = refl

pub length-shares : (ss : List Share) → length (answer_bytes (shares ss)) ≡ 5 + 20 * length ss
length-shares ss = length-begun (length ss) ss

-- an answer that has a length has it, and its count fits
some_cond : (b : Bool) (m n : ℕ) → Some m ≡ cond b (Some n) None → (b ≡ true) × (m ≡ n)
some_cond true m n e = (refl, cc)
some_cond false m n e = let z : ◌≡◌ {A = ℕ} 0 1 = cc in absurd (omega arith)

pub length-known : (a b : Answer) (n : ℕ) → a ≡ b → Some n ≡ cond (ltb (length (answer_shares a)) 4294967296) (Some (length (answer_bytes a))) None
    → (n ≡ length (answer_bytes b)) × (length (answer_shares b) < 4294967296)
length-known a b n e h =
    let k = some_cond (ltb (length (answer_shares b)) 4294967296) n (length (answer_bytes b)) (rw e at h) in
    (k.1, ltb-true (length (answer_shares b)) 4294967296 k.0)

-- a row that is written value by value
pub length-row : (k : ℕ) (vs : List ℕ) → length (row_bytes k vs []) ≡ 1 + 4 * length vs
unfolding row_bytes
length-row k vs = omega (arith, length-append (flat_map le4 vs) [], length-values vs)
  where
    length-values : (vs : List ℕ) → length (flat_map le4 vs) ≡ 4 * length vs
    length-values [] = refl
    length-values (v ∷ vs) = omega (arith, length-append (le4 v) (flat_map le4 vs), length-le4 v, length-values vs)

pub row_begun : (k : ℕ) (out : List ℕ) → set out 0 k ≡ written 0 (row_bytes k [] []) out
unfolding row_bytes
row_begun k out = set_written 0 k out

row_append : (k : ℕ) (vs : List ℕ) (v : ℕ) → row_bytes k vs [] ++ le4 v ≡ row_bytes k (vs ++ (v ∷ [])) []
unfolding row_bytes
row_append k vs v =
    ap (λ r. (k ∷ r) ++ le4 v) (append-nil (flat_map le4 vs))
    ∙ (flat_map_more le4 (k ∷ []) vs v ∙ ap (λ r. k ∷ r) (sym (append-nil (flat_map le4 (vs ++ (v ∷ []))))))

pub row_more : (k i : ℕ) (vs out : List ℕ) → i < length vs
    → written (1 + 4 * i) (le4 (get_or vs i 0)) (written 0 (row_bytes k (take i vs) []) out) ≡ written 0 (row_bytes k (take (i + 1) vs) []) out
row_more k i vs out h =
    ap (λ m. written m (le4 (get_or vs i 0)) (written 0 (row_bytes k (take i vs) []) out))
    (omega (arith, length-row k (take i vs), length-take-le i vs (omega arith)))
    ∙ (written_append 0 (row_bytes k (take i vs) []) (le4 (get_or vs i 0)) out
    ∙ ap (λ r. written 0 r out) (row_append k (take i vs) (get_or vs i 0) ∙ ap (λ us. row_bytes k us []) (sym (take_more vs i 0 h))))

-- a share that is written value by value
pub then_written : (at n : ℕ) (a b out : List ℕ) → length a ≡ n → written (at + n) b (written at a out) ≡ written at (a ++ b) out
then_written at n a b out e = ap (λ m. written (at + m) b (written at a out)) (sym e) ∙ written_append at a b out

pub share_written : (at : ℕ) (s : Share) (out : List ℕ)
    → written (at + 12) (le8 s.down) (written (at + 4) (le8 s.up) (written at (le4 s.who) out)) ≡ written at (share_bytes s) out
unfolding share_bytes
share_written at s out =
    ap (written (at + 12) (le8 s.down)) (then_written at 4 (le4 s.who) (le8 s.up) out (length-le4 s.who))
    ∙ (then_written at 12 (le4 s.who ++ le8 s.up) (le8 s.down) out
    (omega (arith, length-append (le4 s.who) (le8 s.up), length-le4 s.who, length-le8 s.up))
    ∙ ap (λ r. written at r out) (append_assoc (le4 s.who) (le8 s.up) (le8 s.down)))

begun_append : (k : ℕ) (ss : List Share) (s : Share) → shares_begun k ss ++ share_bytes s ≡ shares_begun k (ss ++ (s ∷ []))
unfolding row_bytes le4
begun_append k ss s = flat_map_more share_bytes (2 ∷ le4 k) ss s

-- Shares that are written one after the other: one more, by itself or as the next of a list, and the end.
pub begun_push : (k i : ℕ) (ss : List Share) (s : Share) (out : List ℕ) → length ss ≡ i
    → written (5 + 20 * i) (share_bytes s) (written 0 (shares_begun k ss) out) ≡ written 0 (shares_begun k (ss ++ (s ∷ []))) out
begun_push k i ss s out e =
    ap (λ m. written m (share_bytes s) (written 0 (shares_begun k ss) out)) (omega (arith, length-begun k ss))
    ∙ (written_append 0 (shares_begun k ss) (share_bytes s) out ∙ ap (λ r. written 0 r out) (begun_append k ss s))

pub begun_more : (k i : ℕ) (ss : List Share) (d : Share) (out : List ℕ) → i < length ss
    → written (5 + 20 * i) (share_bytes (get_or ss i d)) (written 0 (shares_begun k (take i ss)) out) ≡ written 0 (shares_begun k (take (i + 1) ss)) out
begun_more k i ss d out h =
    begun_push k i (take i ss) (get_or ss i d) out (length-take-le i ss (omega arith)) ∙ ap (λ r. written 0 (shares_begun k r) out) (sym (take_more ss i d h))

pub begun_all : (i : ℕ) (ss : List Share) (out : List ℕ) → length ss ≤ i → written 0 (shares_begun (length ss) (take i ss)) out ≡ written 0 (answer_bytes (shares ss)) out
begun_all i ss out h = ap (λ r. written 0 (shares_begun (length ss) r) out) (take_all i ss h)

-- An answer goes into lent bytes that are long enough, and stands there from the start on.
pub answer_goes : (a : Answer) (out : List ℕ) → length (answer_bytes a) ≤ length out → length (answer_shares a) < 4294967296 → answer_fits a out ≡ true
answer_goes a out h k =
    and_from (leb (length (answer_bytes a)) (length out)) (ltb (length (answer_shares a)) 4294967296) (le-leb (length (answer_bytes a)) (length out) h)
    (lt-ltb (length (answer_shares a)) 4294967296 k)

pub take-written : (bs out : List ℕ) → length bs ≤ length out → take (length bs) (written 0 bs out) ≡ bs
unfolding written
take-written [] out h = refl
take-written (b ∷ bs) [] h = absurd (omega arith)
take-written (b ∷ bs) (o ∷ out) h = ap (λ r. b ∷ r) (take-written bs out (omega arith))
