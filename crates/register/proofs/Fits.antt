-- What a register answers fits its bytes. Assumes nothing.
use Rattle.std.proofs.Common.{◌≡◌, ℕ, zero, suc, ◌+◌, ◌-◌, ◌<◌, ◌≤◌, Bool, true, false, cond, not, ◌&&◌, ◌||◌, eqb, ltb, leb, ◌≢◌, List, ◌∷◌, map, length, get_or, filter, subst, div-le_self, arith}
use Rattle.std.specs.List.{range_with_len, AllByRecursion}
use Rattle.std.proofs.lemmas.Bool.{ltb-true, eqb-true, cond_both}
use Rattle.law.specs.Family.{Family, person, estate}
use Rattle.law.specs.Calls.{Call, born, wed, parted, dies, estate_of, unreadable, Answer, refused, number, shares, Limits, there, unmarried, gcd, common_multiple, pieces, refusal_of, refusal, place}
use Rattle.theory.specs.Answers.{answer_taken}
use Rattle.theory.specs.Shares.{lowest_share, shares_from, shares_of}
use Rattle.theory.proofs.Heirs.{estate_there}
use Rattle.theory.proofs.Multiples.{common_multiple_divides, common_multiple_below}
use Rattle.theory.proofs.Parts.{estate_pieces}
use Rattle.theory.proofs.Refusals.{by_rules, wed_taken, parted_taken, dies_taken, estate_taken}
use Rattle.wire.specs.Bytes.{num4, call_with, call_size, read, answer_values, answer_shares, answer_bytes, is_word, share_fits}
use Rattle.wire.proofs.Bytes.{length-refused, length-number, length-shares}
use Rattle.people.specs.Layout.{limit_in, family_in, Valid, Sound}
use Rattle.people.proofs.Layouts.{length-family}
use Rattle.people.proofs.Valids.{valid_well_formed}
use Rattle.shares.proofs.Settling.{shares_among}
use Rattle.service.specs.Desks.{limits_of, state, says, bytes_asked}

-- an answer whose values and shares go into their bytes, and whose bytes go into those of a register for n persons
pub record FitsAnswer (n : ℕ) (a : Answer) : Type 0 where
  pub values : AllByRecursion is_word (answer_values a)
  pub fractions : AllByRecursion share_fits (answer_shares a)
  pub room : length (answer_bytes a) ≤ bytes_asked n

fits_number : (n k : ℕ) → k < 4294967296 → FitsAnswer n (number k)
fits_number n k h = record { values = (h, tt); fractions = tt; room = omega (arith, length-number k) }

fits_refusal : (n k p : ℕ) → k ≤ 6 → p ≤ 9 → FitsAnswer n (refused k p)
fits_refusal n k p h g = record { values = (omega arith, (omega arith, tt)); fractions = tt; room = omega (arith, length-refused k p) }

-- a refusal's number, and its place in a row of bytes
few : (b d : Bool) (x y z : ℕ) → x ≤ 6 → y ≤ 6 → z ≤ 6 → cond b (cond d x y) z ≤ 6
few true true x y z h i j = h
few true false x y z h i j = i
few false d x y z h i j = j

refusal_few : (l : Limits) (f : Family) (c : Call) → refusal_of l f c ≤ 6
unfolding refusal_of
refusal_few l f (born m d) =
    few (leb m (length f) && (leb d (length f) && (eqb m 0 || not (eqb m d)))) (ltb (length f) l.persons) 0 6 4 (omega arith) (omega arith) (omega arith)
refusal_few l f (wed a b) =
    few (there f a && there f b) (not (eqb a b) && (((person f a).lives && (person f b).lives) && (unmarried f a && unmarried f b))) 0 5 4
    (omega arith) (omega arith) (omega arith)
refusal_few l f (parted a) = few (there f a) (unmarried f a) 5 0 4 (omega arith) (omega arith) (omega arith)
refusal_few l f (dies a) = few (there f a) (person f a).lives 0 5 4 (omega arith) (omega arith) (omega arith)
refusal_few l f (estate_of a) =
    few (there f a) (leb (length (estate f a)) 4096 && not (eqb (common_multiple (estate f a) 1) 0)) 0 6 4 (omega arith) (omega arith) (omega arith)
refusal_few l f (unreadable k) = omega arith

abbrev Near : Call → Type 0
Near c = place c ≤ 9

call_near : (k a b : ℕ) → Near (call_with k a b)
unfolding place
call_near k a b =
    cond_both (eqb k 0) (born a b) _ Near (λ _. omega arith)
    (λ _. cond_both (eqb k 1) (wed a b) _ Near (λ _. omega arith)
    (λ _. cond_both (eqb k 2) (parted a) _ Near (λ _. omega arith) (λ _. cond_both (eqb k 3) (dies a) (estate_of a) Near (λ _. omega arith) (λ _. omega arith))))

size_few : (k : ℕ) → call_size k ≤ 9
size_few k = cond_both (ltb k 2) 9 5 (λ n. n ≤ 9) (λ _. omega arith) (λ _. omega arith)

read_near : (row : List ℕ) → Near (read row)
unfolding place
read_near row =
    let k = get_or row 0 0 in
    cond_both (ltb k 5) _ (unreadable 0) Near
    (λ _. cond_both (ltb (length row) (call_size k)) (unreadable (length row)) _ Near
    (λ e. omega (arith, ltb-true (length row) (call_size k) e, size_few k))
    (λ _. cond_both (ltb (call_size k) (length row)) (unreadable (call_size k)) (call_with k (num4 row 1) (num4 row 5)) Near
    (λ _. size_few k) (λ _. call_near k (num4 row 1) (num4 row 5))))
    (λ _. omega arith)

-- the shares of those among m persons from a on: how many there are, and each goes into its bytes
shares_fit :
    (n : ℕ) (g : ℕ → ℕ) → n < 4294967296 → ((w : ℕ) → g w ≤ n) → (a m : ℕ) → a + m ≤ 4096 → AllByRecursion share_fits (shares_from n g a m) × (length (shares_from n g a m) ≤ m)
shares_fit n g small most a zero h = (tt, omega arith)
shares_fit n g small most a (suc m) h =
    let more = shares_fit n g small most (a + 1) m (omega arith) in
    let others = filter (λ w. ltb 0 (g w)) (range_with_len (a + 1) m) in
    cond_both (ltb 0 (g a)) (a ∷ others) others (λ ws. AllByRecursion share_fits (map (λ w. lowest_share n (g w) w) ws) × (length (map (λ w. lowest_share n (g w) w) ws) ≤ suc m))
    (λ _. (
      (
        (omega arith, omega (arith, div-le_self (g a) (gcd (g a) n), most a), omega (arith, div-le_self n (gcd (g a) n))),
        more.0,
      ),
      omega (arith, more.1),
    ))
    (λ _. (more.0, omega (arith, more.1)))

fits_estate : (n : ℕ) (f : Family) (d : ℕ) → Valid f → length f ≤ n → n ≤ 4096 → common_multiple (estate f d) 1 ≢ 0 → FitsAnswer n (shares (shares_of (estate f d)))
fits_estate n f d ok room most some =
    let formed = valid_well_formed f ok in
    let ps = estate f d in
    let k = common_multiple ps 1 in
    let divided = (common_multiple_divides ps 1 some).1 in
    let fit = shares_fit k (pieces k ps) (common_multiple_below ps 1 (omega arith)) (λ w. estate_pieces formed.ranked d k w divided) 0 (length f) (omega arith) in
    subst (λ ss. FitsAnswer n (shares ss)) (shares_among (length f) ps (estate_there f d formed) some)
    (record { values = (omega (arith, fit.1), tt); fractions = fit.0; room = omega (arith, fit.1, length-shares (shares_from k (pieces k ps) 0 (length f))) })

-- the answer to a call that is taken: the number of somebody who is there, or shares
fits_taken : (can : ℕ → Bool) (n : ℕ) (f : Family) (c : Call) → Valid f → length f ≤ n → n ≤ 4096 → refusal_of (limits_of can n) f c ≡ 0 → FitsAnswer n (answer_taken f c)
unfolding answer_taken refusal_of
fits_taken can n f (born m d) ok room most e = fits_number n (length f) (omega arith)
fits_taken can n f (wed a b) ok room most e = fits_number n a (omega (arith, (wed_taken (limits_of can n) f a b e).0))
fits_taken can n f (parted a) ok room most e =
    let t = parted_taken (limits_of can n) f a e in
    let s = (valid_well_formed f ok).spouses a ((person f a).spouse - 1) (omega arith) in
    fits_number n ((person f a).spouse - 1) (omega arith)
fits_taken can n f (dies a) ok room most e = fits_number n a (omega (arith, (dies_taken (limits_of can n) f a e).0))
fits_taken can n f (estate_of a) ok room most e = fits_estate n f a ok room most (estate_taken (limits_of can n) f a e).2
fits_taken can n f (unreadable k) ok room most e = absurd (omega arith)

-- whatever is answered to a row of bytes, at any stage
pub says_fits : (can : ℕ → Bool) (ws row : List ℕ) → Sound ws → FitsAnswer (limit_in ws) (says can (state ws) (read row))
says_fits can ws row ok =
    let l = limits_of can (limit_in ws) in
    let f = family_in ws in
    let c = read row in
    let long = length-family ws in
    let small : refusal l f c ≤ 6 = cond_both _ (refusal_of l f c) 2 (λ k. k ≤ 6) (λ _. refusal_few l f c) (λ _. omega arith) in
    cond_both (eqb (refusal l f c) 0) (answer_taken f c) (refused (refusal l f c) (place c)) (FitsAnswer (limit_in ws))
    (λ e. fits_taken can (limit_in ws) f c ok.2 (omega (arith, ok.1)) ok.1.2 (by_rules l f c (eqb-true (refusal l f c) 0 e)))
    (λ _. fits_refusal (limit_in ws) (refusal l f c) (place c) small (read_near row))
