-- What lines come to, line by line: running numbers and their end. Assumes nothing.
use Rattle.std.proofs.Common.{◌≡◌, ℕ, zero, suc, ◌+◌, ◌*◌, ◌<◌, ◌≤◌, Bool, true, false, not, cond, eqb, ltb, List, [], ◌∷◌, ◌++◌, length, get_or, sum_by, Some, None, Option, unwrap_or, sym, refl, ap, ◌∙◌, ⊎_elim, arith}
use Rattle.std.specs.Bool.{then_some}
use Rattle.std.proofs.lemmas.List.{map-append}
use Rattle.std.proofs.lemmas.List.Sums.{sum_by_push}
use Rattle.std.proofs.lemmas.Bool.{cases_lt, ne_eqb, cond-false}
use Rattle.law.specs.Family.{Part}
use Rattle.law.specs.Calls.{common_multiple}
use Rattle.shares.specs.Parts.{word_number}
use Rattle.theory.specs.Multiples.{lcm}
use Rattle.theory.proofs.Multiples.{common_multiple_append}
use Rattle.amounts.proofs.Lines.{few_small, few_large}
use Rattle.amounts.specs.Passes.{few, word_or_zero, numbered, count_step, multiple_step}

-- the word for a number that is none where it doesn't fit
pub number_back : (n : ℕ) → unwrap_or (word_number n) 0 ≡ word_or_zero n
number_back zero = refl
number_back (suc n) = rw (ne_eqb (suc n) 0 (λ z. omega arith)) (by (ltb (suc n) 4294967296))
  where
    by : (t : Bool) → unwrap_or (cond t (Some (suc n)) None) 0 ≡ cond t (suc n) 0
    by true = refl
    by false = refl

-- cut off once more it is the same
pub number_again : (n : ℕ) → word_number (word_or_zero n) ≡ word_number n
number_again zero = refl
number_again (suc n) = by (ltb (suc n) 4294967296) refl
  where
    by : (t : Bool) → ltb (suc n) 4294967296 ≡ t → word_number (cond t (suc n) 0) ≡ word_number (suc n)
    by true e = refl
    by false e = rw (ne_eqb (suc n) 0 (λ z. omega arith), e) refl

pub some_back : (w : ℕ) → unwrap_or (then_some (not (eqb w 0)) w) 0 ≡ w
some_back zero = refl
some_back (suc w) = rw (ne_eqb (suc w) 0 (λ z. omega arith)) refl

-- counts that are cut off
pub few_more : (x y : ℕ) → few (few x + y) ≡ few (x + y)
few_more x y =
    ⊎_elim
    (λ (h : 4096 < x). let e = few_large x h in few_large (few x + y) (omega arith) ∙ sym (few_large (x + y) (omega arith)))
    (λ (h : x ≤ 4096). ap (λ z. few (z + y)) (few_small x h)) (cases_lt 4096 x)

-- one line more
pub parts_more :
    (row xs : List ℕ) (c parts more all : ℕ) → parts ≡ few (sum_by (λ p. get_or row p 0) xs) → more ≡ get_or row c 0 → all ≡ few (parts + more) →
    all ≡ few (sum_by (λ p. get_or row p 0) (xs ++ (c ∷ [])))
parts_more row xs c parts more all a b t =
    t ∙ (λ j. few (a j + b j)) ∙ few_more (sum_by (λ p. get_or row p 0) xs) (get_or row c 0) ∙ ap few (sym (sum_by_push (λ p. get_or row p 0) xs c))

pub common_one : (q : Part) (n : ℕ) → common_multiple (q ∷ []) n ≡ word_or_zero (lcm n q.by)
unfolding common_multiple
common_one q n = refl

pub common_more :
    (row xs : List ℕ) (c number more : ℕ) (all : Option ℕ) → number ≡ common_multiple (numbered row xs) 1 → more ≡ get_or row c 0 → all ≡ word_number (lcm number more) →
    unwrap_or all 0 ≡ common_multiple (numbered row (xs ++ (c ∷ []))) 1
common_more row xs c number more all a b t =
    let q : Part = record { who = c; by = get_or row c 0 } in
    ap (λ m. unwrap_or m 0) t ∙ number_back (lcm number more) ∙ (λ j. word_or_zero (lcm (a j) (b j))) ∙ sym (common_one q (common_multiple (numbered row xs) 1))
    ∙ sym (common_multiple_append (numbered row xs) (q ∷ []) 1) ∙ ap (λ ps. common_multiple ps 1) (sym (map-append (λ p. record { who = p; by = get_or row p 0 }) xs (c ∷ [])))

pub common_none : common_multiple [] 1 ≡ 1
unfolding common_multiple
common_none = refl

-- all lines were met
pub parts_all : (row ds : List ℕ) (lines parts : ℕ) → lines ≡ length ds → parts ≡ few (sum_by (λ p. get_or row p 0) ds) → cond (eqb lines 0) 1 parts ≡ count_step ds row
unfolding count_step
parts_all row [] lines parts e p = ap (λ k. cond (eqb k 0) 1 parts) e
parts_all row (d ∷ ds) lines parts e p = cond-false (eqb lines 0) 1 parts (ne_eqb lines 0 (λ z. omega arith)) ∙ p

pub common_all :
    (row ds : List ℕ) (lines number : ℕ) → lines ≡ length ds → number ≡ common_multiple (numbered row ds) 1 → cond (eqb lines 0) 1 (word_or_zero (lines * number)) ≡ multiple_step ds row
unfolding multiple_step
common_all row [] lines number e p = ap (λ k. cond (eqb k 0) 1 (word_or_zero (k * number))) e
common_all row (d ∷ ds) lines number e p =
    cond-false (eqb lines 0) 1 (word_or_zero (lines * number)) (ne_eqb lines 0 (λ z. omega arith)) ∙ (λ j. word_or_zero (e j * p j))
