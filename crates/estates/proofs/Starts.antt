-- Lines to begin with, one by one: listed, measured, and given their pieces. Assumes nothing.
use Rattle.std.proofs.Common.{◌≡◌, ℕ, ◌+◌, ◌*◌, ◌/◌, ◌<◌, ◌≤◌, List, [], ◌∷◌, map, length, get_or, take, drop, set, sum, ltb, Option, unwrap_or, sym, refl, ap, ◌∙◌, arith}
use Rattle.std.specs.List.{AllByRecursion}
use Rattle.std.proofs.lemmas.List.{take_more, drop_more, drop_all, map-append, get_or-set_same, length-set}
use Rattle.std.proofs.ByRecursion.{All-weaker, All-drop}
use Rattle.std.proofs.lemmas.List.Sums.{sum_by_more}
use Rattle.std.proofs.lemmas.Bool.{cond-true, lt-ltb}
use Rattle.law.specs.Family.{Family, Part}
use Rattle.law.specs.Calls.{common_multiple}
use Rattle.theory.specs.Families.{Ranked}
use Rattle.theory.specs.Multiples.{lcm}
use Rattle.shares.specs.Parts.{word_number}
use Rattle.theory.proofs.Multiples.{common_multiple_append, common_multiple_below}
use Rattle.amounts.specs.Statements.{Listing}
use Rattle.amounts.proofs.Listing.{listing}
use Rattle.amounts.specs.Passes.{InDescentOrder, few, word_or_zero, started, starts_count, starts_numbers}
use Rattle.amounts.proofs.Downward.{sum_started, one_most}
use Rattle.passes.proofs.Steps.{number_back, number_again, few_more, common_one}

-- a part that stands for none
abbrev pub no_part : Part
no_part = record { who = 0; by = 0 }

-- nobody is listed at first
pub none_listed : {f : Family} {rk : ℕ → ℕ} → Ranked f rk → Listing f []
unfolding InDescentOrder
none_listed s = listing s [] tt tt

pub no_numbers : (first : ℕ) → common_multiple [] first ≡ first
unfolding common_multiple
no_numbers first = refl

-- one line more is measured
pub parts_start :
    (row : List ℕ) (ss : List Part) (i : ℕ) (none s : Part) (parts more all : ℕ) → i < length ss → s ≡ get_or ss i none → parts ≡ few (starts_count row (take i ss)) → more ≡ get_or row s.who 0 →
    all ≡ few (parts + more) → all ≡ few (starts_count row (take (i + 1) ss))
parts_start row ss i none s parts more all h e a b t =
    t ∙ (λ j. few (a j + (b ∙ ap (λ (q : Part). get_or row q.who 0) e) j)) ∙ few_more (starts_count row (take i ss)) (get_or row (get_or ss i none).who 0)
    ∙ ap few (sym (sum_by_more (λ (q : Part). get_or row q.who 0) ss i none h))

pub number_start :
    (row : List ℕ) (ss : List Part) (first i : ℕ) (none s : Part) (number more all : Option ℕ) → first < 4294967296 → i < length ss → s ≡ get_or ss i none →
    number ≡ word_number (common_multiple (starts_numbers row (take i ss)) first) → unwrap_or more 0 ≡ word_or_zero (s.by * get_or row s.who 0) →
    all ≡ word_number (lcm (unwrap_or number 0) (unwrap_or more 0)) → all ≡ word_number (common_multiple (starts_numbers row (take (i + 1) ss)) first)
number_start row ss first i none s number more all small h e a b t =
    let numbered : Part → Part = λ q. record { who = q.who; by = word_or_zero (q.by * get_or row q.who 0) } in
    let q : Part = numbered (get_or ss i none) in
    let was = common_multiple (starts_numbers row (take i ss)) first in
    let before : unwrap_or number 0 ≡ was =
    ap (λ m. unwrap_or m 0) a ∙ number_back was ∙ cond-true (ltb was 4294967296) was 0 (lt-ltb was 4294967296 (common_multiple_below (starts_numbers row (take i ss)) first small)) in
    let next : word_or_zero (lcm was q.by) ≡ common_multiple (starts_numbers row (take (i + 1) ss)) first =
    sym (common_one q was) ∙ sym (common_multiple_append (starts_numbers row (take i ss)) (q ∷ []) first)
    ∙ ap (λ xs. common_multiple xs first) (sym (ap (map numbered) (take_more ss i none h) ∙ map-append numbered (take i ss) (get_or ss i none ∷ []))) in
    t ∙ (λ j. word_number (lcm (before j) ((b ∙ ap (λ (x : Part). word_or_zero (x.by * get_or row x.who 0)) e) j))) ∙ sym (number_again (lcm was q.by)) ∙ ap word_number next

-- one line more is given its pieces
pub started_turn :
    (times n : ℕ) (ss : List Part) (i : ℕ) (none s : Part) (row : List ℕ) → i < length ss → s ≡ get_or ss i none →
    started times n (drop i ss) row ≡ started times n (drop (i + 1) ss) (set row s.who (get_or row s.who 0 + times * (n / s.by)))
unfolding started
started_turn times n ss i none s row h e =
    ap (λ qs. started times n qs row) (drop_more ss i none h)
    ∙ ap (λ (q : Part). started times n (drop (i + 1) ss) (set row q.who (get_or row q.who 0 + times * (n / q.by)))) (sym e)

pub started_end : (times n : ℕ) (ss : List Part) (i : ℕ) (row : List ℕ) → length ss ≤ i → started times n (drop i ss) row ≡ row
unfolding started
started_end times n ss i row h = ap (λ qs. started times n qs row) (drop_all i ss h)

pub start_fits :
    (times n : ℕ) (ss : List Part) (i : ℕ) (s : Part) (row final : List ℕ) → AllByRecursion (λ (q : Part). q.who < length row) ss → s.who < length row →
    started times n (drop (i + 1) ss) (set row s.who (get_or row s.who 0 + times * (n / s.by))) ≡ final → sum final < 4294967296 → get_or row s.who 0 + times * (n / s.by) < 4294967296
start_fits times n ss i s row final there h is small =
    let v = get_or row s.who 0 + times * (n / s.by) in
    let r : List ℕ = set row s.who v in
    let long = length-set row s.who v in
    let all =
    sum_started times n (drop (i + 1) ss) r
    (All-weaker (λ (q : Part). q.who < length row) (λ (q : Part). q.who < length r) (λ q k. omega arith) (drop (i + 1) ss) (All-drop (λ (q : Part). q.who < length row) (i + 1) ss there)) in
    let one = one_most r s.who in
    let same = get_or-set_same row s.who v 0 h in
    let e = ap sum is in
    omega arith
