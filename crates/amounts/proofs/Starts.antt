-- The lines that an estate begins with: how many parts they have, over which number, and what they begin with together. Assumes nothing.
use Rattle.std.proofs.Common.{◌≡◌, ℕ, zero, suc, ◌+◌, ◌*◌, ◌%◌, ◌<◌, ◌≤◌, true, eqb, leb, List, [], ◌∷◌, ◌++◌, map, length, get_or, sum_by, sym, refl, ap, ◌∙◌, subst, ap₂, ⊎_elim, arith}
use Rattle.std.specs.List.{AllByRecursion}
use Rattle.std.proofs.lemmas.List.{length-append}
use Rattle.std.proofs.ByRecursion.{All-weaker, All-map}
use Rattle.std.proofs.lemmas.Bool.{cases_lt, and_from, and_parts, lt-leb}
use Rattle.law.specs.Family.{Family, Part, line_parts, repeated}
use Rattle.law.specs.Calls.{common_multiple, divides_all}
use Rattle.theory.specs.Families.{Ranked}
use Rattle.theory.specs.Living.{alive}
use Rattle.theory.specs.Multiples.{Divides}
use Rattle.theory.proofs.Lists.{all_any}
use Rattle.theory.proofs.Parts.{Positive, divides_append, divides_both, length-repeated}
use Rattle.theory.proofs.Multiples.{divides_test, test_divides, common_multiple_append, common_multiple_below, common_multiple_cong, common_multiple_repeated}
use Rattle.amounts.specs.Passes.{is_in, filled_up, few, count_step, word_or_zero, multiple_step, starts_count, starts_numbers}
use Rattle.amounts.specs.Lines.{divided_among, part_count, line_multiple, starts_parts}
use Rattle.amounts.specs.Statements.{Listing, Starts, LimitsRight}
use Rattle.amounts.proofs.Rows.{line_count, sumBy_cong, length-joined}
use Rattle.amounts.proofs.Multiples.{times_positive, multiple_enough, multiple_least, word_times, cut_part, common_multiple_words}
use Rattle.amounts.proofs.Lines.{few_small, few_large, few_sum, line_multiple_positive, multiple_by, counts_filled, multiples_filled}

-- how many parts
pub length-starts : (g : Family) (ss : List Part) → length (starts_parts g ss) ≡ sum_by (λ (p : Part). part_count g p.who) ss
length-starts g ss =
    length-joined (λ (p : Part). line_parts g (length g) p.who p.by) ss
    ∙ sumBy_cong (λ (p : Part). length (line_parts g (length g) p.who p.by)) (λ (p : Part). part_count g p.who) ss
    (all_any (λ (p : Part). length (line_parts g (length g) p.who p.by) ≡ part_count g p.who) (λ p. line_count g (length g) p.who p.by) ss)

-- a number that is cut at 4,097 is as good for the test
few_test : (a t x y : ℕ) → 0 < t → few y ≡ few x → leb (a + t * x) 4096 ≡ leb (a + t * y) 4096
few_test a t x y l e =
    ⊎_elim
    (λ (i : 4096 < x).
    ⊎_elim (λ (j : 4096 < y). lt-leb (a + t * x) 4096 (many x t l i) ∙ sym (lt-leb (a + t * y) 4096 (many y t l j)))
    (λ (j : y ≤ 4096). absurd (let u = few_large x i in let v = few_small y j in omega (arith, sym u ∙ (sym e ∙ v)))) (cases_lt 4096 y))
    (λ (i : x ≤ 4096).
    ⊎_elim (λ (j : 4096 < y). absurd (let u = few_small x i in let v = few_large y j in omega (arith, sym v ∙ (e ∙ u))))
    (λ (j : y ≤ 4096). ap (λ (z : ℕ). leb (a + t * z) 4096) (sym (few_small x i) ∙ (sym e ∙ few_small y j))) (cases_lt 4096 y))
    (cases_lt 4096 x)
  where
    many : (x t : ℕ) → 0 < t → 4096 < x → 4096 < a + t * x
    many x zero l h = absurd (omega arith)
    many x (suc t) l h = let z : x ≤ suc t * x = omega arith in omega arith

-- the starts with what each needs, however large
abbrev full_numbers : Family → List Part → List Part
full_numbers g ss = map (λ (p : Part). record { who = p.who; by = p.by * line_multiple g p.who }) ss

module _ {g : Family} {rk : ℕ → ℕ} (s : Ranked g rk) where
  full_positive : (ss : List Part) → AllByRecursion Positive ss → AllByRecursion Positive (full_numbers g ss)
  full_positive ss a =
      All-map Positive (λ (p : Part). record { who = p.who; by = p.by * line_multiple g p.who }) ss
      (All-weaker Positive (λ (p : Part). 0 < p.by * line_multiple g p.who) (λ p l. times_positive p.by (line_multiple g p.who) l (line_multiple_positive s p.who)) ss a)

  -- they divide just what all parts divide
  full_enough : (n : ℕ) (ss : List Part) → AllByRecursion (λ (p : Part). alive g p.who ≡ true) ss → divides_all n (full_numbers g ss) ≡ true → divides_all n (starts_parts g ss) ≡ true
  unfolding divides_all
  full_enough n [] a h = refl
  full_enough n (p ∷ ss) a h =
      let m = p.by * line_multiple g p.who in
      let r = and_parts (eqb (n % m) 0) (divides_all n (full_numbers g ss)) h in
      let row = line_parts g (length g) p.who p.by in
      divides_append n row (starts_parts g ss)
      ∙ and_from (divides_all n row) (divides_all n (starts_parts g ss))
      (multiple_enough n row (subst (λ (k : ℕ). Divides k n) (sym (multiple_by s p.who p.by a.0)) (test_divides m n r.0))) (full_enough n ss a.1 r.1)

  full_least : (n : ℕ) (ss : List Part) → AllByRecursion (λ (p : Part). alive g p.who ≡ true) ss → divides_all n (starts_parts g ss) ≡ true → divides_all n (full_numbers g ss) ≡ true
  unfolding divides_all
  full_least n [] a h = refl
  full_least n (p ∷ ss) a h =
      let m = p.by * line_multiple g p.who in
      let row = line_parts g (length g) p.who p.by in
      let r = divides_both n row (starts_parts g ss) h in
      and_from (eqb (n % m) 0) (divides_all n (full_numbers g ss))
      (divides_test m n (subst (λ (k : ℕ). Divides k n) (multiple_by s p.who p.by a.0) (multiple_least n row r.0))) (full_least n ss a.1 r.1)

  beside : (n : ℕ) (lead ps qs : List Part) → (divides_all n ps ≡ true → divides_all n qs ≡ true) → divides_all n (lead ++ ps) ≡ true → divides_all n (lead ++ qs) ≡ true
  beside n lead ps qs f h =
      let r = divides_both n lead ps h in
      divides_append n lead qs ∙ and_from (divides_all n lead) (divides_all n qs) r.0 (f r.1)

  -- the least number of all parts, with a row beside them, of which the parts count any number of times
  number_full : (lead ss : List Part) (t : ℕ) → AllByRecursion (λ (p : Part). alive g p.who ≡ true) ss
      → common_multiple (lead ++ repeated (suc t) (starts_parts g ss)) 1 ≡ common_multiple (lead ++ full_numbers g ss) 1
  number_full lead ss t a =
      common_multiple_append lead (repeated (suc t) (starts_parts g ss)) 1
      ∙ (common_multiple_repeated t (starts_parts g ss) (common_multiple lead 1) (common_multiple_below lead 1 (omega arith))
      ∙ (sym (common_multiple_append lead (starts_parts g ss) 1)
      ∙ common_multiple_cong (lead ++ starts_parts g ss) (lead ++ full_numbers g ss) (λ n h. beside n lead (starts_parts g ss) (full_numbers g ss) (full_least n ss a) h)
      (λ n h. beside n lead (full_numbers g ss) (starts_parts g ss) (full_enough n ss a) h)))

  module _ (os row : List ℕ) (h : Listing g os) (l : length g ≤ length row) where
    abbrev counts : List ℕ
    counts = filled_up count_step (divided_among g) os row

    abbrev multiples : List ℕ
    multiples = filled_up multiple_step (divided_among g) os row

    -- the numbers that the passes leave, cut
    numbers_cut : (ss : List Part) → AllByRecursion (λ (p : Part). is_in p.who os ≡ true) ss → starts_numbers multiples ss ≡ map cut_part (full_numbers g ss)
    numbers_cut [] a = refl
    numbers_cut (p ∷ ss) a =
        ap₂ (λ (x : ℕ) (ps : List Part). record { who = p.who; by = x } ∷ ps)
        (ap (λ (x : ℕ). word_or_zero (p.by * x)) (multiples_filled s os row h l p.who a.0) ∙ word_times p.by (line_multiple g p.who)) (numbers_cut ss a.1)

    pub number_right : (lead ss : List Part) (t : ℕ) → Starts g os ss → 0 < t
        → common_multiple (lead ++ repeated t (starts_parts g ss)) 1 ≡ common_multiple (lead ++ starts_numbers multiples ss) 1
    number_right lead ss zero b k = absurd (omega arith)
    number_right lead ss (suc t) b k =
        number_full lead ss t b.living
        ∙ (common_multiple_append lead (full_numbers g ss) 1
        ∙ (sym (common_multiple_words (full_numbers g ss) (common_multiple lead 1) (full_positive ss b.positive))
        ∙ (ap (λ (ps : List Part). common_multiple ps (common_multiple lead 1)) (sym (numbers_cut ss b.listed)) ∙ sym (common_multiple_append lead (starts_numbers multiples ss) 1))))

    pub count_test : (lead ss : List Part) (t : ℕ) → Starts g os ss → 0 < t
        → leb (length (lead ++ repeated t (starts_parts g ss))) 4096 ≡ leb (length lead + t * starts_count counts ss) 4096
    count_test lead ss t b k =
        ap (λ (x : ℕ). leb x 4096)
        (length-append lead (repeated t (starts_parts g ss))
        ∙ ap (λ (x : ℕ). length lead + x) (length-repeated t (starts_parts g ss) ∙ ap (λ (x : ℕ). t * x) (length-starts g ss)))
        ∙ few_test (length lead) t (sum_by (λ (p : Part). part_count g p.who) ss) (starts_count counts ss) k
        (ap few
        (sumBy_cong (λ (p : Part). get_or counts p.who 0) (λ (p : Part). few (part_count g p.who)) ss
        (All-weaker (λ (p : Part). is_in p.who os ≡ true) (λ (p : Part). get_or counts p.who 0 ≡ few (part_count g p.who)) (λ p i. counts_filled s os row h l p.who i) ss b.listed))
        ∙ few_sum (λ (p : Part). part_count g p.who) ss)

pub limits_right : LimitsRight
unfolding LimitsRight
limits_right g rk os row lead ss t s h b l k = (count_test s os row h l lead ss t b k, number_right s os row h l lead ss t b k)
