-- A line's number of parts and its least multiple, from those of the lines below; and the same where both are cut, as the passes work them out. Assumes nothing.
use Rattle.std.proofs.Common.{◌≡◌, ℕ, ◌+◌, ◌*◌, ◌<◌, ◌≤◌, true, false, leb, List, [], ◌∷◌, map, length, get_or, sum_by, sym, refl, ap, ◌∙◌, subst, ap₂, ⊎_elim, arith}
use Rattle.std.specs.List.{AllByRecursion}
use Rattle.std.proofs.lemmas.List.{length-map}
use Rattle.std.proofs.ByRecursion.{All-weaker, All-map}
use Rattle.std.proofs.lemmas.List.Sums.{sum_by-cons}
use Rattle.std.proofs.lemmas.Bool.{cases_lt, cases_Bool, le-leb, lt-leb, cond-true, cond-false}
use Rattle.law.specs.Family.{person, Family, Part, line_parts}
use Rattle.law.specs.Calls.{gcd_in, common_multiple}
use Rattle.theory.specs.Families.{Ranked}
use Rattle.theory.specs.Living.{alive, lines_below}
use Rattle.theory.proofs.Lists.{all_any}
use Rattle.theory.proofs.Lines.{stands_dead, below_lives}
use Rattle.theory.proofs.Living.{parts_lives, parts_dead}
use Rattle.theory.proofs.Parts.{Positive, divided_below, line_positive, line_some}
use Rattle.theory.proofs.Multiples.{common_multiple_is}
use Rattle.amounts.specs.Passes.{is_in, filled_up, few, count_step, word_or_zero, numbered, multiple_step}
use Rattle.amounts.specs.Lines.{divided_among, part_count, parts_multiple, line_multiple}
use Rattle.amounts.specs.Statements.{Listing, CountsRight, MultiplesRight}
use Rattle.amounts.proofs.Members.{in_all}
use Rattle.amounts.proofs.Upward.{filled_right}
use Rattle.amounts.proofs.Rows.{scaled, line_scaled, line_count, sumBy_cong, length-joined}
use Rattle.amounts.proofs.Multiples.{multiple_divides, multiple_least, multiple_positive, multiple_joined, multiple_scaled, word_times, cut_part, common_multiple_words}

-- the cut at 4,097
pub few_small : (k : ℕ) → k ≤ 4096 → few k ≡ k
few_small k l = cond-true (leb k 4096) k 4097 (le-leb k 4096 l)

pub few_large : (k : ℕ) → 4096 < k → few k ≡ 4097
few_large k l = cond-false (leb k 4096) k 4097 (lt-leb k 4096 l)

pub few_plus : (x y z : ℕ) → few y ≡ few z → few (few x + y) ≡ few (x + z)
few_plus x y z e =
    ⊎_elim (λ (h : 4096 < x). few_large (few x + y) (let q = few_large x h in omega arith) ∙ sym (few_large (x + z) (omega arith)))
    (λ (h : x ≤ 4096).
    let q : few x ≡ x = few_small x h in
    ⊎_elim
    (λ (i : 4096 < y).
    ⊎_elim (λ (j : 4096 < z). few_large (few x + y) (omega arith) ∙ sym (few_large (x + z) (omega arith)))
    (λ (j : z ≤ 4096). absurd (let u = few_large y i in let v = few_small z j in omega (arith, sym u ∙ (e ∙ v)))) (cases_lt 4096 z))
    (λ (i : y ≤ 4096).
    ⊎_elim (λ (j : 4096 < z). absurd (let u = few_small y i in let v = few_large z j in omega (arith, sym u ∙ (e ∙ v))))
    (λ (j : z ≤ 4096). ap₂ (λ (u v : ℕ). few (u + v)) q (sym (few_small y i) ∙ (e ∙ few_small z j))) (cases_lt 4096 z))
    (cases_lt 4096 y))
    (cases_lt 4096 x)

pub few_sum : {X : Type 0} (g : X → ℕ) (xs : List X) → few (sum_by (λ x. few (g x)) xs) ≡ few (sum_by g xs)
few_sum g [] = refl
few_sum g (x ∷ xs) =
    ap few (sum_by-cons (λ y. few (g y)) x xs) ∙ (few_plus (g x) (sum_by (λ y. few (g y)) xs) (sum_by g xs) (few_sum g xs) ∙ ap few (sym (sum_by-cons g x xs)))

-- the least common multiple of positive numbers, cut
pub common_multiple_cut_off : (ps : List Part) → AllByRecursion Positive ps → common_multiple ps 1 ≡ word_or_zero (parts_multiple ps)
common_multiple_cut_off ps a = common_multiple_is ps (parts_multiple ps) (multiple_positive ps a) (multiple_divides ps) (λ m h. multiple_least m ps h)

-- a step upward from somebody with lines below
count_many : (cs row : List ℕ) → 0 < length cs → count_step cs row ≡ few (sum_by (λ p. get_or row p 0) cs)
unfolding count_step
count_many [] row l = absurd (omega arith)
count_many (c ∷ cs) row l = refl

multiple_many : (cs row : List ℕ) → 0 < length cs → multiple_step cs row ≡ word_or_zero (length cs * common_multiple (numbered row cs) 1)
unfolding multiple_step
multiple_many [] row l = absurd (omega arith)
multiple_many (c ∷ cs) row l = refl

numbered_by : (row : List ℕ) (value : ℕ → ℕ) (cs : List ℕ) → AllByRecursion (λ c. get_or row c 0 ≡ value c) cs → numbered row cs ≡ map (λ c. record { who = c; by = value c }) cs
numbered_by row value [] a = refl
numbered_by row value (c ∷ cs) a = ap₂ (λ (x : ℕ) (ps : List Part). record { who = c; by = x } ∷ ps) a.0 (numbered_by row value cs a.1)

map-map : {X Y Z : Type 0} (h : Y → Z) (g : X → Y) (xs : List X) → map h (map g xs) ≡ map (λ x. h (g x)) xs
map-map h g [] = refl
map-map {X} {Y} {Z} h g (x ∷ xs) = ap (λ (zs : List Z). h (g x) ∷ zs) (map-map h g xs)

module _ {g : Family} {rk : ℕ → ℕ} (s : Ranked g rk) where
  -- who lives has it; else it is divided among the lines below, and where the line lives there are some
  pub among_lives : (p : ℕ) → (person g p).lives ≡ true → divided_among g p ≡ []
  among_lives p v = cond-true (person g p).lives [] (lines_below g (length g) p) v

  pub among_dead : (p : ℕ) → (person g p).lives ≡ false → divided_among g p ≡ lines_below g (length g) p
  among_dead p v = cond-false (person g p).lives [] (lines_below g (length g) p) v

  pub some_below : (p : ℕ) → alive g p ≡ true → (person g p).lives ≡ false → 0 < length (lines_below g (length g) p)
  some_below p a v = divided_below s (length g) p a (stands_dead g (length g) p v)

  -- the number of parts
  pub count_lives : (p : ℕ) → (person g p).lives ≡ true → part_count g p ≡ 1
  count_lives p v = ap length (parts_lives s p 1 v)

  pub count_dead : (p : ℕ) → (person g p).lives ≡ false → part_count g p ≡ sum_by (λ c. part_count g c) (lines_below g (length g) p)
  count_dead p v =
      let ws = lines_below g (length g) p in
      ap length (parts_dead s p 1 v)
      ∙ (length-joined (λ c. line_parts g (length g) c (1 * length ws)) ws
      ∙ sumBy_cong (λ c. length (line_parts g (length g) c (1 * length ws))) (λ c. part_count g c) ws
      (all_any (λ c. length (line_parts g (length g) c (1 * length ws)) ≡ part_count g c) (λ c. line_count g (length g) c (1 * length ws)) ws))

  pub count_right : (p : ℕ) (row : List ℕ) → alive g p ≡ true → AllByRecursion (λ c. get_or row c 0 ≡ few (part_count g c)) (divided_among g p)
      → count_step (divided_among g p) row ≡ few (part_count g p)
  unfolding count_step
  count_right p row a h =
      ⊎_elim (λ (v : (person g p).lives ≡ true). ap (λ (cs : List ℕ). count_step cs row) (among_lives p v) ∙ ap few (sym (count_lives p v)))
      (λ (v : (person g p).lives ≡ false).
      let ws = lines_below g (length g) p in
      ap (λ (cs : List ℕ). count_step cs row) (among_dead p v)
      ∙ (count_many ws row (some_below p a v)
      ∙ (ap few (sumBy_cong (λ c. get_or row c 0) (λ c. few (part_count g c)) ws (subst (AllByRecursion (λ c. get_or row c 0 ≡ few (part_count g c))) (among_dead p v) h))
      ∙ (few_sum (λ c. part_count g c) ws ∙ ap few (sym (count_dead p v))))))
      (cases_Bool (person g p).lives)

  -- the least multiple
  pub line_multiple_positive : (p : ℕ) → 0 < line_multiple g p
  line_multiple_positive p = multiple_positive (line_parts g (length g) p 1) (line_positive g (length g) p 1 (omega arith))

  pub multiple_by : (p b : ℕ) → alive g p ≡ true → parts_multiple (line_parts g (length g) p b) ≡ b * line_multiple g p
  multiple_by p b a = ap parts_multiple (line_scaled g (length g) p b) ∙ multiple_scaled b (line_parts g (length g) p 1) (line_some s (length g) p 1 a)

  pub multiple_lives : (p : ℕ) → (person g p).lives ≡ true → line_multiple g p ≡ 1
  unfolding parts_multiple gcd_in
  multiple_lives p v = ap parts_multiple (parts_lives s p 1 v)

  -- persons with their lines' least multiples, as parts
  abbrev multiples : List ℕ → List Part
  multiples ps = map (λ p. record { who = p; by = line_multiple g p }) ps

  multiples_positive : (ps : List ℕ) → AllByRecursion Positive (multiples ps)
  multiples_positive ps = All-map Positive (λ p. record { who = p; by = line_multiple g p }) ps (all_any (λ p. 0 < line_multiple g p) line_multiple_positive ps)

  pub multiple_dead : (p : ℕ) → alive g p ≡ true → (person g p).lives ≡ false
      → line_multiple g p ≡ length (lines_below g (length g) p) * parts_multiple (multiples (lines_below g (length g) p))
  multiple_dead p a v =
      let ws = lines_below g (length g) p in
      let k = 1 * length ws in
      ap parts_multiple (parts_dead s p 1 v)
      ∙ (multiple_joined (λ c. line_parts g (length g) c k) ws
      ∙ (ap parts_multiple (each k ws (below_lives g (length g) p))
      ∙ (multiple_scaled k (multiples ws) (let l = some_below p a v in let e : length (multiples ws) ≡ length ws = length-map ws (λ (c : ℕ). record { who = c; by = line_multiple g c }) in omega arith)
      ∙ ap (λ (x : ℕ). x * parts_multiple (multiples ws)) (one (length ws)))))
    where
      one : (k : ℕ) → 1 * k ≡ k
      one k = omega arith

      each : (k : ℕ) (ws : List ℕ) → AllByRecursion (λ c. alive g c ≡ true) ws
          → map (λ c. record { who = c; by = parts_multiple (line_parts g (length g) c k) }) ws ≡ map (scaled k) (multiples ws)
      each k [] h = refl
      each k (w ∷ ws) h = ap₂ (λ (x : ℕ) (ps : List Part). record { who = w; by = x } ∷ ps) (multiple_by w k h.0) (each k ws h.1)

  pub multiple_right : (p : ℕ) (row : List ℕ) → alive g p ≡ true → AllByRecursion (λ c. get_or row c 0 ≡ word_or_zero (line_multiple g c)) (divided_among g p)
      → multiple_step (divided_among g p) row ≡ word_or_zero (line_multiple g p)
  unfolding multiple_step
  multiple_right p row a h =
      ⊎_elim (λ (v : (person g p).lives ≡ true). ap (λ (cs : List ℕ). multiple_step cs row) (among_lives p v) ∙ ap word_or_zero (sym (multiple_lives p v)))
      (λ (v : (person g p).lives ≡ false).
      let ws = lines_below g (length g) p in
      let e : common_multiple (numbered row ws) 1 ≡ word_or_zero (parts_multiple (multiples ws)) =
      ap (λ (ps : List Part). common_multiple ps 1)
      (numbered_by row (λ c. word_or_zero (line_multiple g c)) ws (subst (AllByRecursion (λ c. get_or row c 0 ≡ word_or_zero (line_multiple g c))) (among_dead p v) h)
      ∙ sym (map-map cut_part (λ c. record { who = c; by = line_multiple g c }) ws))
      ∙ (common_multiple_words (multiples ws) 1 (multiples_positive ws) ∙ common_multiple_cut_off (multiples ws) (multiples_positive ws)) in
      ap (λ (cs : List ℕ). multiple_step cs row) (among_dead p v)
      ∙ (multiple_many ws row (some_below p a v)
      ∙ (ap (λ (x : ℕ). word_or_zero (length ws * x)) e ∙ (word_times (length ws) (parts_multiple (multiples ws)) ∙ ap word_or_zero (sym (multiple_dead p a v))))))
      (cases_Bool (person g p).lives)

  -- upward along a listing
  module _ (os row : List ℕ) (h : Listing g os) (l : length g ≤ length row) where
    within_row : AllByRecursion (λ q. q < length row) os
    within_row = All-weaker (λ q. q < length g) (λ q. q < length row) (λ q k. omega arith) os h.there

    pub counts_filled : (w : ℕ) → is_in w os ≡ true → get_or (filled_up count_step (divided_among g) os row) w 0 ≡ few (part_count g w)
    counts_filled =
        filled_right count_step (divided_among g) (λ q. few (part_count g q)) os row h.order within_row
        (All-weaker (λ q. alive g q ≡ true)
        (λ q. (r : List ℕ) → AllByRecursion (λ c. get_or r c 0 ≡ few (part_count g c)) (divided_among g q) → count_step (divided_among g q) r ≡ few (part_count g q))
        (λ q a r k. count_right q r a k) os h.living)

    pub multiples_filled : (w : ℕ) → is_in w os ≡ true → get_or (filled_up multiple_step (divided_among g) os row) w 0 ≡ word_or_zero (line_multiple g w)
    multiples_filled =
        filled_right multiple_step (divided_among g) (λ q. word_or_zero (line_multiple g q)) os row h.order within_row
        (All-weaker (λ q. alive g q ≡ true)
        (λ q. (r : List ℕ) → AllByRecursion (λ c. get_or r c 0 ≡ word_or_zero (line_multiple g c)) (divided_among g q) → multiple_step (divided_among g q) r ≡ word_or_zero (line_multiple g q))
        (λ q a r k. multiple_right q r a k) os h.living)

pub counts_right : CountsRight
unfolding CountsRight
counts_right g rk os row s h l =
    in_all (λ q. get_or (filled_up count_step (divided_among g) os row) q 0 ≡ few (part_count g q)) os (counts_filled s os row h l)

pub multiples_right : MultiplesRight
unfolding MultiplesRight
multiples_right g rk os row s h l =
    in_all (λ q. get_or (filled_up multiple_step (divided_among g) os row) q 0 ≡ word_or_zero (line_multiple g q)) os (multiples_filled s os row h l)
