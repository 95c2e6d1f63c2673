-- An estate by the numbers of the passes: by which number it is divided, who the heirs are, and what they have. Assumes nothing.
use Rattle.std.proofs.Common.{◌≡◌, ℕ, zero, suc, ◌+◌, ◌*◌, ◌<◌, ◌≤◌, Bool, true, false, cond, not, ◌&&◌, eqb, ltb, leb, ◌⊎◌, List, [], ◌∷◌, ◌++◌, length, get_or, replicate, Some, None, Option, sum, sym, refl, ap, ◌∙◌, inl, inr, ⊎_elim, arith}
use Rattle.std.specs.List.{AllByRecursion}
use Rattle.std.proofs.lemmas.List.{length-replicate}
use Rattle.std.proofs.ByRecursion.{All-weaker}
use Rattle.std.proofs.lemmas.Bool.{cases_lt, cases_eq, cases_Bool, cond-true, cond-false, lt-leb, lt-ltb, eq-eqb, ne_eqb, eqb-false}
use Rattle.law.specs.Family.{Family, Part}
use Rattle.law.specs.Calls.{common_multiple}
use Rattle.theory.specs.Families.{Ranked}
use Rattle.theory.specs.Living.{alive}
use Rattle.theory.specs.Decedent.{kept_estate}
use Rattle.theory.proofs.Multiples.{common_multiple_append, common_multiple_below}
use Rattle.bits.specs.Sets.{with_member, no_member}
use Rattle.shares.specs.Parts.{lead_parts, word_number, number_of}
use Rattle.succession.specs.declared.Beside.{Beside}
use Rattle.shares.specs.Work.{has_pieces}
use Rattle.amounts.specs.Passes.{is_in, few, started, starts_count, starts_numbers}
use Rattle.amounts.specs.Estates.{relatives_times, spouse_lead, estate_starts, estate_counts, estate_multiples}
use Rattle.amounts.proofs.Members.{in_cases, in_none}
use Rattle.amounts.proofs.Lines.{few_small, few_large}
use Rattle.amounts.proofs.Listing.{alive_there}
use Rattle.amounts.proofs.Cleared.{replicate_nothing}
use Rattle.amounts.proofs.Estates.{estate_passes}
use Rattle.passes.specs.Heirs.{with_heir, heirs_of}
use Rattle.estates.proofs.Areas.{amounts_in}

-- whether parts are too many, where their number is cut off
times_more : (times x : ℕ) → 0 < times → x ≤ times * x
times_more zero x h = absurd (omega arith)
times_more (suc t) x h = omega arith

pub few_times : (lead times x : ℕ) → 0 < times → leb (lead + times * few x) 4096 ≡ leb (lead + times * x) 4096
few_times lead times x h =
    ⊎_elim
    (λ (l : 4096 < x).
    let e = few_large x l in
    let a = times_more times (few x) h in
    let b = times_more times x h in
    lt-leb (lead + times * few x) 4096 (omega arith) ∙ sym (lt-leb (lead + times * x) 4096 (omega arith)))
    (λ (l : x ≤ 4096). ap (λ k. leb (lead + times * k) 4096) (few_small x l)) (cases_lt 4096 x)

-- a number that fits a word, within a limit
limited : (b : Bool) (k : ℕ) → k < 4294967296 → cond b (word_number k) None ≡ cond (b && not (eqb k 0)) (Some k) None
limited false k h = refl
limited true k h = rw (lt-ltb k 4294967296 h) (by (eqb k 0))
  where
    by : (t : Bool) → cond t None (Some k) ≡ cond (not t) (Some k) None
    by true = refl
    by false = refl

-- the number that an estate is divided by
module _ {f : Family} {rk : ℕ → ℕ} (ranked : Ranked f rk) (d n : ℕ) (room : length f ≤ n) where
  abbrev zeros : List ℕ
  zeros = replicate n 0

  long : length f ≤ length zeros
  long = omega (arith, length-replicate {A = ℕ} n 0)

  pub number_right :
      (beside : Beside) (parts : ℕ) (multiple : Option ℕ) → lead_parts beside.lead ≡ spouse_lead f d → beside.times ≡ relatives_times f d → 0 < beside.times →
      parts ≡ few (starts_count (estate_counts f d zeros) (estate_starts f d)) →
      multiple ≡ word_number (common_multiple (starts_numbers (estate_multiples f d zeros) (estate_starts f d)) (common_multiple (lead_parts beside.lead) 1)) →
      cond (leb (length (lead_parts beside.lead) + beside.times * parts) 4096) multiple None ≡ number_of (kept_estate f d)
  number_right beside parts multiple l t some p m =
      let lead = lead_parts beside.lead in
      let by = estate_passes ranked d in
      let count = starts_count (estate_counts f d zeros) (estate_starts f d) in
      let numbers = starts_numbers (estate_multiples f d zeros) (estate_starts f d) in
      let row = kept_estate f d in
      let many : leb (length lead + beside.times * parts) 4096 ≡ leb (length row) 4096 =
      ap (λ k. leb (length lead + beside.times * k) 4096) p ∙ few_times (length lead) beside.times count some ∙ (λ i. leb (length (l i) + t i * count) 4096) ∙ sym (by.parts zeros long) in
      let number : common_multiple numbers (common_multiple lead 1) ≡ common_multiple row 1 =
      sym (common_multiple_append lead numbers 1) ∙ ap (λ ps. common_multiple (ps ++ numbers) 1) l ∙ sym (by.number zeros long) in
      (λ i. cond (many i) ((m ∙ ap word_number number) i) None) ∙ limited (leb (length row) 4096) (common_multiple row 1) (common_multiple_below row 1 (omega arith))

  -- the lines that it begins with are of persons within the limit
  pub starts_within : AllByRecursion (λ (s : Part). s.who < n) (estate_starts f d)
  starts_within =
      All-weaker (λ (s : Part). alive f s.who ≡ true) (λ (s : Part). s.who < n) (λ s h. let a = alive_there ranked s.who h in omega arith) (estate_starts f d)
      (estate_passes ranked d).starts.living

  -- all pieces that are given at first fit a word
  pub starts_small : (times number : ℕ) → times ≡ relatives_times f d → number < 4294967296 → sum (started times number (estate_starts f d) zeros) < 4294967296
  starts_small times number t small =
      let most = (estate_passes ranked d).most zeros number long (replicate_nothing n) in
      let e : sum (started times number (estate_starts f d) zeros) ≡ sum (started (relatives_times f d) number (estate_starts f d) zeros) = ap (λ k. sum (started k number (estate_starts f d) zeros)) t in
      omega arith

-- the heirs are those who have pieces
module _ (row : List ℕ) where
  with_heir_out : (q w : ℕ) (s : ℕ → Bool) → get_or row w 0 ≡ 0 → with_heir row q s w ≡ s w
  with_heir_out q w s none =
      ⊎_elim
      (λ (e : get_or row q 0 ≡ 0). ap (λ (t : ℕ → Bool). t w) (cond-true (eqb (get_or row q 0) 0) s (with_member s q) (eq-eqb (get_or row q 0) 0 e)))
      (λ (ne : get_or row q 0 ≡ 0 → ⊥).
      ap (λ (t : ℕ → Bool). t w) (cond-false (eqb (get_or row q 0) 0) s (with_member s q) (ne_eqb (get_or row q 0) 0 ne))
      ∙ cond-false (eqb w q) true (s w) (ne_eqb w q (λ e. ne (ap (λ k. get_or row k 0) (sym e) ∙ none))))
      (cases_eq (get_or row q 0) 0)

  heirs_out : (os : List ℕ) (s : ℕ → Bool) (w : ℕ) → get_or row w 0 ≡ 0 → heirs_of row os s w ≡ s w
  unfolding heirs_of
  heirs_out [] s w none = refl
  heirs_out (q ∷ os) s w none = heirs_out os (with_heir row q s) w none ∙ with_heir_out q w s none

  with_heir_in : (q w : ℕ) (s : ℕ → Bool) → 0 < get_or row w 0 → (w ≡ q) ⊎ (s w ≡ true) → with_heir row q s w ≡ true
  with_heir_in q w s some here =
      ⊎_elim
      (λ (e : get_or row q 0 ≡ 0).
      ap (λ (t : ℕ → Bool). t w) (cond-true (eqb (get_or row q 0) 0) s (with_member s q) (eq-eqb (get_or row q 0) 0 e))
      ∙ ⊎_elim (λ (z : w ≡ q). absurd (let y = ap (λ k. get_or row k 0) z ∙ e in omega arith)) (λ z. z) here)
      (λ (ne : get_or row q 0 ≡ 0 → ⊥).
      ap (λ (t : ℕ → Bool). t w) (cond-false (eqb (get_or row q 0) 0) s (with_member s q) (ne_eqb (get_or row q 0) 0 ne))
      ∙ ⊎_elim (λ (z : eqb w q ≡ true). cond-true (eqb w q) true (s w) z)
      (λ (z : eqb w q ≡ false).
      cond-false (eqb w q) true (s w) z ∙ ⊎_elim (λ (y : w ≡ q). absurd (eqb-false w q z y)) (λ y. y) here) (cases_Bool (eqb w q)))
      (cases_eq (get_or row q 0) 0)

  heirs_in : (os : List ℕ) (s : ℕ → Bool) (w : ℕ) → 0 < get_or row w 0 → (is_in w os ≡ true) ⊎ (s w ≡ true) → heirs_of row os s w ≡ true
  unfolding heirs_of
  heirs_in [] s w some here = ⊎_elim (λ z. absurd (in_none w z)) (λ z. z) here
  heirs_in (q ∷ os) s w some here =
      ⊎_elim
      (λ (z : is_in w (q ∷ os) ≡ true).
      ⊎_elim (λ (e : w ≡ q). heirs_in os (with_heir row q s) w some (inr (with_heir_in q w s some (inl e))))
      (λ (i : is_in w os ≡ true). heirs_in os (with_heir row q s) w some (inl i)) (in_cases w q os z))
      (λ (z : s w ≡ true). heirs_in os (with_heir row q s) w some (inr (with_heir_in q w s some (inr z)))) here

  pub heirs_all : (os : List ℕ) → ((w : ℕ) → 0 < get_or row w 0 → is_in w os ≡ true) → heirs_of row os no_member ≡ has_pieces (amounts_in row)
  heirs_all os listed i w = same w i
    where
      same : (w : ℕ) → heirs_of row os no_member w ≡ ltb 0 (get_or row w 0)
      same w =
          ⊎_elim
          (λ (e : get_or row w 0 ≡ 0). heirs_out os no_member w e ∙ ap (λ k. ltb 0 k) (sym e))
          (λ (ne : get_or row w 0 ≡ 0 → ⊥).
          let some : 0 < get_or row w 0 = omega arith in
          heirs_in os no_member w some (inl (listed w some)) ∙ sym (lt-ltb 0 (get_or row w 0) some))
          (cases_eq (get_or row w 0) 0)
