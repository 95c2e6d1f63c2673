-- The least number that all parts of a row divide, as code finds it part by part. Assumes nothing.
use Rattle.std.proofs.Common.{◌≡◌, ℕ, zero, suc, ◌+◌, ◌-◌, ◌*◌, ◌<◌, ◌≤◌, Bool, true, false, cond, eqb, ltb, leb, ◌⊎◌, List, [], ◌∷◌, length, Some, None, Option, sym, refl, ap, ◌∙◌, inl, inr, arith}
use Rattle.std.proofs.lemmas.List.FromFn.{length-map-range_with_len}
use Rattle.std.proofs.lemmas.List.{length-append}
use Rattle.std.proofs.lemmas.Bool.{cases_Bool, eq-eqb, eqb-false, eqb-true, le-leb, le-ltb, lt-leb, lt-ltb, ltb-false, ltb-true, ne_eqb}
use Rattle.law.specs.Family.{Part, repeated}
use Rattle.law.specs.Calls.{common_multiple}
use Rattle.theory.specs.Multiples.{lcm}
use Rattle.theory.proofs.Multiples.{common_multiple_append, common_multiple_below, common_multiple_nothing, common_multiple_repeated}
use Rattle.theory.proofs.Parts.{length-repeated}
use Rattle.shares.specs.Parts.{lead_parts, whole_row, word_number, number_of}
use Rattle.shares.specs.Work.{part_in, parts_in}
use Rattle.shares.specs.declared.Part.{Part as PartStruct}

-- a number that is some and fits a word, or is not
pub record Fitting (n m : ℕ) : Type 0 where
  pub is : n ≡ m
  pub some : 0 < m
  pub below : m < 4294967296

pub word_some : (n m : ℕ) → Some m ≡ word_number n → Fitting n m
word_some n m e =
    elim (cases_Bool (eqb n 0)) [
      | inl z ↦ let y : ◌≡◌ {A = ℕ} 0 1 = cc (rw z at e) in absurd (omega arith)
      | inr z ↦
          elim (cases_Bool (ltb n 4294967296)) [
            | inl l ↦
                let same : m ≡ n = cc (rw (z, l) at e) in
                let ne : n ≡ 0 → ⊥ = eqb-false n 0 z in
                let below : n < 4294967296 = ltb-true n 4294967296 l in
                record { is = sym same; some = omega arith; below = omega arith }
            | inr l ↦ let y : ◌≡◌ {A = ℕ} 0 1 = cc (rw (z, l) at e) in absurd (omega arith)
          ]
    ]

pub word_none : (n : ℕ) → None ≡ word_number n → (n ≡ 0) ⊎ (4294967296 ≤ n)
word_none n e =
    elim (cases_Bool (eqb n 0)) [
      | inl z ↦ inl (eqb-true n 0 z)
      | inr z ↦
          elim (cases_Bool (ltb n 4294967296)) [
            | inl l ↦ let y : ◌≡◌ {A = ℕ} 0 1 = cc (rw (z, l) at e) in absurd (omega arith)
            | inr l ↦ inr (ltb-false n 4294967296 l)
          ]
    ]

-- one part more
pub multiple_on : (p : Part) (ps : List Part) (n m : ℕ) → Some m ≡ word_number (lcm n p.by) → common_multiple (p ∷ ps) n ≡ common_multiple ps m
unfolding common_multiple
multiple_on p ps n m e =
    let f = word_some (lcm n p.by) m e in
    rw (lt-ltb (lcm n p.by) 4294967296 (let x = f.is in let y = f.below in omega arith)) (ap (common_multiple ps) f.is)

pub multiple_off : (p : Part) (ps : List Part) (n : ℕ) → None ≡ word_number (lcm n p.by) → common_multiple (p ∷ ps) n ≡ 0
unfolding common_multiple
multiple_off p ps n e =
    elim (word_none (lcm n p.by) e) [
      | inl z ↦ rw (lt-ltb (lcm n p.by) 4294967296 (omega arith)) (ap (common_multiple ps) z ∙ common_multiple_nothing ps)
      | inr l ↦ rw (le-ltb (lcm n p.by) 4294967296 l)
    ]

pub multiple_end : (n : ℕ) → common_multiple [] n ≡ n
unfolding common_multiple
multiple_end n = refl

-- a part by itself
pub multiple_one : (p : Part) → word_number (common_multiple (p ∷ []) 1) ≡ word_number (lcm 1 p.by)
unfolding common_multiple
multiple_one p = go (lcm 1 p.by) (ltb (lcm 1 p.by) 4294967296) refl
  where
    go : (n : ℕ) (t : Bool) → ltb n 4294967296 ≡ t → word_number (cond t n 0) ≡ word_number n
    go n true e = refl
    go n false e = let ne : eqb n 0 ≡ false = ne_eqb n 0 (λ z. let g = ltb-false n 4294967296 e in omega arith) in rw (ne, e)

-- parts that words hold: the next, and none any more
parts_next : (ws : List ℕ) (i count : ℕ) → i < count → parts_in ws i (count - i) ≡ part_in ws i ∷ parts_in ws (i + 1) (count - (i + 1))
parts_next ws i count h = let e : count - i ≡ suc (count - (i + 1)) = omega arith in rw e

parts_end : (ws : List ℕ) (i count : ℕ) → count ≤ i → parts_in ws i (count - i) ≡ []
parts_end ws i count h = let e : count - i ≡ 0 = omega arith in rw e

-- a whole row: how many parts are listed, and the least number that all divide
pub length-row : (ws : List ℕ) (lead : Option PartStruct) (times count : ℕ) → length (whole_row lead times (parts_in ws 0 count)) ≡ length (lead_parts lead) + times * count
length-row ws lead times count =
    length-append (lead_parts lead) (repeated times (parts_in ws 0 count))
    ∙ ap (λ k. length (lead_parts lead) + k) (length-repeated times (parts_in ws 0 count) ∙ ap (λ k. times * k) (length-map-range_with_len (part_in ws) 0 count))

pub multiple_row : (lead : Option PartStruct) (times : ℕ) (ps : List Part) (n : ℕ) → Some n ≡ word_number (common_multiple (lead_parts lead) 1) → (times ≡ 0 → ⊥)
    → common_multiple (whole_row lead times ps) 1 ≡ common_multiple ps n
multiple_row lead zero ps n e h = absurd (h refl)
multiple_row lead (suc k) ps n e h =
    let f = word_some (common_multiple (lead_parts lead) 1) n e in
    common_multiple_append (lead_parts lead) (repeated (suc k) ps) 1
    ∙ ap (common_multiple (repeated (suc k) ps)) f.is
    ∙ common_multiple_repeated k ps n f.below

pub multiple_lead : (lead : Option PartStruct) (times : ℕ) (ps : List Part) (n : ℕ) → Some n ≡ word_number (common_multiple (lead_parts lead) 1) → times ≡ 0
    → common_multiple (whole_row lead times ps) 1 ≡ n
unfolding repeated
multiple_lead lead times ps n e z =
    let f = word_some (common_multiple (lead_parts lead) 1) n e in
    common_multiple_append (lead_parts lead) (repeated times ps) 1
    ∙ ap (λ k. common_multiple (repeated k ps) (common_multiple (lead_parts lead) 1)) z
    ∙ multiple_end (common_multiple (lead_parts lead) 1) ∙ f.is

multiple_no_lead : (lead : Option PartStruct) (times : ℕ) (ps : List Part) → None ≡ word_number (common_multiple (lead_parts lead) 1)
    → common_multiple (whole_row lead times ps) 1 ≡ 0
multiple_no_lead lead times ps e =
    common_multiple_append (lead_parts lead) (repeated times ps) 1
    ∙ ap (common_multiple (repeated times ps)) (none (word_none (common_multiple (lead_parts lead) 1) e))
    ∙ common_multiple_nothing (repeated times ps)
  where
    none : (common_multiple (lead_parts lead) 1 ≡ 0) ⊎ (4294967296 ≤ common_multiple (lead_parts lead) 1) → common_multiple (lead_parts lead) 1 ≡ 0
    none (inl z) = z
    none (inr l) = let b = common_multiple_below (lead_parts lead) 1 (omega arith) in absurd (omega arith)

-- the number that a row is divided by
pub number_many : (ps : List Part) → 4096 < length ps → number_of ps ≡ None
number_many ps h = rw (lt-leb (length ps) 4096 h)

pub number_none : (ps : List Part) → common_multiple ps 1 ≡ 0 → number_of ps ≡ None
number_none ps e =
    elim (cases_Bool (leb (length ps) 4096)) [
      | inl l ↦ rw (l, eq-eqb (common_multiple ps 1) 0 e)
      | inr l ↦ rw l
    ]

pub number_lead : (lead : Option PartStruct) (times : ℕ) (ps : List Part) → None ≡ word_number (common_multiple (lead_parts lead) 1) → number_of (whole_row lead times ps) ≡ None
number_lead lead times ps e = number_none (whole_row lead times ps) (multiple_no_lead lead times ps e)

pub number_some : (ps : List Part) (n : ℕ) → length ps ≤ 4096 → common_multiple ps 1 ≡ n → 0 < n → number_of ps ≡ Some n
number_some ps n h e l =
    rw (le-leb (length ps) 4096 h, ne_eqb (common_multiple ps 1) 0 (λ z. omega arith)) (ap Some e)

-- The loop over the parts that words hold, from the number of the part that stands first: one part more, a part that leaves no number, and the end.
module _ (ws : List ℕ) (lead : Option PartStruct) (times count : ℕ) where
  abbrev parts_left : ℕ → List Part
  parts_left i = parts_in ws i (count - i)

  abbrev row : List Part
  row = whole_row lead times (parts_in ws 0 count)

  module _ (first i n : ℕ) (same : common_multiple (parts_left i) n ≡ common_multiple (parts_in ws 0 count) first) where
    pub row_on : (q : Part) (m : ℕ) → q ≡ part_in ws i → i < count → Some m ≡ word_number (lcm n q.by)
        → (common_multiple (parts_left (i + 1)) m ≡ common_multiple (parts_in ws 0 count) first) × (0 < m)
    row_on q m read h some = (
      sym (multiple_on q (parts_left (i + 1)) n m some)
          ∙ ap (λ p. common_multiple (p ∷ parts_left (i + 1)) n) read
          ∙ ap (λ (qs : List Part). common_multiple qs n) (sym (parts_next ws i count h))
          ∙ same,
      (word_some (lcm n q.by) m some).some,
    )

    module _ (start : Some first ≡ word_number (common_multiple (lead_parts lead) 1)) (counts : times ≡ 0 → ⊥) where
      row_from : common_multiple row 1 ≡ common_multiple (parts_left i) n
      row_from = multiple_row lead times (parts_in ws 0 count) first start counts ∙ sym same

      pub row_off : (q : Part) → q ≡ part_in ws i → i < count → None ≡ word_number (lcm n q.by) → number_of row ≡ None
      row_off q read h none =
          number_none row
          (row_from
          ∙ ap (λ (qs : List Part). common_multiple qs n) (parts_next ws i count h)
          ∙ ap (λ p. common_multiple (p ∷ parts_left (i + 1)) n) (sym read)
          ∙ multiple_off q (parts_left (i + 1)) n none)

      pub row_end : count ≤ i → 0 < n → length row ≤ 4096 → number_of row ≡ Some n
      row_end h some few =
          number_some row n few (row_from ∙ ap (λ (qs : List Part). common_multiple qs n) (parts_end ws i count h) ∙ multiple_end n) some
