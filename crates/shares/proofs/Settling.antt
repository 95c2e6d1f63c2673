-- Rows of parts that are settled: as words hold them, divided or not, and what their shares are. Assumes nothing.
use Rattle.std.proofs.Common.{◌≡◌, ℕ, zero, suc, ◌+◌, ◌*◌, ◌<◌, ◌≤◌, Bool, true, false, cond, not, ◌&&◌, eqb, ltb, leb, ◌≢◌, List, [], ◌∷◌, ◌++◌, map, length, replicate, Some, None, Option, sym, refl, ap, ◌∙◌, subst, ⊎_elim, mul-pos, arith}
use native.Mathlib.Nat.{zero-div}
use Rattle.std.specs.List.{AllByRecursion}
use Rattle.std.proofs.ByRecursion.{All-append, All-map, All-weaker}
use Rattle.std.proofs.lemmas.List.{length-append, length-map, map-append}
use Rattle.std.proofs.lemmas.Bool.{and_parts, cases_eq, cases_lt, cond-false, cond-true, eqb-false, le-ltb, lt-ltb, not-true}
use Rattle.law.specs.Family.{Part, repeated}
use Rattle.law.specs.Calls.{gcd, common_multiple, pieces, all_pieces, shares}
use Rattle.bits.specs.Sets.{no_member}
use Rattle.rows.specs.Written.{written}
use Rattle.theory.specs.Multiples.{Divides, lcm}
use Rattle.theory.specs.Shares.{shares_from, shares_of}
use Rattle.theory.proofs.Multiples.{below_multiple, common_multiple_append, common_multiple_divides, common_multiple_nothing, divides_all_each, divides_le, gcd_divides, lcm_right, quotient_positive}
use Rattle.theory.proofs.OneAnswer.{one_answer}
use Rattle.theory.proofs.Shares.{shares_as_parts, shares_right}
use Rattle.wire.specs.Bytes.{answer_bytes}
use Rattle.shares.specs.Parts.{lead_parts, whole_row, dividable, number_of}
use Rattle.shares.specs.Settling.{WrittenOut, Settled}
use Rattle.shares.specs.Work.{word_part, parts_in, no_pieces, Held}
use Rattle.shares.specs.declared.Part.{Part as PartStruct}
use Rattle.shares.proofs.Pieces.{all_both_rows}
use Rattle.shares.proofs.Work.{parts_cleared, parts_read}

-- what the number of a row says
pub divided_by : (ps : List Part) (n : ℕ) → Some n ≡ number_of ps → (dividable ps ≡ true) × (common_multiple ps 1 ≡ n)
divided_by ps n e = go (dividable ps) e
  where
    go : (b : Bool) → Some n ≡ cond b (Some (common_multiple ps 1)) None → (b ≡ true) × (common_multiple ps 1 ≡ n)
    go true e = (refl, cc)
    go false e = let z : ◌≡◌ {A = ℕ} 0 1 = cc in absurd (omega arith)

pub not_divided : (ps : List Part) → None ≡ number_of ps → dividable ps ≡ false
not_divided ps e = go (dividable ps) e
  where
    go : (b : Bool) → None ≡ cond b (Some (common_multiple ps 1)) None → b ≡ false
    go true e = let z : ◌≡◌ {A = ℕ} 0 1 = cc in absurd (omega arith)
    go false e = refl

pub divided_some : (ps : List Part) → dividable ps ≡ true → common_multiple ps 1 ≢ 0
divided_some ps e = eqb-false (common_multiple ps 1) 0 (not-true (eqb (common_multiple ps 1) 0) (and_parts (leb (length ps) 4096) (not (eqb (common_multiple ps 1) 0)) e).1)

-- the shares are those of all persons who are there
pub shares_among : (persons : ℕ) (ps : List Part) → AllByRecursion (λ (q : Part). q.who < persons) ps → common_multiple ps 1 ≢ 0
    → shares_from (common_multiple ps 1) (pieces (common_multiple ps 1) ps) 0 persons ≡ shares_of ps
shares_among persons ps there some =
    let n = common_multiple ps 1 in
    let l : 0 < n = omega arith in
    let d = (common_multiple_divides ps 1 some).1 in
    one_answer ps n (shares_from n (pieces n ps) 0 persons) (shares_of ps) l d (shares_as_parts n persons ps l d there) (shares_right ps some)

-- the row that words hold
pub read_row :
    (m : ℕ) (ps : List Part) (rest : List ℕ) (persons : ℕ) (lead : Option PartStruct) (times count : ℕ) (work : List ℕ) → Held m ps no_pieces rest persons work → length ps ≡ count →
    (r : Option ℕ) → r ≡ number_of (whole_row lead times (parts_in work 0 count)) → r ≡ number_of (whole_row lead times ps)
read_row m ps rest persons lead times count work held many r e =
    let same : parts_in work 0 count ≡ ps =
    (λ j. parts_in (held.words j) 0 (sym many j)) ∙ parts_read m ps no_member no_pieces rest in
    e ∙ ap (λ (qs : List Part). number_of (whole_row lead times qs)) same

-- what is left and said where the row can't be divided, and where it can
pub settled_none :
    (m : ℕ) (ps : List Part) (rest : List ℕ) (persons : ℕ) (lead : Option PartStruct) (times count : ℕ) (work answer : List ℕ) (r : Option ℕ) →
    Held m ps no_pieces rest persons work → length ps ≡ count → None ≡ number_of (whole_row lead times (parts_in work 0 count)) → r ≡ None →
    Settled m ps rest (whole_row lead times ps) work answer answer r
settled_none m ps rest persons lead times count work answer r held many none e =
    let row = whole_row lead times ps in
    let no : dividable row ≡ false = not_divided row (read_row m ps rest persons lead times count work held many None none) in
    record { left = held.words; said = sym (cond-false (dividable row) _ answer no); next = e ∙ sym (cond-false (dividable row) _ None no) }

pub settled_some :
    (m : ℕ) (ps : List Part) (rest : List ℕ) (persons : ℕ) (row : List Part) (n : ℕ) (work before answer : List ℕ) (r : ℕ) →
    Some n ≡ number_of row → AllByRecursion (λ (q : Part). q.who < persons) row → (all_pieces n row ≤ n → WrittenOut m ps rest persons (shares_from n (pieces n row) 0 persons) work before answer r) →
    all_pieces (common_multiple row 1) row ≤ common_multiple row 1 → Settled m ps rest row work before answer (Some r)
settled_some m ps rest persons row n work before answer r number there written_out all =
    let d = divided_by row n number in
    let yes = d.0 in
    let out = written_out (subst (λ k. all_pieces k row ≤ k) d.1 all) in
    let ss : shares_from n (pieces n row) 0 persons ≡ shares_of row =
    ap (λ k. shares_from k (pieces k row) 0 persons) (sym d.1) ∙ shares_among persons row there (divided_some row yes) in
    record {
      left = out.left.words;
      said = out.said ∙ ap (λ t. written 0 (answer_bytes (shares t)) before) ss ∙ sym (cond-true (dividable row) _ before yes);
      next = ap Some (out.next ∙ ap length ss) ∙ sym (cond-true (dividable row) _ None yes);
    }

-- A PART AS WORDS HOLD IT. Its number is 0 where it is 2 to the 32nd or more: then there is no common multiple below that, either way.
lcm_positive : (a b : ℕ) → 0 < a → 0 < b → 0 < lcm a b
lcm_positive a b h l = mul-pos (quotient_positive a (gcd a b) h (gcd_divides a b).0) l

lcm_zero : (a : ℕ) → lcm a 0 ≡ 0
lcm_zero a = omega arith

small_part : (p : Part) → p.by < 4294967296 → word_part p ≡ p
small_part p h = let e = cond-true (ltb p.by 4294967296) p.by 0 (lt-ltb p.by 4294967296 h) in λ j. record { who = p.who; by = e j }

large_part : (p : Part) → 4294967296 ≤ p.by → (word_part p).by ≡ 0
large_part p h = cond-false (ltb p.by 4294967296) p.by 0 (le-ltb p.by 4294967296 h)

word_multiple : (ps : List Part) (n : ℕ) → 0 < n → AllByRecursion (λ (q : Part). 0 < q.by) ps → common_multiple (map word_part ps) n ≡ common_multiple ps n
unfolding common_multiple
word_multiple [] n h a = refl
word_multiple (p ∷ ps) n h a =
    ⊎_elim
    (λ (l : p.by < 4294967296).
    ap (λ (q : Part). common_multiple (q ∷ map word_part ps) n) (small_part p l)
    ∙ ap (λ r. cond (ltb (lcm n p.by) 4294967296) r 0) (word_multiple ps (lcm n p.by) (lcm_positive n p.by h a.0) a.1))
    (λ (l : 4294967296 ≤ p.by).
    let pos = lcm_positive n p.by h a.0 in
    let big = divides_le p.by (lcm n p.by) pos (lcm_right n p.by) in
    ap (λ b. cond (ltb (lcm n b) 4294967296) (common_multiple (map word_part ps) (lcm n b)) 0) (large_part p l)
    ∙ ap (λ k. cond (ltb k 4294967296) (common_multiple (map word_part ps) k) 0) (lcm_zero n)
    ∙ common_multiple_nothing (map word_part ps)
    ∙ sym (cond-false (ltb (lcm n p.by) 4294967296) (common_multiple ps (lcm n p.by)) 0 (le-ltb (lcm n p.by) 4294967296 (omega arith))))
    (cases_lt p.by 4294967296)

-- a row whose numbers fit a word reads back as it is
pub word_same : (ps : List Part) → AllByRecursion (λ (q : Part). q.by < 4294967296) ps → map word_part ps ≡ ps
word_same [] a = refl
word_same (p ∷ ps) a = λ j. small_part p a.0 j ∷ word_same ps a.1 j

word_repeated : (k : ℕ) (ps : List Part) → repeated k (map word_part ps) ≡ map word_part (repeated k ps)
unfolding repeated
word_repeated zero ps = refl
word_repeated (suc k) ps = ap (λ r. map word_part ps ++ r) (word_repeated k ps) ∙ sym (map-append word_part ps (repeated k ps))

-- of no pieces there are none
pub nothing_divided : (ps : List Part) → all_pieces 0 ps ≡ 0
unfolding all_pieces
nothing_divided [] = refl
nothing_divided (p ∷ ps) = let e = nothing_divided ps in omega (arith, zero-div p.by)

-- a whole row as words hold it
module _ (lead : Option PartStruct) (times : ℕ) (ps : List Part) where
  abbrev row : List Part
  row = whole_row lead times ps

  abbrev word_row : List Part
  word_row = whole_row lead times (map word_part ps)

  row_words : word_row ≡ lead_parts lead ++ map word_part (repeated times ps)
  row_words = ap (λ r. lead_parts lead ++ r) (word_repeated times ps)

  pub row_multiple : AllByRecursion (λ (q : Part). 0 < q.by) row → common_multiple word_row 1 ≡ common_multiple row 1
  row_multiple a =
      let n = common_multiple (lead_parts lead) 1 in
      ap (λ (qs : List Part). common_multiple qs 1) row_words
      ∙ common_multiple_append (lead_parts lead) (map word_part (repeated times ps)) 1
      ∙ ⊎_elim
      (λ (z : n ≡ 0).
      ap (common_multiple (map word_part (repeated times ps))) z
      ∙ common_multiple_nothing (map word_part (repeated times ps))
      ∙ sym (ap (common_multiple (repeated times ps)) z ∙ common_multiple_nothing (repeated times ps)))
      (λ (z : n ≡ 0 → ⊥). word_multiple (repeated times ps) n (omega arith) (all_both_rows (λ (q : Part). 0 < q.by) (lead_parts lead) (repeated times ps) a).1) (cases_eq n 0)
      ∙ sym (common_multiple_append (lead_parts lead) (repeated times ps) 1)

  -- where there is a common multiple, no part's number is too large for a word
  pub row_same : common_multiple row 1 ≢ 0 → word_row ≡ row
  row_same some =
      let each = divides_all_each (common_multiple row 1) row (common_multiple_divides row 1 some).1 in
      let small : AllByRecursion (λ (q : Part). q.by < 4294967296) row =
      All-weaker (λ (q : Part). Divides q.by (common_multiple row 1)) (λ (q : Part). q.by < 4294967296) (λ q d. (below_multiple row q.by some d).2) row each in
      row_words
      ∙ ap (λ r. lead_parts lead ++ r) (word_same (repeated times ps) (all_both_rows (λ (q : Part). q.by < 4294967296) (lead_parts lead) (repeated times ps) small).1)

  row_length : length word_row ≡ length row
  row_length =
      ap length row_words
      ∙ length-append (lead_parts lead) (map word_part (repeated times ps))
      ∙ ap (λ k. length (lead_parts lead) + k) (length-map (repeated times ps) word_part)
      ∙ sym (length-append (lead_parts lead) (repeated times ps))

  pub row_dividable : AllByRecursion (λ (q : Part). 0 < q.by) row → dividable word_row ≡ dividable row
  row_dividable a = λ j. leb (row_length j) 4096 && not (eqb (row_multiple a j) 0)

  pub row_there : (persons : ℕ) → AllByRecursion (λ (q : Part). q.who < persons) row → AllByRecursion (λ (q : Part). q.who < persons) word_row
  row_there persons a =
      let both = all_both_rows (λ (q : Part). q.who < persons) (lead_parts lead) (repeated times ps) a in
      subst (AllByRecursion (λ (q : Part). q.who < persons)) (sym row_words)
      (All-append (λ (q : Part). q.who < persons) (lead_parts lead) (map word_part (repeated times ps)) both.0
      (All-map (λ (q : Part). q.who < persons) word_part (repeated times ps) both.1))

  pub row_within : AllByRecursion (λ (q : Part). 0 < q.by) row → all_pieces (common_multiple row 1) row ≤ common_multiple row 1 → all_pieces (common_multiple word_row 1) word_row ≤ common_multiple word_row 1
  row_within a h =
      ⊎_elim
      (λ (z : common_multiple row 1 ≡ 0).
      let e : common_multiple word_row 1 ≡ 0 = row_multiple a ∙ z in
      let none : all_pieces (common_multiple word_row 1) word_row ≡ 0 = ap (λ n. all_pieces n word_row) e ∙ nothing_divided word_row in
      omega arith)
      (λ (z : common_multiple row 1 ≡ 0 → ⊥). subst (λ (qs : List Part). all_pieces (common_multiple qs 1) qs ≤ common_multiple qs 1) (sym (row_same z)) h)
      (cases_eq (common_multiple row 1) 0)

  -- whatever is made of the row, where it can be divided
  row_made : {X : Type 0} (F : List Part → X) (y : X) → AllByRecursion (λ (q : Part). 0 < q.by) row → cond (dividable word_row) (F word_row) y ≡ cond (dividable row) (F row) y
  row_made {X} F y a = ap (λ b. cond b (F word_row) y) (row_dividable a) ∙ go (dividable row) (λ e. ap F (row_same (divided_some row e)))
    where
      go : (b : Bool) → (b ≡ true → F word_row ≡ F row) → cond b (F word_row) y ≡ cond b (F row) y
      go true e = e refl
      go false e = refl

  -- what is settled of the row as words hold it, and then the words of its parts cleared
  pub settled_row :
      (m : ℕ) (rest work before answer after : List ℕ) (r : Option ℕ) → AllByRecursion (λ (q : Part). 0 < q.by) row → length ps ≤ 4096 → Settled m (map word_part ps) rest word_row work before answer r →
      after ≡ written 0 (replicate (2 * length ps) 0) work → Settled m [] rest row after before answer r
  settled_row m rest work before answer after r a few s cleared =
      let many = length-map ps word_part in
      record {
        left =
            cleared
            ∙ (λ j. written 0 (replicate (2 * sym many j) 0) (s.left j))
            ∙ parts_cleared m (map word_part ps) no_member no_pieces rest (omega arith);
        said = s.said ∙ row_made (λ qs. written 0 (answer_bytes (shares (shares_of qs))) before) before a;
        next = s.next ∙ row_made (λ qs. Some (length (shares_of qs))) None a;
      }
