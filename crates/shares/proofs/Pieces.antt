-- Pieces that are added to what somebody has, and those of a row of parts. Assumes nothing.
use Rattle.std.proofs.Common.{◌≡◌, ℕ, zero, suc, ◌+◌, ◌*◌, ◌/◌, ◌<◌, ◌≤◌, Bool, true, false, cond, eqb, ltb, List, [], ◌∷◌, ◌++◌, length, get_or, take, drop, set, Option, sym, refl, ap, ◌∙◌, subst, inl, inr, mul-le-mul_left, mul-add, arith}
use Rattle.std.specs.List.{AllByRecursion}
use Rattle.std.proofs.ByRecursion.{All-get_or}
use Rattle.std.proofs.lemmas.List.{take_all, take-append-drop, take_more}
use Rattle.std.proofs.lemmas.Bool.{cases_eq, eq-eqb, lt-ltb, ne_eqb}
use Rattle.law.specs.Family.{Part, repeated}
use Rattle.law.specs.Calls.{pieces, all_pieces}
use Rattle.bits.specs.Sets.{with_member}
use Rattle.theory.proofs.Parts.{pieces_append, pieces_le_all, pieces_repeated}
use Rattle.shares.specs.Parts.{lead_parts, whole_row}
use Rattle.shares.specs.Work.{part_in, work_of, has_pieces, divided, more_pieces, no_pieces, Held}
use Rattle.shares.specs.declared.Part.{Part as PartStruct}
use Rattle.shares.proofs.Work.{with_pieces, part_read, pieces_read, pieces_set}

-- the same pieces under another name
pub held_as : (m : ℕ) (ps : List Part) (f g : ℕ → ℕ) (rest : List ℕ) (persons : ℕ) (work : List ℕ) → f ≡ g → Held m ps f rest persons work → Held m ps g rest persons work
held_as m ps f g rest persons work e h = record { words = h.words ∙ ap (λ a. divided m ps a rest) e; few = h.few; within = h.within }

-- somebody's pieces written over
more_set : (g : ℕ → ℕ) (who more : ℕ) → with_pieces g who (g who + more) ≡ more_pieces g who more
more_set g who more = λ j w. same w j
  where
    same : (w : ℕ) → with_pieces g who (g who + more) w ≡ more_pieces g who more w
    same w =
        elim (cases_eq who w) [
          | inl e ↦ rw (eq-eqb who w e, eq-eqb w who (sym e), e)
          | inr ne ↦ rw (ne_eqb who w ne, ne_eqb w who (λ e. ne (sym e))) (omega arith)
        ]

-- and an heir more
more_heirs : (g : ℕ → ℕ) (who more : ℕ) → 0 < more → with_member (has_pieces g) who ≡ has_pieces (more_pieces g who more)
more_heirs g who more h = λ j w. same w j
  where
    same : (w : ℕ) → with_member (has_pieces g) who w ≡ ltb 0 (more_pieces g who more w)
    same w =
        elim (cases_eq who w) [
          | inl e ↦ rw (eq-eqb who w e, eq-eqb w who (sym e)) (sym (lt-ltb 0 (g w + more) (omega arith)))
          | inr ne ↦ let z : g w + 0 ≡ g w = omega arith in rw (ne_eqb who w ne, ne_eqb w who (λ e. ne (sym e)), z)
        ]

pub pieces_added : (m : ℕ) (ps : List Part) (s : ℕ → Bool) (g : ℕ → ℕ) (rest : List ℕ) (who more : ℕ) → length ps ≤ 4096 → who < m
    → set (work_of m ps s g rest) (8320 + who) (get_or (work_of m ps s g rest) (8320 + who) 0 + more) ≡ work_of m ps s (more_pieces g who more) rest
pieces_added m ps s g rest who more h l =
    ap (λ k. set (work_of m ps s g rest) (8320 + who) (k + more)) (pieces_read m ps s g rest who h l)
    ∙ pieces_set m ps s g rest who (g who + more) h l
    ∙ ap (λ f. work_of m ps s f rest) (more_set g who more)

pub heir_added : (m : ℕ) (ps : List Part) (g : ℕ → ℕ) (rest : List ℕ) (who more : ℕ) → 0 < more
    → work_of m ps (with_member (has_pieces g) who) (more_pieces g who more) rest ≡ divided m ps (more_pieces g who more) rest
heir_added m ps g rest who more h = ap (λ s. work_of m ps s (more_pieces g who more) rest) (more_heirs g who more h)

-- what each had, and their pieces of parts that each count so many times
abbrev pub gathered : (ℕ → ℕ) → ℕ → ℕ → List Part → ℕ → ℕ
gathered g times whole ps w = g w + times * pieces whole ps w

pub gathered_none : (g : ℕ → ℕ) (times whole : ℕ) → gathered g times whole [] ≡ g
unfolding pieces
gathered_none g times whole = λ j w. same w j
  where
    same : (w : ℕ) → g w + times * 0 ≡ g w
    same w = omega arith

gathered_one : (g : ℕ → ℕ) (times whole : ℕ) (ps : List Part) (q : Part)
    → more_pieces (gathered g times whole ps) q.who (times * (whole / q.by)) ≡ gathered g times whole (ps ++ (q ∷ []))
unfolding pieces
gathered_one g times whole ps q = λ j w. same w (eqb q.who w) (pieces_append whole ps (q ∷ []) w) j
  where
    same : (w : ℕ) (b : Bool) → pieces whole (ps ++ (q ∷ [])) w ≡ pieces whole ps w + (cond b (whole / q.by) 0 + 0)
        → g w + times * pieces whole ps w + cond b (times * (whole / q.by)) 0 ≡ g w + times * pieces whole (ps ++ (q ∷ [])) w
    same w true e = omega (arith, ap (λ (k : ℕ). times * k) e, mul-add times (pieces whole ps w) (whole / q.by + 0))
    same w false e = omega (arith, ap (λ (k : ℕ). times * k) e)

pub gathered_more : (g : ℕ → ℕ) (times whole : ℕ) (ps : List Part) (i : ℕ) (d : Part) → i < length ps
    → more_pieces (gathered g times whole (take i ps)) (get_or ps i d).who (times * (whole / (get_or ps i d).by)) ≡ gathered g times whole (take (i + 1) ps)
gathered_more g times whole ps i d h =
    gathered_one g times whole (take i ps) (get_or ps i d) ∙ ap (gathered g times whole) (sym (take_more ps i d h))

-- of a front of the parts nobody has more than of all
gathered_le : (g : ℕ → ℕ) (times whole : ℕ) (ps : List Part) (i w : ℕ) → gathered g times whole (take i ps) w ≤ gathered g times whole ps w
gathered_le g times whole ps i w =
    let e : pieces whole ps w ≡ pieces whole (take i ps) w + pieces whole (drop i ps) w =
    ap (λ (qs : List Part). pieces whole qs w) (sym (take-append-drop i ps)) ∙ pieces_append whole (take i ps) (drop i ps) w in
    omega (arith, mul-le-mul_left {m = pieces whole (take i ps) w} {n = pieces whole ps w} times (omega arith))

-- A row of parts, each so many times, to be added to what each has: those who have them are there, and all fits a word.
pub record Gathering (ps : List Part) (g : ℕ → ℕ) (persons times count whole : ℕ) : Type 0 where
  pub many : length ps ≡ count
  pub there : 0 < times → AllByRecursion (λ (q : Part). q.who < persons) ps
  pub fits : (w : ℕ) → gathered g times whole ps w < 4294967296

-- what a turn of the loop leaves, by what adding pieces promises
pub gather_turn :
    (m : ℕ) (ps : List Part) (g : ℕ → ℕ) (rest : List ℕ) (persons times count whole i : ℕ) (before after : List ℕ) (q : Part) (more : ℕ) →
    Gathering ps g persons times count whole → i < count → Held m ps (gathered g times whole (take i ps)) rest persons before → q ≡ part_in before i → more ≡ times * (whole / q.by) →
    ((amounts : ℕ → ℕ) → Held m ps amounts rest persons before → (0 < more → q.who < persons) → amounts q.who + more < 4294967296 → Held m ps (more_pieces amounts q.who more) rest persons after) →
    Held m ps (gathered g times whole (take (i + 1) ps)) rest persons after
gather_turn m ps g rest persons times count whole i before after q more ok h held read e added =
    let l : i < length ps = omega (arith, ok.many) in
    let so_far = gathered g times whole (take i ps) in
    let is : q ≡ get_or ps i q = read ∙ ap (λ ws. part_in ws i) held.words ∙ part_read m ps (has_pieces so_far) so_far rest i q l in
    let turn : more_pieces so_far q.who more ≡ gathered g times whole (take (i + 1) ps) =
    ap (more_pieces so_far q.who) e ∙ ap (λ (p : Part). more_pieces so_far p.who (times * (whole / p.by))) is ∙ gathered_more g times whole ps i q l in
    let one : cond (eqb q.who q.who) more 0 ≡ more = rw (eq-eqb q.who q.who refl) in
    let fits : so_far q.who + more < 4294967296 =
    omega (arith, one, ap (λ (f : ℕ → ℕ). f q.who) turn, gathered_le g times whole ps (i + 1) q.who, ok.fits q.who) in
    let there : 0 < more → q.who < persons =
    λ some. subst (λ (p : Part). p.who < persons) (sym is) (All-get_or (λ (p : Part). p.who < persons) ps i q l (ok.there (positive times (whole / q.by) (omega arith)))) in
    held_as m ps (more_pieces so_far q.who more) (gathered g times whole (take (i + 1) ps)) rest persons after turn (added so_far held there fits)
  where
    positive : (k n : ℕ) → 0 < k * n → 0 < k
    positive zero n h = absurd (omega arith)
    positive (suc k) n h = omega arith

-- a whole row's pieces: those of the part that stands first, and of the others so many times
pub gathered_row : (lead : Option PartStruct) (times whole : ℕ) (ps : List Part)
    → gathered (pieces whole (lead_parts lead)) times whole ps ≡ pieces whole (whole_row lead times ps)
gathered_row lead times whole ps = λ j w. same w j
  where
    same : (w : ℕ) → pieces whole (lead_parts lead) w + times * pieces whole ps w ≡ pieces whole (whole_row lead times ps) w
    same w = sym (pieces_append whole (lead_parts lead) (repeated times ps) w ∙ ap (λ k. pieces whole (lead_parts lead) w + k) (pieces_repeated whole times ps w))

pub all_both_rows : (P : Part → Type 0) (ps qs : List Part) → AllByRecursion P (ps ++ qs) → AllByRecursion P ps × AllByRecursion P qs
all_both_rows P [] qs a = (tt, a)
all_both_rows P (p ∷ ps) qs a = let r = all_both_rows P ps qs a.1 in ((a.0, r.0), r.1)

row_there : (P : Part → Type 0) (lead : Option PartStruct) (times : ℕ) (ps : List Part) → AllByRecursion P (whole_row lead times ps) → 0 < times → AllByRecursion P ps
unfolding repeated
row_there P lead zero ps a h = absurd (omega arith)
row_there P lead (suc k) ps a h = (all_both_rows P ps (repeated k ps) (all_both_rows P (lead_parts lead) (repeated (suc k) ps) a).1).0

pub row_gathering : (ps : List Part) (lead : Option PartStruct) (persons times count whole : ℕ) → length ps ≡ count
    → AllByRecursion (λ (q : Part). q.who < persons) (whole_row lead times ps) → all_pieces whole (whole_row lead times ps) ≤ whole → whole < 4294967296
    → Gathering ps (pieces whole (lead_parts lead)) persons times count whole
row_gathering ps lead persons times count whole many there all fits =
    record {
      many = many;
      there = row_there (λ (q : Part). q.who < persons) lead times ps there;
      fits = λ w. omega (arith, ap (λ (f : ℕ → ℕ). f w) (gathered_row lead times whole ps), pieces_le_all whole (whole_row lead times ps) w);
    }

-- where all parts are added, each has the pieces of the whole row
pub gathered_all : (lead : Option PartStruct) (times whole i : ℕ) (ps : List Part) → length ps ≤ i
    → gathered (pieces whole (lead_parts lead)) times whole (take i ps) ≡ pieces whole (whole_row lead times ps)
gathered_all lead times whole i ps h =
    ap (gathered (pieces whole (lead_parts lead)) times whole) (take_all i ps h) ∙ gathered_row lead times whole ps

-- the pieces of one part, added to none
pub lead_added : (whole : ℕ) (q : Part) → more_pieces no_pieces q.who (1 * (whole / q.by)) ≡ pieces whole (q ∷ [])
unfolding pieces
lead_added whole q = λ j w. same w (eqb q.who w) j
  where
    same : (w : ℕ) (b : Bool) → 0 + cond b (1 * (whole / q.by)) 0 ≡ cond b (whole / q.by) 0 + 0
    same w true = omega arith
    same w false = omega arith

pub no_lead : (whole : ℕ) → no_pieces ≡ pieces whole []
unfolding pieces
no_lead whole = λ j w. 0
