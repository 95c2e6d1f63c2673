-- From everybody's pieces to shares: a part that stands first, and what the answer says. Assumes nothing.
use Rattle.std.proofs.Common.{◌≡◌, ℕ, ◌+◌, ◌*◌, ◌/◌, ◌<◌, ◌≤◌, Bool, true, false, cond, eqb, List, [], ◌∷◌, length, get_or, replicate, Some, None, Option, sym, ap, ◌∙◌, subst, arith}
use Rattle.std.specs.List.{AllByRecursion}
use Rattle.std.proofs.lemmas.List.{length-replicate}
use Rattle.law.specs.Family.{Family, Part, repeated}
use Rattle.law.specs.Calls.{common_multiple, pieces, all_pieces, divides_all}
use Rattle.theory.specs.Families.{Ranked}
use Rattle.theory.specs.Decedent.{kept_estate}
use Rattle.theory.proofs.Decedent.{estate_already}
use Rattle.theory.proofs.Multiples.{common_multiple_divides, common_multiple_below}
use Rattle.theory.proofs.Parts.{pieces_le_all}
use Rattle.shares.specs.Parts.{number_of}
use Rattle.shares.specs.Settling.{SoundRow}
use Rattle.shares.specs.Work.{more_pieces}
use Rattle.shares.proofs.Estates.{estate_sound}
use Rattle.shares.proofs.Pieces.{all_both_rows}
use Rattle.shares.proofs.Settling.{divided_by, divided_some}
use Rattle.succession.specs.Settling.{DeadThere}
use Rattle.amounts.specs.Passes.{is_in}
use Rattle.amounts.specs.Lines.{starts_parts}
use Rattle.amounts.specs.Estates.{relatives_times, spouse_lead, estate_starts, estate_listing}
use Rattle.amounts.proofs.Cleared.{replicate_nothing}
use Rattle.amounts.proofs.Estates.{estate_passes}
use Rattle.estates.specs.Passing.{pieces_by, amounts_by}

-- a part that stands first
one_part : (amounts : ℕ → ℕ) (number : ℕ) (q : Part) (w : ℕ) → amounts w + cond (eqb q.who w) (1 * (number / q.by)) 0 ≡ amounts w + pieces number (q ∷ []) w
unfolding pieces
one_part amounts number q w = by (eqb q.who w)
  where
    by : (t : Bool) → amounts w + cond t (1 * (number / q.by)) 0 ≡ amounts w + (cond t (number / q.by) 0 + 0)
    by true = omega arith
    by false = omega arith

pub first_added :
    (amounts all : ℕ → ℕ) (number more : ℕ) (q : Part) (lead : List Part) → lead ≡ q ∷ [] → more ≡ 1 * (number / q.by) → ((w : ℕ) → amounts w + pieces number lead w ≡ all w) → (w : ℕ) →
    more_pieces amounts q.who more w ≡ all w
first_added amounts all number more q lead e m sum w =
    ap (λ k. amounts w + cond (eqb q.who w) k 0) m ∙ one_part amounts number q w ∙ ap (λ ps. amounts w + pieces number ps w) (sym e) ∙ sum w

pub none_added : (amounts all : ℕ → ℕ) (number : ℕ) (lead : List Part) → lead ≡ [] → ((w : ℕ) → amounts w + pieces number lead w ≡ all w) → (w : ℕ) → amounts w ≡ all w
unfolding pieces
none_added amounts all number lead e sum w = (let z : amounts w ≡ amounts w + 0 = omega arith in z) ∙ ap (λ ps. amounts w + pieces number ps w) (sym e) ∙ sum w

-- the number that a row is divided by
number_divides : (row : List Part) (number : ℕ) → Some number ≡ number_of row → (divides_all number row ≡ true) × (0 < number)
number_divides row number is =
    let d = divided_by row number is in
    let some = divided_some row d.0 in
    (subst (λ k. divides_all k row ≡ true) d.1 (common_multiple_divides row 1 some).1, let e = d.1 in omega arith)

-- who has pieces is listed
pub listed_heirs :
    {f : Family} {rk : ℕ → ℕ} → Ranked f rk → (n d : ℕ) (r : Option ℕ) (w : ℕ) → length f ≤ n → r ≡ number_of (kept_estate f d) → 0 < get_or (pieces_by n f d r) w 0 →
    is_in w (estate_listing f d) ≡ true
listed_heirs s n d None w room is h = absurd (let z = replicate_nothing n w in omega arith)
listed_heirs {f} s n d (Some number) w room is h =
    let k = number_divides (kept_estate f d) number is in
    (((estate_passes s d).heirs (replicate n 0) number w (omega (arith, length-replicate {A = ℕ} n 0)) (replicate_nothing n) k.0 k.1).0 h).0

-- the row of the estate of somebody who is dead
pub row_sound : (f : Family) (n d : ℕ) → DeadThere f n d → SoundRow (length f) (kept_estate f d)
row_sound f n d t = subst (λ ps. SoundRow (length f) ps) (estate_already t.formed d t.dead).2 (estate_sound f d t.formed)

module _ (f : Family) (n d number : ℕ) (t : DeadThere f n d) (is : Some number ≡ number_of (kept_estate f d)) where
  abbrev row : List Part
  row = kept_estate f d

  pub row_within : all_pieces (common_multiple row 1) row ≤ common_multiple row 1
  row_within = (row_sound f n d t).within

  number_some : common_multiple row 1 ≡ number
  number_some = (divided_by row number is).1

  pub pieces_small : (w : ℕ) → pieces number row w < 4294967296
  pieces_small w =
      let most = subst (λ k. all_pieces k row ≤ k) number_some row_within in
      let less = pieces_le_all number row w in
      let below = common_multiple_below row 1 (omega arith) in
      omega (arith, number_some)

  pub pieces_sum : (lead : List Part) → lead ≡ spouse_lead f d → (w : ℕ) → amounts_by n f d (Some number) w + pieces number lead w ≡ pieces number row w
  pieces_sum lead e w =
      ap (λ ps. amounts_by n f d (Some number) w + pieces number ps w) e
      ∙ (estate_passes t.formed.ranked d).amounts (replicate n 0) number w (let r = t.room in omega (arith, length-replicate {A = ℕ} n 0)) (replicate_nothing n) (number_divides row number is).0

  pub lead_there : (lead : List Part) → lead ≡ spouse_lead f d → AllByRecursion (λ (q : Part). q.who < length f) lead
  lead_there lead e =
      subst (AllByRecursion (λ (q : Part). q.who < length f)) (sym e)
      (all_both_rows (λ (q : Part). q.who < length f) (spouse_lead f d) (repeated (relatives_times f d) (starts_parts f (estate_starts f d)))
      (subst (AllByRecursion (λ (q : Part). q.who < length f)) (sym (estate_passes t.formed.ranked d).whole) (row_sound f n d t).there)).0
