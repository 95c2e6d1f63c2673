-- An estate by passes is the estate. Assumes nothing.
use Rattle.std.proofs.Common.{◌≡◌, ℕ, zero, suc, ◌+◌, ◌-◌, ◌*◌, ◌<◌, ◌≤◌, Bool, true, false, cond, not, eqb, leb, List, [], ◌∷◌, ◌++◌, map, length, get_or, sym, refl, ap, ◌∙◌, subst, div-one, arith}
use Rattle.std.specs.List.{range_with_len, flat_map, AllByRecursion}
use Rattle.std.proofs.lemmas.List.{append-nil}
use Rattle.std.proofs.ByRecursion.{All-weaker, All-map}
use Rattle.std.proofs.lemmas.Bool.{eqb-true, and_parts, cond_both}
use Rattle.law.specs.Family.{person, Family, parents, Part, line_parts, couple_parts, has_living_spouse, spouse_parts, repeated, estate}
use Rattle.law.specs.Calls.{common_multiple, divides_all, pieces, all_pieces}
use Rattle.theory.specs.Families.{Ranked, WellFormed}
use Rattle.theory.specs.Living.{alive}
use Rattle.theory.specs.Decedent.{with_dead, kept_sides, kept_order, kept_relatives, kept_estate}
use Rattle.theory.proofs.Families.{lives_there}
use Rattle.theory.proofs.Decedent.{dead_already, dead_ranked, marked_dead}
use Rattle.theory.proofs.Orders.{relatives_by}
use Rattle.theory.proofs.Parts.{divides_both, divides_once, pieces_append, pieces_repeated}
use Rattle.amounts.specs.Passes.{is_in, all_listed, listed_in, InDescentOrder, started}
use Rattle.amounts.specs.Lines.{divided_among, couple_starts, kept_starts, starts_persons, starts_parts}
use Rattle.amounts.specs.Statements.{Listing, Starts, NoAmounts}
use Rattle.amounts.specs.Estates.{relatives_number, relatives_times, spouse_lead, estate_starts, estate_listing, estate_amounts, ByPasses, EstateByPasses}
use Rattle.amounts.proofs.Listing.{listing, line_listed}
use Rattle.amounts.proofs.Downward.{length-handed_down, length-started, sum_started}
use Rattle.amounts.proofs.Pieces.{pieces_at_end, heir_listed}
use Rattle.amounts.proofs.Turns.{started_pieces, row_by}
use Rattle.amounts.proofs.Starts.{number_right, count_test}
use Rattle.amounts.proofs.Orders.{kept_starts_parts, kept_starts_fit, kept_starts_most}
use Rattle.amounts.proofs.Concerned.{listed_concerned, listed_inherits}
use Rattle.amounts.proofs.Multiples.{times_positive}
use Rattle.amounts.proofs.Cleared.{sum_nothing}

-- beside a spouse or not, what the lines begin with and the spouse's part are the estate
pub estate_whole : (g : Family) (d : ℕ) → spouse_lead g d ++ repeated (relatives_times g d) (kept_relatives g d (relatives_number g d)) ≡ kept_estate g d
estate_whole g d =
    by (has_living_spouse g d) (eqb (kept_order g d) 1) (eqb (kept_order g d) 4) (λ b. kept_relatives g d b)
    (λ e. ap (λ (o : ℕ). relatives_by o (first g d) (second g d) (third g d)) (eqb-true (kept_order g d) 4 e))
  where
    first : Family → ℕ → List Part
    first g d = line_parts g (length g) d 1

    second : Family → ℕ → List Part
    second g d = couple_parts g (length g) (parents g d) 1

    third : Family → ℕ → List Part
    third g d =
        flat_map
        (λ p. couple_parts g (length g) (parents g p) (1 * length (kept_sides g d)))
        (kept_sides g d)

    by : (h x y : Bool) (r : ℕ → List Part) → (y ≡ true → r 1 ≡ [])
        → cond h (spouse_parts g d (cond h (cond x 4 (cond y 1 2)) 1)) [] ++ repeated (cond h (cond x 3 1) 1) (r (cond h (cond x 4 (cond y 1 2)) 1))
        ≡ cond h (cond x (spouse_parts g d 4 ++ repeated 3 (r 4)) (cond y (spouse_parts g d 1) (spouse_parts g d 2 ++ r 2))) (r 1)
    by true true y r e = refl
    by true false true r e = unfold repeated in (ap (λ (ps : List Part). spouse_parts g d 1 ++ (ps ++ [])) (e refl))
    by true false false r e = unfold repeated in (ap (λ (ps : List Part). spouse_parts g d 2 ++ ps) (append-nil (r 2)))
    by false x y r e = unfold repeated in (append-nil (r 1))

-- the spouse is there
spouse_there : (g : Family) (d : ℕ) → AllByRecursion (λ (p : Part). p.who < length g) (spouse_lead g d)
spouse_there g d =
    cond_both (has_living_spouse g d) (spouse_parts g d (relatives_number g d)) [] (AllByRecursion (λ (p : Part). p.who < length g))
    (λ h. (lives_there g ((person g d).spouse - 1) (and_parts (not (eqb (person g d).spouse 0)) (person g ((person g d).spouse - 1)).lives h).1, tt)) (λ _. tt)

times_some : (g : Family) (d : ℕ) → 0 < relatives_times g d
times_some g d = by (has_living_spouse g d) (eqb (kept_order g d) 1)
  where
    by : (h x : Bool) → 0 < cond h (cond x 3 1) 1
    by true true = omega arith
    by true false = omega arith
    by false x = omega arith

number_some : (g : Family) (d : ℕ) → 0 < relatives_number g d
number_some g d = by (has_living_spouse g d) (eqb (kept_order g d) 1) (eqb (kept_order g d) 4)
  where
    by : (h x y : Bool) → 0 < cond h (cond x 4 (cond y 1 2)) 1
    by true true y = omega arith
    by true false true = omega arith
    by true false false = omega arith
    by false x y = omega arith

-- all pieces that the lines begin with, and the spouse's, are no more than there are
begin_most : (g : Family) (d n : ℕ) → relatives_times g d * all_pieces n (estate_starts g d) + all_pieces n (spouse_lead g d) ≤ n
begin_most g d n =
    by (has_living_spouse g d) (eqb (kept_order g d) 1) (eqb (kept_order g d) 4) (λ b. kept_starts g d b) (λ b. kept_starts_most g d b n)
    (λ e. ap (λ (o : ℕ). relatives_by o (first g d) (second g d) (third g d)) (eqb-true (kept_order g d) 4 e))
  where
    first : Family → ℕ → List Part
    first g d = record { who = d; by = 1 } ∷ []

    second : Family → ℕ → List Part
    second g d = couple_starts g (parents g d) 1

    third : Family → ℕ → List Part
    third g d =
        flat_map
        (λ p. couple_starts g (parents g p) (1 * length (kept_sides g d)))
        (kept_sides g d)

    by : (h x y : Bool) (r : ℕ → List Part) → ((b : ℕ) → all_pieces n (r b) * b ≤ n) → (y ≡ true → r 1 ≡ [])
        → cond h (cond x 3 1) 1 * all_pieces n (r (cond h (cond x 4 (cond y 1 2)) 1)) + all_pieces n (cond h (spouse_parts g d (cond h (cond x 4 (cond y 1 2)) 1)) []) ≤ n
    by true true y r k e = unfold all_pieces in (let a = k 4 in omega arith)
    by true false true r k e = unfold all_pieces in (let z : all_pieces n (r 1) ≡ 0 = ap (all_pieces n) (e refl) in let o = div-one n in omega arith)
    by true false false r k e = unfold all_pieces in (let a = k 2 in omega arith)
    by false x y r k e = unfold all_pieces in (let a = k 1 in omega arith)

module _ {g : Family} {rk : ℕ → ℕ} (s : Ranked g rk) where
  -- several lines listed
  pub lines_listed : (ps out : List ℕ) → AllByRecursion (λ p. alive g p ≡ true) ps → Listing g out
      → Listing g (all_listed (λ p o. listed_in (length g) (divided_among g) p o) ps out)
      × AllByRecursion (λ p. is_in p (all_listed (λ q o. listed_in (length g) (divided_among g) q o) ps out) ≡ true) ps
      × ((q : ℕ) → is_in q out ≡ true → is_in q (all_listed (λ p o. listed_in (length g) (divided_among g) p o) ps out) ≡ true)
  unfolding all_listed
  lines_listed [] out a h = (h, tt, λ q k. k)
  lines_listed (p ∷ ps) out a h =
      let x = line_listed s (length g) p out (omega arith) a.0 h in
      let y = lines_listed ps (listed_in (length g) (divided_among g) p out) a.1 x.0 in
      (y.0, (y.2 p x.1, y.1), λ q k. y.2 q (x.2 q k))

  none_listed : Listing g []
  none_listed = unfold InDescentOrder in (listing s [] tt tt)

  in_persons : (os : List ℕ) (ss : List Part) → AllByRecursion (λ p. is_in p os ≡ true) (starts_persons ss) → AllByRecursion (λ (p : Part). is_in p.who os ≡ true) ss
  in_persons os [] a = tt
  in_persons os (p ∷ ss) a = (a.0, in_persons os ss a.1)

  module _ (d : ℕ) where
    fits : AllByRecursion (λ (p : Part). (alive g p.who ≡ true) × (p.who < length g) × (0 < p.by) × (p.by ≤ 4 * relatives_number g d)) (estate_starts g d)
    fits = kept_starts_fit s d (relatives_number g d) (number_some g d)

    living : AllByRecursion (λ (p : Part). alive g p.who ≡ true) (estate_starts g d)
    living =
        All-weaker (λ (p : Part). (alive g p.who ≡ true) × (p.who < length g) × (0 < p.by) × (p.by ≤ 4 * relatives_number g d)) (λ (p : Part). alive g p.who ≡ true) (λ p v. v.0)
        (estate_starts g d) fits

    persons_listed : Listing g (estate_listing g d) × AllByRecursion (λ p. is_in p (estate_listing g d) ≡ true) (starts_persons (estate_starts g d))
    persons_listed =
        let r = lines_listed (starts_persons (estate_starts g d)) [] (All-map (λ p. alive g p ≡ true) (λ (p : Part). p.who) (estate_starts g d) living) none_listed in
        (r.0, r.1)

    begun : Starts g (estate_listing g d) (estate_starts g d)
    begun = record {
      living = living;
      listed = in_persons (estate_listing g d) (estate_starts g d) persons_listed.1;
      positive =
          All-weaker (λ (p : Part). (alive g p.who ≡ true) × (p.who < length g) × (0 < p.by) × (p.by ≤ 4 * relatives_number g d)) (λ (p : Part). 0 < p.by) (λ p v. v.2)
          (estate_starts g d) fits;
    }

    whole : spouse_lead g d ++ repeated (relatives_times g d) (starts_parts g (estate_starts g d)) ≡ kept_estate g d
    whole =
        ap (λ (ps : List Part). spouse_lead g d ++ repeated (relatives_times g d) ps) (kept_starts_parts g d (relatives_number g d)) ∙ estate_whole g d

    -- a number that all parts of the estate divide, all parts of the lines divide
    divides_lines : (n t : ℕ) (ps : List Part) → 0 < t → divides_all n (repeated t ps) ≡ true → divides_all n ps ≡ true
    divides_lines n zero ps l h = absurd (omega arith)
    divides_lines n (suc t) ps l h = divides_once n t ps h

    lines_divide : (n : ℕ) → divides_all n (kept_estate g d) ≡ true → divides_all n (starts_parts g (estate_starts g d)) ≡ true
    lines_divide n h =
        let k = divides_both n (spouse_lead g d) (repeated (relatives_times g d) (starts_parts g (estate_starts g d))) (ap (divides_all n) whole ∙ h) in
        divides_lines n (relatives_times g d) (starts_parts g (estate_starts g d)) (times_some g d) k.1

    -- everybody's pieces
    amounts_right : (row : List ℕ) (n w : ℕ) → length g ≤ length row → NoAmounts row → divides_all n (kept_estate g d) ≡ true
        → get_or (estate_amounts g d n row) w 0 + pieces n (spouse_lead g d) w ≡ pieces n (kept_estate g d) w
    amounts_right row n w l z h =
        let e = pieces_at_end s w (estate_listing g d) row (estate_starts g d) (relatives_times g d) n persons_listed.0 begun l z (lines_divide n h) in
        let a = pieces_append n (spouse_lead g d) (repeated (relatives_times g d) (starts_parts g (estate_starts g d))) w in
        let r = pieces_repeated n (relatives_times g d) (starts_parts g (estate_starts g d)) w in
        let o = ap (λ (ps : List Part). pieces n ps w) whole in
        omega (arith, e, a, r, o)

    amounts_long : (row : List ℕ) (n : ℕ) → length (estate_amounts g d n row) ≡ length row
    amounts_long row n =
        length-handed_down (divided_among g) (estate_listing g d) (started (relatives_times g d) n (estate_starts g d) row)
        ∙ length-started (relatives_times g d) n (estate_starts g d) row

    amounts_row : (row : List ℕ) (n : ℕ) → length g ≤ length row → NoAmounts row → divides_all n (kept_estate g d) ≡ true
        → started 1 n (spouse_lead g d) (estate_amounts g d n row) ≡ map (pieces n (kept_estate g d)) (range_with_len 0 (length row))
    amounts_row row n l z h =
        let r : List ℕ = estate_amounts g d n row in
        let long : length r ≡ length row = amounts_long row n in
        row_by (started 1 n (spouse_lead g d) r) (pieces n (kept_estate g d))
        (λ w.
        let e =
        started_pieces 1 n (spouse_lead g d) r w (All-weaker (λ (p : Part). p.who < length g) (λ (p : Part). p.who < length r) (λ p k. omega arith) (spouse_lead g d) (spouse_there g d)) in
        let a = amounts_right row n w l z h in
        omega arith)
        ∙ ap (λ (k : ℕ). map (pieces n (kept_estate g d)) (range_with_len 0 k)) (length-started 1 n (spouse_lead g d) r ∙ long)

    -- who has pieces
    heirs_listed : (row : List ℕ) (n w : ℕ) → length g ≤ length row → NoAmounts row → divides_all n (kept_estate g d) ≡ true → 0 < n
        → (0 < get_or (estate_amounts g d n row) w 0 → (is_in w (estate_listing g d) ≡ true) × ((person g w).lives ≡ true))
        × (is_in w (estate_listing g d) ≡ true → (person g w).lives ≡ true → 0 < get_or (estate_amounts g d n row) w 0)
    heirs_listed row n w l z h m = (
      λ k. heir_listed s (estate_listing g d) row (estate_starts g d) (relatives_times g d) n w persons_listed.0 begun z k,
      λ i v.
          let e = pieces_at_end s w (estate_listing g d) row (estate_starts g d) (relatives_times g d) n persons_listed.0 begun l z (lines_divide n h) in
          let k = listed_inherits s (estate_starts g d) n w living m (lines_divide n h) i v in
          subst (λ (x : ℕ). 0 < x) (sym e) (times_positive (relatives_times g d) (pieces n (starts_parts g (estate_starts g d)) w) (times_some g d) k),
    )

    pub estate_passes : ByPasses g d (kept_estate g d)
    estate_passes = record {
      listing = persons_listed.0;
      starts = begun;
      concerned = listed_concerned s (starts_persons (estate_starts g d)) (All-map (λ p. alive g p ≡ true) (λ (p : Part). p.who) (estate_starts g d) living);
      whole = whole;
      parts = λ row l.
          ap (λ (ps : List Part). leb (length ps) 4096) (sym whole)
          ∙ count_test s (estate_listing g d) row persons_listed.0 l (spouse_lead g d) (estate_starts g d) (relatives_times g d) begun (times_some g d);
      number = λ row l.
          ap (λ (ps : List Part). common_multiple ps 1) (sym whole)
          ∙ number_right s (estate_listing g d) row persons_listed.0 l (spouse_lead g d) (estate_starts g d) (relatives_times g d) begun (times_some g d);
      amounts = amounts_right;
      row = amounts_row;
      heirs = heirs_listed;
      most = λ row n l z.
          let e = sum_started (relatives_times g d) n (estate_starts g d) row
          (All-weaker (λ (p : Part). (alive g p.who ≡ true) × (p.who < length g) × (0 < p.by) × (p.by ≤ 4 * relatives_number g d)) (λ (p : Part). p.who < length row)
          (λ p v. let i = v.1 in omega arith) (estate_starts g d) fits) in
          let k = sum_nothing row z in
          let m = begin_most g d n in
          omega (arith, e, k, m);
    }

pub estate_marked : (f : Family) (d : ℕ) → WellFormed f → ByPasses (with_dead f d) d (estate f d)
estate_marked f d w = subst (λ (ps : List Part). ByPasses (with_dead f d) d ps) (sym (marked_dead w d).estate_is) (estate_passes (dead_ranked w.ranked d) d)

-- who is dead already need not be marked
pub estate_dead : (f : Family) (d : ℕ) → WellFormed f → (person f d).lives ≡ false → ByPasses f d (estate f d)
estate_dead f d w v = subst (λ (g : Family). ByPasses g d (estate f d)) (dead_already f d v) (estate_marked f d w)

pub estate_by_passes : EstateByPasses
unfolding EstateByPasses
estate_by_passes = (λ g rk d s. estate_passes s d, estate_marked)
