-- Settling an estate in memory: the row that is settled, and what is left where it is beyond the limits and where it is within them. Assumes nothing.
use Rattle.std.proofs.Common.{◌≡◌, ℕ, zero, suc, ◌+◌, ◌-◌, ◌*◌, ◌<◌, ◌≤◌, Bool, false, cond, ◌⊎◌, List, [], ◌++◌, map, length, take, drop, replicate, Some, None, Option, sym, refl, ap, ◌∙◌, subst, inl, inr, arith}
use borrow.Rule.Slice.PartMut.{put_mid}
use Rattle.std.specs.List.{range_with_len, AllByRecursion}
use Rattle.std.proofs.lemmas.List.{append_assoc, append-nil, length-append}
use Rattle.std.proofs.lemmas.Bool.{cond-false, and_left, and_right, not_from_true, eq-eqb, lt-leb}
use Rattle.law.specs.Family.{Family, Part, person, repeated, estate}
use Rattle.law.specs.Calls.{common_multiple, shares}
use Rattle.rows.specs.Written.{written}
use Rattle.rows.proofs.Regions.{region_part, region_put}
use Rattle.theory.specs.Families.{Ranked, WellFormed}
use Rattle.theory.specs.Decedent.{kept_relatives}
use Rattle.theory.proofs.Lists.{all_both}
use Rattle.amounts.specs.Lines.{kept_starts, starts_parts}
use Rattle.amounts.specs.Estates.{relatives_number}
use Rattle.amounts.specs.Statements.{StartsRight}
use Rattle.amounts.proofs.Orders.{kept_starts_parts, starts_right}
use Rattle.succession.proofs.Spouses.{number_some}
use Rattle.theory.specs.Living.{alive}
use Rattle.theory.specs.Shares.{shares_of}
use Rattle.wire.specs.Bytes.{answer_bytes}
use Rattle.bits.specs.Sets.{bit_row, no_member}
use Rattle.children.specs.Links.{link_row}
use Rattle.living.specs.Places.{ParentsThere}
use Rattle.shares.specs.Parts.{lead_parts, whole_row, dividable}
use Rattle.shares.specs.Settling.{SoundRow, Settled}
use Rattle.shares.specs.Work.{word_part, parts_words, work_of, no_pieces}
use Rattle.shares.specs.declared.Part.{Part as PartStruct}
use Rattle.shares.proofs.Estates.{estate_sound}
use Rattle.people.specs.Layout.{person_row, image}
use Rattle.children.proofs.Links.{links_wide}
use Rattle.people.proofs.Layouts.{persons_wide, around_work}
use Rattle.shares.proofs.Settling.{word_same}
use Rattle.descent.specs.Going.{with_parts, TooLarge, Gone}
use Rattle.descent.proofs.Rows.{spare_words, rows_cleared, no_parts}
use Rattle.succession.specs.Orders.{Begun}
use Rattle.succession.specs.Settling.{DeadThere, EstateSettled}

-- what is asked to begin: parents and spouses within the limit, and no parts in memory
pub there_more : (f : Family) (n : ℕ) → length f ≤ n → ParentsThere f (length f) → ParentsThere f n
there_more f n room there p = (omega (arith, (there p).0), omega (arith, (there p).1))

pub spouse_within : (f : Family) (d : ℕ) → WellFormed f → (person f d).spouse ≤ length f
spouse_within f d w = go (person f d).spouse refl
  where
    go : (k : ℕ) → (person f d).spouse ≡ k → k ≤ length f
    go zero e = omega arith
    go (suc q) e = let h = (w.spouses d q e).0 in omega arith

pub begun_none : (ws : List ℕ) (n : ℕ) (f : Family) (rest : List ℕ) (who : ℕ) → ws ≡ image n f rest → (d : DeadThere f n who) → Begun ws n f d.formed.rank [] (spare_words n) rest 0
begun_none ws n f rest who e d =
    record { words = e ∙ no_parts n f rest; parts = refl; few = omega arith; room = d.room; ranked = d.formed.ranked }

-- the lines that the estate begins with are there, and their parts are those of the relatives
pub starts_there : (f : Family) (rk : ℕ → ℕ) (who by : ℕ) (row : List Part) → Ranked f rk → by ≡ relatives_number f who → row ≡ kept_starts f who by → AllByRecursion (λ q. q.who < length f) row
unfolding StartsRight
starts_there f rk who by row ranked e is =
    let right = starts_right f rk who by ranked (subst (λ (k : ℕ). 0 < k) (sym e) (number_some f who)) in
    subst (AllByRecursion (λ (q : Part). q.who < length f)) (sym is) (all_both _ _ (λ (q : Part). q.who < length f) (λ q h l. h.1) (kept_starts f who by) right.1 right.1)

pub gone_relatives :
    (n : ℕ) (f : Family) (spare rest : List ℕ) (who by : ℕ) (row : List Part) (mem : List ℕ) (r : Option ℕ) → row ≡ kept_starts f who by → Gone n f spare rest [] (starts_parts f row) mem r →
    Gone n f spare rest [] (kept_relatives f who by) mem r
gone_relatives n f spare rest who by row mem r is = subst (λ ps. Gone n f spare rest [] ps mem r) (ap (starts_parts f) is ∙ kept_starts_parts f who by)

-- rows beyond the limits
many_repeated : (k : ℕ) (ps : List Part) → 0 < k → length ps ≤ length (repeated k ps)
unfolding repeated
many_repeated zero ps h = absurd (omega arith)
many_repeated (suc k) ps h = omega (arith, length-append ps (repeated k ps))

large_repeated : (lead : Option PartStruct) (k : ℕ) (ps : List Part) → 0 < k → TooLarge ps → common_multiple (whole_row lead k ps) 1 ≡ 0
unfolding repeated
large_repeated lead zero ps h large = absurd (omega arith)
large_repeated lead (suc k) ps h large = large (lead_parts lead) (repeated k ps)

pub whole_beyond :
    (lead : Option PartStruct) (times : ℕ) (ps : List Part) → 0 < times → (4096 < 0 + length ps) ⊎ TooLarge ps → dividable (whole_row lead times ps) ≡ false
whole_beyond lead times ps h (inl many) =
    let long = length-append (lead_parts lead) (repeated times ps) in
    let more = many_repeated times ps h in
    and_left _ _ (lt-leb (length (whole_row lead times ps)) 4096 (omega arith))
whole_beyond lead times ps h (inr large) = and_right _ _ (not_from_true _ (eq-eqb (common_multiple (whole_row lead times ps) 1) 0 (large_repeated lead times ps h large)))

-- what is left where the estate is beyond the limits
pub settled_beyond :
    (n : ℕ) (f : Family) (rest : List ℕ) (who : ℕ) (lead : Option PartStruct) (times : ℕ) (row : List Part) (mem after before : List ℕ) (at : ℕ) → whole_row lead times row ≡ estate f who → 0 < times →
    Gone n f (spare_words n) rest [] row mem None → at ≡ 130 + 8 * n → after ≡ written at (replicate 8192 0) mem → EstateSettled n f rest who after before before None
settled_beyond n f rest who lead times row mem after before at is h g begins cleared =
    let no : dividable (estate f who) ≡ false = ap dividable (sym is) ∙ whole_beyond lead times row h g.0 in
    record {
      left = cleared ∙ rows_cleared mem n f g.1.0 (spare_words n) rest at g.1.2 begins g.1.1 ∙ sym (no_parts n f rest);
      said = sym (cond-false (dividable (estate f who)) _ before no);
      next = sym (cond-false (dividable (estate f who)) _ None no);
    }

-- the work area with all that lies behind it
work_behind :
    (m : ℕ) (ps : List Part) (s : ℕ → Bool) (g : ℕ → ℕ) (spare rest : List ℕ) → work_of m ps s g spare ++ rest ≡ work_of m ps s g (spare ++ rest)
unfolding work_of
work_behind m ps s g spare rest =
    let area = parts_words ps ++ replicate (8192 - 2 * length ps) 0 in
    let amounts = map g (range_with_len 0 m) in
    append_assoc area (bit_row 128 s ++ (amounts ++ spare)) rest
    ∙ ap (λ r. area ++ r) (append_assoc (bit_row 128 s) (amounts ++ spare) rest ∙ ap (λ r. bit_row 128 s ++ r) (append_assoc amounts spare rest))

-- the rest of memory from the work area on, handed on and put back
module _ (n : ℕ) (f : Family) (ps : List Part) (spare rest mem : List ℕ) (at : ℕ) (e : mem ≡ with_parts n f ps spare rest) (begins : at ≡ 130 + 8 * n) where
  abbrev all_behind : List Part → List ℕ
  all_behind qs = work_of n qs no_member no_pieces (spare ++ rest)

  around : (front : List ℕ) × (length front ≡ at) × ((qs : List Part) → with_parts n f qs spare rest ≡ front ++ (all_behind qs ++ []))
  around =
      let a = around_work n (length f) (person_row f) (link_row f) (alive f) rest (persons_wide f) (links_wide f) in (
        a.0,
        omega (arith, a.1),
        λ qs. a.2 (work_of n qs no_member no_pieces spare) ∙ ap (λ r. a.0 ++ r) (work_behind n qs no_member no_pieces spare rest ∙ sym (append-nil (all_behind qs))),
      )

  behind_long : length (all_behind ps) ≡ length mem - at
  unfolding around
  behind_long =
      let all = ap length (e ∙ around.2 ps) ∙ length-append around.0 (all_behind ps ++ []) ∙ ap (λ r. length around.0 + length r) (append-nil (all_behind ps)) in
      omega (arith, around.1, all)

  pub handed_on : take (length mem - at) (drop at mem) ≡ all_behind ps
  unfolding around
  handed_on =
      ap (λ u. take (length mem - at) (drop at u)) (e ∙ around.2 ps) ∙ region_part around.0 (all_behind ps) [] at (length mem - at) around.1 behind_long

  pub put_back : (new : List ℕ) → new ≡ all_behind [] → put_mid at (length mem - at) mem new ≡ with_parts n f [] spare rest
  unfolding around
  put_back new is =
      (λ i. put_mid at (length mem - at) ((e ∙ around.2 ps) i) (is i)) ∙ region_put around.0 (all_behind ps) [] (all_behind []) at (length mem - at) around.1 behind_long
      ∙ sym (around.2 [])

-- what the shares' layer is asked of the row of an estate, as words hold it
pub handed_words :
    (n : ℕ) (f : Family) (rest : List ℕ) (row : List Part) (mem : List ℕ) (count at : ℕ) → Gone n f (spare_words n) rest [] row mem (Some count) → at ≡ 130 + 8 * n →
    take (length mem - at) (drop at mem) ≡ work_of n (map word_part row) no_member no_pieces (spare_words n ++ rest)
handed_words n f rest row mem count at g begins =
    handed_on n f row (spare_words n) rest mem at g.2 begins ∙ ap (λ ps. work_of n ps no_member no_pieces (spare_words n ++ rest)) (sym (word_same row g.3))

pub row_sound :
    (f : Family) (who persons : ℕ) (row : List Part) → WellFormed f → persons ≡ length f → row ≡ estate f who → SoundRow persons row
row_sound f who persons row w many is =
    subst (λ k. SoundRow k row) (sym many) (subst (λ r. SoundRow (length f) r) (sym is) (estate_sound f who w))

-- what is left where the shares' layer has settled the row
pub settled_within :
    (n : ℕ) (f : Family) (rest : List ℕ) (who : ℕ) (row whole : List Part) (mem work before answer : List ℕ) (count at : ℕ) (r : Option ℕ) → whole ≡ estate f who →
    Gone n f (spare_words n) rest [] row mem (Some count) → at ≡ 130 + 8 * n → Settled n [] (spare_words n ++ rest) whole work before answer r →
    EstateSettled n f rest who (put_mid at (length mem - at) mem work) before answer r
settled_within n f rest who row whole mem work before answer count at r is g begins s =
    record {
      left = put_back n f row (spare_words n) rest mem at g.2 begins work s.left ∙ sym (no_parts n f rest);
      said = s.said ∙ ap (λ ps. cond (dividable ps) (written 0 (answer_bytes (shares (shares_of ps))) before) before) is;
      next = s.next ∙ ap (λ ps. cond (dividable ps) (Some (length (shares_of ps))) None) is;
    }
