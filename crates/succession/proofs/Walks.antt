-- A walk over the lines that an estate begins with: which are done, and which an iterator still gives. Assumes nothing.
use Rattle.std.proofs.Common.{◌≡◌, ℕ, ◌<◌, ◌≤◌, false, List, [], ◌∷◌, ◌++◌, length, Some, None, Option, sym, refl, ap, ◌∙◌, subst, arith}
use Rattle.std.specs.List.{AllByRecursion}
use Rattle.std.specs.Iterator.{AlwaysYields}
use Rattle.std.specs.declared.array.IntoIter.{IntoIter}
use Rattle.std.specs.declared.iter.Once.{Once}
use Rattle.std.specs.declared.iter.Flatten.{Flatten}
use Rattle.std.specs.Array.Iter.{array_into_iter_items, array_steps}
use Rattle.std.specs.Iterator.Adapters.{once_item, once_steps, flatten_source, flatten_front, flatten_back, flatten_done, flatten_steps}
use Rattle.std.proofs.lemmas.Iterator.{YieldsList}
use Rattle.std.proofs.lemmas.Iterator.Consumers.{YieldsList-from_shown}
use Rattle.std.proofs.lemmas.Iterator.Adapters.{YieldsList-from_flatten}
use Rattle.std.proofs.lemmas.List.{append_assoc, append-nil, length-append}
use Rattle.law.specs.Family.{Family, Part, line_parts}
use Rattle.theory.proofs.Lists.{joined_append}
use Rattle.amounts.specs.Lines.{starts_parts}
use Rattle.theory.specs.Living.{alive}
use Rattle.bits.specs.Sets.{no_member}
use Rattle.children.specs.Links.{link_row}
use Rattle.shares.specs.Work.{work_of, no_pieces}
use Rattle.people.specs.Layout.{person_row, count_in}
use Rattle.people.proofs.Layouts.{laid_count}
use Rattle.descent.specs.Going.{with_parts, Small, Ready}
use Rattle.succession.specs.Orders.{Begun}
use Rattle.shares.specs.Parts.{law_part, lead_parts}
use Rattle.shares.specs.declared.Part.{Part as PartStruct}
use Rattle.succession.specs.Starts.{starts_row}

pub record Walk {S : Type 0} (gives : S → Option PartStruct → S → Type 0) (whole : List Part) (it : S) : Type 0 where
  pub done : List Part
  pub left : List Part
  pub cut : whole ≡ done ++ left
  pub yields : YieldsList gives law_part it left

module _ {S : Type 0} {gives : S → Option PartStruct → S → Type 0} {whole : List Part} where
  abbrev pub walk_begun : (it : S) → YieldsList gives law_part it whole → Walk gives whole it
  walk_begun it yields = record { done = []; left = whole; cut = refl; yields = yields }

  -- one line more
  pub walk_met : (it later : S) (x : PartStruct) (w : Walk gives whole it) → gives it (Some x) later → (rest : List Part) × (whole ≡ w.done ++ (law_part x ∷ rest)) × YieldsList gives law_part later rest
  walk_met it later x w step = go w.left w.cut w.yields.runs
    where
      go : (zs : List Part) → whole ≡ w.done ++ zs → AlwaysYields gives law_part it zs → (rest : List Part) × (whole ≡ w.done ++ (law_part x ∷ rest)) × YieldsList gives law_part later rest
      go [] e y = absurd (y x later step)
      go (z ∷ zs) e y = let h = y.1 x later step in (zs, e ∙ ap (λ (q : Part). w.done ++ (q ∷ zs)) (sym h.0), record { runs = h.1 })

  abbrev pub walk_more : (it later : S) (x : PartStruct) (w : Walk gives whole it) → gives it (Some x) later → Walk gives whole later
  walk_more it later x w step =
      let m = walk_met it later x w step in
      record { done = w.done ++ (law_part x ∷ []); left = m.0; cut = m.1 ∙ sym (append_assoc w.done (law_part x ∷ []) m.0); yields = m.2 }

  -- none is left
  pub walk_ended : (it later : S) (w : Walk gives whole it) → gives it None later → w.done ≡ whole
  walk_ended it later w step = go w.left w.cut w.yields.runs
    where
      go : (zs : List Part) → whole ≡ w.done ++ zs → AlwaysYields gives law_part it zs → w.done ≡ whole
      go [] e y = sym (e ∙ append-nil w.done)
      go (z ∷ zs) e y = absurd (y.0 later step)

-- the lines in some places, one after the other
held_given : (j : Once PartStruct) → YieldsList once_steps law_part j (lead_parts (once_item j))
held_given = YieldsList-from_shown once_steps law_part (λ u. lead_parts (once_item u)) (λ s t h. ap (λ o. length (lead_parts o)) (sym h.0))
    (λ s x t h. ap lead_parts (sym h.0) ∙ ap (λ r. law_part x ∷ lead_parts r) (sym h.1))

pub places_given :
    {n : ℕ} (becomes : Option PartStruct → Once PartStruct → Type 0) → ((x : Option PartStruct) (j : Once PartStruct) → becomes x j → once_item j ≡ x) →
    (places : List (Option PartStruct)) (it : Flatten (IntoIter (Option PartStruct) n) (Once PartStruct)) → array_into_iter_items (flatten_source it) ≡ places → flatten_front it ≡ None →
    flatten_back it ≡ None → flatten_done it ≡ false → YieldsList (flatten_steps array_steps becomes once_steps) law_part it (starts_row places)
places_given becomes opens places it e front back done =
    YieldsList-from_flatten becomes once_steps law_part lead_parts (λ x j b. subst (λ o. YieldsList once_steps law_part j (lead_parts o)) (opens x j b) (held_given j))
    (subst (YieldsList array_steps (λ x. x) (flatten_source it)) e (YieldsList-from_shown array_steps (λ x. x) array_into_iter_items (λ s t h. h.0) (λ s x t h. h) (flatten_source it)))
    front back done

-- there are no more lines than places
pub length-starts : (places : List (Option PartStruct)) → length (starts_row places) ≤ length places
length-starts [] = omega arith
length-starts (None ∷ xs) = let h = length-starts xs in omega arith
length-starts (Some x ∷ xs) = let h = length-starts xs in omega arith

pub done_fewer : (xs rest whole : List Part) (x : Part) → whole ≡ xs ++ (x ∷ rest) → length xs < length whole
done_fewer xs rest whole x cut = omega (arith, ap length cut, length-append xs (x ∷ rest))

-- what holds of all lines holds of one that was met
pub all_met : (P : Part → Type 0) (xs rest whole : List Part) (x : Part) → whole ≡ xs ++ (x ∷ rest) → AllByRecursion P whole → P x
all_met P xs rest whole x e all = go xs (subst (AllByRecursion P) e all)
  where
    go : (ys : List Part) → AllByRecursion P (ys ++ (x ∷ rest)) → P x
    go [] h = h.0
    go (y ∷ ys) h = go ys h.1

-- the parts of lines, one line behind the others
pub parts_met : (f : Family) (xs rest whole : List Part) (x : Part) → whole ≡ xs ++ (x ∷ rest) → starts_parts f whole ≡ starts_parts f xs ++ (line_parts f (length f) x.who x.by ++ starts_parts f rest)
parts_met f xs rest whole x e = ap (starts_parts f) e ∙ joined_append (λ (s : Part). line_parts f (length f) s.who s.by) xs (x ∷ rest)

pub parts_more : (f : Family) (xs : List Part) (x : Part) → starts_parts f (xs ++ (x ∷ [])) ≡ starts_parts f xs ++ line_parts f (length f) x.who x.by
parts_more f xs x =
    joined_append (λ (s : Part). line_parts f (length f) s.who s.by) xs (x ∷ []) ∙ ap (λ (r : List Part). starts_parts f xs ++ r) (append-nil (line_parts f (length f) x.who x.by))

-- a line that was met can be gone down
pub ready_met :
    (ws mem : List ℕ) (n : ℕ) (f : Family) (rk : ℕ → ℕ) (whole done rest : List Part) (x : Part) (spare others : List ℕ) (count : ℕ) → Begun ws n f rk [] spare others 0 →
    AllByRecursion (λ (s : Part). s.who < length f) whole → whole ≡ done ++ (x ∷ rest) → count ≤ 4096 →
    (mem ≡ with_parts n f (starts_parts f done) spare others) × (count ≡ length (starts_parts f done)) × AllByRecursion Small (starts_parts f done) →
    Ready mem n f rk (starts_parts f done) spare others (count_in ws) x.who count
ready_met ws mem n f rk whole done rest x spare others count begun there cut few lies =
    let work = work_of n [] no_member no_pieces spare in
    let many : count_in ws ≡ length f = ap count_in begun.words ∙ laid_count n (length f) (person_row f) (link_row f) (alive f) work others in
    let parts = lies.1 in
    record {
      words = lies.0;
      parts = sym parts;
      few = omega arith;
      room = begun.room;
      ranked = begun.ranked;
      there = all_met (λ (s : Part). s.who < length f) done rest whole x cut there;
      enough = omega arith;
    }
