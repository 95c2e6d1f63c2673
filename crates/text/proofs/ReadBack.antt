-- Reading what was printed gives the same family. Assumes nothing.
use Rattle.std.proofs.Common.{◌≡◌, ℕ, zero, suc, ◌+◌, ◌-◌, ◌<◌, ◌≤◌, Bool, true, false, cond, not, ◌&&◌, eqb, ltb, ◌≢◌, List, [], ◌∷◌, ◌++◌, length, get_or, is_some, Some, None, Ok, Err, Option, Result, sym, refl, ap, ◌∙◌, subst, inl, inr, arith}
use Rattle.std.proofs.lemmas.Slice.Eq.{bytes_eq-Decides}
use Rattle.std.proofs.lemmas.List.{append-nil, append_assoc, length-append, length_push, map_push, get_or_at, get_or_append_left}
use Rattle.std.proofs.lemmas.Bool.{cases_Bool, cases_lt, cases_eq, cond-true, cond-false, lt-ltb, eq-eqb, ne_eqb, and_from, and_left, and_right, not_from_true}
use Rattle.std.specs.Option.{option_map}
use Rattle.std.specs.Str.{bytes_eq}
use Rattle.law.specs.Family.{Person, person, nobody, Family}
use Rattle.lines.specs.Names.{is_name}
use Rattle.lines.specs.Words.{Halves}
use Rattle.lines.specs.Grammar.{Line, line_text, names_maybe, all_names}
use Rattle.lines.proofs.OneForm.{line_read, line_cut}
use Rattle.text.specs.declared.Reason.{Reason}
use Rattle.text.specs.declared.Reason.TheVariants.{SameParents, OwnParent, LaterParent, OwnSpouse}
use Rattle.text.specs.declared.Fault.{Fault}
use Rattle.text.specs.Households.{Household, ValidFamily, Valid}
use Rattle.text.specs.Reading.{fault, names_of, place_of, Next, next_line, lines_in, parent_at, parent_in, spouse_at, spouse_of, person_with, person_made, person_of, persons_in, answered, agreed, with_names, with_spouses, with_persons, read_family}
use Rattle.text.specs.Printing.{name_from, name_at, line_for, lines_for, row, text_lines, family_text, ReadsBack, ReadAreValid, PrintedAgain}
use Rattle.text.proofs.Collecting.{step, next_cut, next_said, next_new}
use Rattle.text.proofs.Printed.{name_there, name_past}
use Rattle.text.proofs.ReadValid.{not_found, place_within, from_suc, read_are_valid}
use Rattle.text.proofs.Spouses.{answered_none, answered_same}

-- NAMES IN THEIR PLACES.
place_right : (n : List ℕ) (ns : List (List ℕ)) (p : ℕ) → place_of n ns ≡ Some p → get_or ns p [] ≡ n
place_right n [] p e = absurd (grind arith)
place_right n (x ∷ xs) p e =
    elim (cases_Bool (bytes_eq x n)) [
      | inl t ↦ let f = sym (cond-true (bytes_eq x n) (Some 0) (option_map suc (place_of n xs)) t) ∙ e in
          let z : ◌≡◌ {A = ℕ} 0 p = cc in
          sym (ap (λ (k : ℕ). get_or (x ∷ xs) k []) z) ∙ (bytes_eq-Decides x n).0 t
      | inr t ↦ let f = from_suc (place_of n xs) p (sym (cond-false (bytes_eq x n) (Some 0) (option_map suc (place_of n xs)) t) ∙ e) in
          ap (λ (k : ℕ). get_or (x ∷ xs) k []) f.2 ∙ place_right n xs f.0 f.1
    ]

abbrev pub Apart : List (List ℕ) → Type 0
Apart ns = (i j : ℕ) → i < length ns → j < length ns → get_or ns i [] ≡ get_or ns j [] → i ≡ j

place_found : (ns : List (List ℕ)) (k : ℕ) → Apart ns → k < length ns → place_of (get_or ns k []) ns ≡ Some k
place_found ns k apart h = by (place_of (get_or ns k []) ns) refl where
  by : (o : Option ℕ) → place_of (get_or ns k []) ns ≡ o → o ≡ Some k
  by None e = absurd (not_found (get_or ns k []) ns k e h refl)
  by (Some p) e = ap Some (apart p k (place_within (get_or ns k []) ns p e) h (place_right (get_or ns k []) ns p e))

absent : (n : List ℕ) (ns : List (List ℕ)) → ((i : ℕ) → i < length ns → get_or ns i [] ≢ n) → place_of n ns ≡ None
absent n ns none = by (place_of n ns) refl where
  by : (o : Option ℕ) → place_of n ns ≡ o → o ≡ None
  by None e = refl
  by (Some p) e = absurd (none p (place_within n ns p e) (place_right n ns p e))

-- LINES.
next_printed : (ls : List Line) (l : Line) (rest : List ℕ) → length ls < 64 → all_names l ≡ true → place_of l.name (names_of ls) ≡ None →
    next_line ls (row l ++ rest) ≡ Ok (record { line = l; rest = rest })
next_printed ls l rest few ok new =
    let h : Halves = record { before = line_text l; behind = rest } in
    sym (next_new ls rest l (ap is_some new)
    ∙ (next_said ls h (Some l) (sym (line_read l ok)) ∙ next_cut ls (row l ++ rest) (Some h) few (sym (line_cut l rest ok))))

-- lines that may follow others: each of names, and of a name that is new
abbrev pub Follow : List Line → List Line → Type 0
Follow ls [] = Unit {0}
Follow ls (l ∷ more) = (all_names l ≡ true) × (place_of l.name (names_of ls) ≡ None) × Follow (ls ++ (l ∷ [])) more

lines_printed : (more ls : List Line) (n : ℕ) → n + length ls ≡ 65 → length ls + length more ≤ 64 → Follow ls more → lines_in n (text_lines more) ls ≡ Ok (ls ++ more)
unfolding lines_in
lines_printed [] ls n k few ok = ap Ok (sym (append-nil ls))
lines_printed (l ∷ more) ls zero k few ok = absurd (omega arith)
lines_printed (l ∷ more) ls (suc n) k few ok =
    let bs = text_lines more in
    let long = length-append (row l) bs in
    let line = length-append (line_text l) (10 ∷ []) in
    step n ls (row l ++ bs) (omega arith)
    ∙ (ap (λ (r : Result Next Reason). elim r [ Ok x ↦ lines_in n x.rest (ls ++ (x.line ∷ [])) | Err q ↦ Err (fault (length ls) q) ]) (next_printed ls l bs (omega arith) ok.0 ok.1)
    ∙ (lines_printed more (ls ++ (l ∷ [])) n (omega (arith, length_push ls l)) (omega (arith, length_push ls l)) ok.2 ∙ ap Ok (append_assoc ls (l ∷ []) more)))

-- PERSONS.
module _ (ns : List (List ℕ)) (apart : Apart ns) where
  name_some : (k : ℕ) → k < length ns → name_from ns k ≡ Some (get_or ns k [])
  name_some k h = sym (name_there ns k h)

  parent_printed : (i m : ℕ) → m ≤ i → i < length ns → parent_in ns i (name_at ns m) ≡ Ok m
  parent_printed i zero h l = refl
  parent_printed i (suc k) h l =
      ap (parent_in ns i) (name_some k (omega arith))
      ∙ (ap (parent_at i) (place_found ns k apart (omega arith)) ∙ cond-true (ltb k i) (Ok (suc k)) (cond (eqb k i) (Err OwnParent) (Err LaterParent)) (lt-ltb k i (omega arith)))

  spouse_printed : (i s : ℕ) → ((q : ℕ) → s ≡ suc q → (q < length ns) × (i ≢ q)) → spouse_of ns i (name_at ns s) ≡ Ok s
  spouse_printed i zero h = refl
  spouse_printed i (suc k) h =
      let other = h k refl in
      ap (spouse_of ns i) (name_some k other.0)
      ∙ (ap (spouse_at i) (place_found ns k apart other.0) ∙ cond-false (eqb k i) (Err OwnSpouse) (Ok (suc k)) (ne_eqb k i (λ e. other.1 (sym e))))

  twice_not : (b : Bool) → not (not b) ≡ b
  twice_not true = refl
  twice_not false = refl

  two_parents : (m f : ℕ) → (m ≡ f → m ≡ 0) → (not (eqb m 0) && eqb m f) ≡ false
  two_parents m f h =
      elim (cases_eq m f) [
        | inl e ↦ and_left (not (eqb m 0)) (eqb m f) (not_from_true (eqb m 0) (eq-eqb m 0 (h e)))
        | inr e ↦ and_right (not (eqb m 0)) (eqb m f) (ne_eqb m f e)
      ]

  person_printed :
      (i : ℕ) (n : List ℕ) (p : Person) → i < length ns → p.mother ≤ i → p.father ≤ i → (p.mother ≡ p.father → p.mother ≡ 0) →
      ((q : ℕ) → p.spouse ≡ suc q → (q < length ns) × (i ≢ q)) → person_of ns i (line_for ns n p) ≡ Ok p
  unfolding person_of
  person_printed i n p l m f two s =
      (λ k. person_made (parent_printed i p.mother m l k) (parent_printed i p.father f l k) (not p.lives) (spouse_printed i p.spouse s k))
      ∙ (cond-false (not (eqb p.mother 0) && eqb p.mother p.father) (Err SameParents) (person_with p.mother p.father (not p.lives) (Ok p.spouse))
      (two_parents p.mother p.father two) ∙ (λ k. Ok (record { mother = p.mother; father = p.father; lives = twice_not p.lives k; spouse = p.spouse })))

-- SPOUSES.
agreed_printed : (f : Family) → ValidFamily f → (k i : ℕ) → agreed k i f ≡ Ok f
unfolding agreed
agreed_printed f valid zero i = refl
agreed_printed f valid (suc k) i =
    ap (λ (r : Result Family Reason). elim r [ Ok g ↦ agreed k (suc i) g | Err q ↦ Err (fault i q) ]) (sym here) ∙ agreed_printed f valid k (suc i)
  where
    here : Ok f ≡ answered f i
    here = by (person f i).spouse refl where
      by : (s : ℕ) → (person f i).spouse ≡ s → Ok f ≡ answered f i
      by zero e = answered_none f i e
      by (suc q) e =
          let back = (valid.spouses i q e).1 in
          let less : suc q - 1 ≡ q = omega arith in
          answered_same f i (suc q) (suc i) e (λ z. absurd (omega arith)) (ap (λ (x : ℕ). (person f x).spouse) less ∙ back) (λ z. absurd (omega arith)) refl

-- THE WHOLE.
names_for : (ns xs : List (List ℕ)) (ps : Family) → length xs ≡ length ps → names_of (lines_for ns xs ps) ≡ xs
names_for ns [] ps e = refl
names_for ns (x ∷ xs) [] e = absurd (omega arith)
names_for ns (x ∷ xs) (p ∷ ps) e = ap (λ (ys : List (List ℕ)). x ∷ ys) (names_for ns xs ps (omega arith))

lines_long : (ns xs : List (List ℕ)) (ps : Family) → length xs ≡ length ps → length (lines_for ns xs ps) ≡ length ps
lines_long ns [] [] e = refl
lines_long ns [] (p ∷ ps) e = absurd (omega arith)
lines_long ns (x ∷ xs) [] e = absurd (omega arith)
lines_long ns (x ∷ xs) (p ∷ ps) e = ap suc (lines_long ns xs ps (omega arith))

module _ (h : Household) (valid : Valid h) where
  names_at : (m : ℕ) → names_maybe (name_at h.names m) ≡ true
  names_at zero = refl
  names_at (suc k) =
      elim (cases_lt k (length h.names)) [
        | inl l ↦ ap names_maybe (sym (name_there h.names k l)) ∙ valid.names k l
        | inr l ↦ ap names_maybe (sym (name_past h.names k l))
      ]

  follow : (pre xs : List (List ℕ)) (ps : Family) (ls : List Line) → names_of ls ≡ pre → h.names ≡ pre ++ xs → Follow ls (lines_for h.names xs ps)
  follow pre [] ps ls e q = tt
  follow pre (x ∷ xs) [] ls e q = tt
  follow pre (x ∷ xs) (p ∷ ps) ls e q =
      let ns = h.names in
      let k = length pre in
      let long : length ns ≡ k + suc (length xs) = ap length q ∙ length-append pre (x ∷ xs) in
      let here : get_or ns k [] ≡ x = ap (λ (ys : List (List ℕ)). get_or ys k []) q ∙ get_or_at pre x xs [] k refl in
      let is : is_name x ≡ true = sym (ap is_name here) ∙ valid.names k (omega arith) in
      let l = line_for ns x p in
      let new : place_of x pre ≡ None =
      absent x pre
      (λ i g y.
      let same = ap (λ (ys : List (List ℕ)). get_or ys i []) q ∙ (get_or_append_left pre (x ∷ xs) [] i g ∙ (y ∙ sym here)) in
      let z = valid.apart i k (omega arith) (omega arith) same in
      absurd (omega arith)) in (
        and_from (is_name x) (names_maybe l.mother && (names_maybe l.father && names_maybe l.spouse)) is
            (and_from (names_maybe l.mother) (names_maybe l.father && names_maybe l.spouse) (names_at p.mother)
            (and_from (names_maybe l.father) (names_maybe l.spouse) (names_at p.father) (names_at p.spouse))),
        ap (place_of x) e ∙ new,
        follow (pre ++ (x ∷ [])) xs ps (ls ++ (l ∷ [])) (map_push (λ (y : Line). y.name) ls l ∙ ap (λ (ys : List (List ℕ)). ys ++ (x ∷ [])) e) (q ∙ sym (append_assoc pre (x ∷ []) xs)),
      )

  persons_printed : (xs : List (List ℕ)) (qs ps : Family) → h.family ≡ qs ++ ps → length xs ≡ length ps → persons_in h.names (lines_for h.names xs ps) qs ≡ Ok (qs ++ ps)
  unfolding persons_in
  persons_printed [] qs [] e n = ap Ok (sym (append-nil qs))
  persons_printed [] qs (p ∷ ps) e n = absurd (omega arith)
  persons_printed (x ∷ xs) qs [] e n = absurd (omega arith)
  persons_printed (x ∷ xs) qs (p ∷ ps) e n =
      let f = h.family in
      let k = length qs in
      let long : length f ≡ k + suc (length ps) = ap length e ∙ length-append qs (p ∷ ps) in
      let here : person f k ≡ p = ap (λ (g : Family). person g k) e ∙ get_or_at qs p ps nobody k refl in
      let v = valid.family in
      let many = valid.long in
      let read : person_of h.names k (line_for h.names x p) ≡ Ok p =
      person_printed h.names valid.apart k x p (omega arith) (subst (λ (y : Person). y.mother ≤ k) here (v.mothers k)) (subst (λ (y : Person). y.father ≤ k) here (v.fathers k))
      (subst (λ (y : Person). y.mother ≡ y.father → y.mother ≡ 0) here (v.two k))
      (λ q s. let spouse = v.spouses k q (ap (λ (y : Person). y.spouse) here ∙ s) in let there = spouse.0 in (omega arith, spouse.2)) in
      ap (λ (r : Result Person Reason). elim r [ Ok y ↦ persons_in h.names (lines_for h.names xs ps) (qs ++ (y ∷ [])) | Err q ↦ Err (fault k q) ]) read
      ∙ (persons_printed xs (qs ++ (p ∷ [])) ps (e ∙ sym (append_assoc qs (p ∷ []) ps)) (omega arith) ∙ ap Ok (append_assoc qs (p ∷ []) ps))

  back : read_family (family_text h) ≡ Ok h
  unfolding read_family family_text
  back =
      let ns = h.names in
      let f = h.family in
      let ls = lines_for ns ns f in
      let few = valid.family.few in
      let long = lines_long ns ns f valid.long in
      let names : names_of ls ≡ ns = names_for ns ns f valid.long in
      let persons : persons_in ns ls [] ≡ Ok f = persons_printed ns [] f refl valid.long in
      ap with_persons (lines_printed ls [] 65 refl (omega arith) (follow [] ns f [] refl refl))
      ∙ (ap (λ (ys : List (List ℕ)). with_names ys (with_spouses (persons_in ys ls []))) names
      ∙ (ap (λ (r : Result Family Fault). with_names ns (with_spouses r)) persons ∙ ap (with_names ns) (agreed_printed f valid.family (length f) 0)))

pub reads_back : ReadsBack
unfolding ReadsBack
reads_back h valid = back h valid

pub printed_again : PrintedAgain
unfolding PrintedAgain ReadAreValid
printed_again bs h e = back h (read_are_valid bs h e)
