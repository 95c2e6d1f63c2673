-- Only valid families are read. Assumes nothing.
use Rattle.std.proofs.Common.{◌≡◌, ℕ, zero, suc, ◌+◌, ◌-◌, ◌<◌, ◌≤◌, Bool, true, false, cond, not, ◌&&◌, eqb, ltb, ◌≢◌, List, [], ◌∷◌, ◌++◌, length, get_or, set, is_some, Some, None, Ok, Err, Option, Result, sym, refl, ap, ◌∙◌, subst, inl, inr, arith}
use Rattle.std.proofs.lemmas.List.{length_push, length-map, length-set, map_push, get_or_append_left, get_or_push, get_or-set_same, get_or-set_other}
use Rattle.std.proofs.lemmas.Slice.Eq.{bytes_eq-Decides}
use Rattle.std.proofs.lemmas.Bool.{cases_Bool, cases_lt, cases_eq, cond-true, cond-false, ltb-true, eqb-true, eqb-false, eq-eqb, ne_eqb, and_parts, and_cases, not-false, both_ways}
use Rattle.std.specs.Option.{option_map}
use Rattle.std.specs.Str.{bytes_eq}
use Rattle.law.specs.Family.{Person, person, nobody, Family}
use Rattle.law.specs.Calls.{with_spouse}
use Rattle.theory.proofs.Families.{person_push, married_there}
use Rattle.lines.specs.Names.{is_name}
use Rattle.lines.specs.Words.{Halves, cut}
use Rattle.lines.specs.Grammar.{Line, read_line, names_maybe}
use Rattle.lines.proofs.OneForm.{line_back}
use Rattle.text.specs.declared.Reason.{Reason}
use Rattle.text.specs.declared.Reason.TheVariants.{NameTwice, TooMany, SameParents, SecondSpouse, OwnParent, LaterParent, OwnSpouse}
use Rattle.text.specs.declared.Fault.{Fault}
use Rattle.text.specs.Households.{Household, ValidFamily, Valid}
use Rattle.text.specs.Reading.{fault, names_of, place_of, Next, unused, readable, next_line, lines_in, parent_at, parent_in, spouse_at, spouse_of, person_with, person_made, person_of, persons_in, answered, agreed, with_names, with_spouses, persons_of, with_persons, read_family}
use Rattle.text.specs.Printing.{ReadAreValid}
use Rattle.text.proofs.Collecting.{next_few}

-- NAMES, each of them one, and none twice.
pub record Named (ns : List (List ℕ)) : Type 0 where
  pub names : (i : ℕ) → i < length ns → is_name (get_or ns i []) ≡ true
  pub apart : (i j : ℕ) → i < length ns → j < length ns → get_or ns i [] ≡ get_or ns j [] → i ≡ j

suc_some : (o : Option ℕ) → option_map suc o ≡ None → o ≡ None
suc_some None e = refl
suc_some (Some k) e = absurd (grind arith)

-- who is not found has no place
pub not_found : (n : List ℕ) (ns : List (List ℕ)) (i : ℕ) → place_of n ns ≡ None → i < length ns → get_or ns i [] ≢ n
not_found n [] i e h = absurd (omega arith)
not_found n (x ∷ xs) zero e h =
    λ q. let t = (bytes_eq-Decides x n).1 q in let f = sym (cond-true (bytes_eq x n) (Some 0) (option_map suc (place_of n xs)) t) ∙ e in absurd (grind arith)
not_found n (x ∷ xs) (suc i) e h =
    elim (cases_Bool (bytes_eq x n)) [
      | inl t ↦ absurd (let f = sym (cond-true (bytes_eq x n) (Some 0) (option_map suc (place_of n xs)) t) ∙ e in grind arith)
      | inr t ↦ not_found n xs i (suc_some (place_of n xs) (sym (cond-false (bytes_eq x n) (Some 0) (option_map suc (place_of n xs)) t) ∙ e)) (omega arith)
    ]

named_more : (ns : List (List ℕ)) (n : List ℕ) → Named ns → is_name n ≡ true → place_of n ns ≡ None → Named (ns ++ (n ∷ []))
named_more ns n old ok new =
    let long = length_push ns n in
    let front : (i : ℕ) → i < length ns → get_or (ns ++ (n ∷ [])) i [] ≡ get_or ns i [] = λ i h. get_or_append_left ns (n ∷ []) [] i h in
    let last : (i : ℕ) → length ns ≡ i → get_or (ns ++ (n ∷ [])) i [] ≡ n = λ i h. get_or_push ns n [] i h in
    record {
      names =
          λ i h.
          elim (cases_lt i (length ns)) [
            | inl l ↦ ap is_name (front i l) ∙ old.names i l
            | inr l ↦ ap is_name (last i (omega arith)) ∙ ok
          ];
      apart =
          λ i j h g e.
          elim (cases_lt i (length ns)) [
            | inl l ↦ elim (cases_lt j (length ns)) [
              | inl m ↦ old.apart i j l m (sym (front i l) ∙ (e ∙ front j m))
              | inr m ↦ absurd (not_found n ns i new l (sym (front i l) ∙ (e ∙ last j (omega arith))))
            ]
            | inr l ↦ elim (cases_lt j (length ns)) [
              | inl m ↦ absurd (not_found n ns j new m (sym (front j m) ∙ (sym e ∙ last i (omega arith))))
              | inr m ↦ omega arith
            ]
          ];
    }

named_none : Named []
named_none = record { names = λ i h. absurd (omega arith); apart = λ i j h g e. absurd (omega arith) }

-- LINES.
none_from : (o : Option ℕ) → is_some o ≡ false → o ≡ None
none_from None e = refl
none_from (Some k) e = absurd (both_ways true e refl)

unused_back : (ls : List Line) (rest : List ℕ) (o : Option Line) (x : Next) → unused ls rest o ≡ Ok x → (o ≡ Some x.line) × (place_of x.line.name (names_of ls) ≡ None)
unused_back ls rest None x e = absurd (grind arith)
unused_back ls rest (Some l) x e =
    elim (cases_Bool (is_some (place_of l.name (names_of ls)))) [
      | inl t ↦ absurd (let f = sym (cond-true (is_some (place_of l.name (names_of ls))) (Err NameTwice) (Ok (record { line = l; rest = rest })) t) ∙ e in grind arith)
      | inr t ↦ let f = sym (cond-false (is_some (place_of l.name (names_of ls))) (Err NameTwice) (Ok (record { line = l; rest = rest })) t) ∙ e in
          let same : l ≡ x.line = cc in
          (ap Some same, none_from (place_of x.line.name (names_of ls)) (ap (λ (y : Line). is_some (place_of y.name (names_of ls))) (sym same) ∙ t))
    ]

readable_back : (ls : List Line) (o : Option Halves) (x : Next) → readable ls o ≡ Ok x → (is_name x.line.name ≡ true) × (place_of x.line.name (names_of ls) ≡ None)
readable_back ls None x e = absurd (grind arith)
readable_back ls (Some h) x e =
    let u = unused_back ls h.behind (read_line h.before) x e in
    let all = (line_back h.before x.line u.0).0 in
    ((and_parts (is_name x.line.name) (names_maybe x.line.mother && (names_maybe x.line.father && names_maybe x.line.spouse)) all).0, u.1)

next_back : (ls : List Line) (bs : List ℕ) (x : Next) → next_line ls bs ≡ Ok x → (is_name x.line.name ≡ true) × (place_of x.line.name (names_of ls) ≡ None)
unfolding next_line
next_back ls bs x e =
    elim (cases_Bool (ltb (length ls) 64)) [
      | inl t ↦ readable_back ls (cut (10 ∷ []) bs) x (sym (cond-true (ltb (length ls) 64) (readable ls (cut (10 ∷ []) bs)) (Err TooMany) t) ∙ e)
      | inr t ↦ absurd (let f = sym (cond-false (ltb (length ls) 64) (readable ls (cut (10 ∷ []) bs)) (Err TooMany) t) ∙ e in grind arith)
    ]

-- what is known of lines that were read
pub record Lines (ls : List Line) : Type 0 where
  pub named : Named (names_of ls)
  pub few : length ls ≤ 64

lines_next : (ls : List Line) (bs : List ℕ) (x : Next) → Lines ls → next_line ls bs ≡ Ok x → Lines (ls ++ (x.line ∷ []))
lines_next ls bs x old e =
    let b = next_back ls bs x e in
    record {
      named = subst (λ (ns : List (List ℕ)). Named ns) (sym (map_push (λ (l : Line). l.name) ls x.line)) (named_more (names_of ls) x.line.name old.named b.0 b.1);
      few = omega (arith, next_few ls bs x e, length_push ls x.line);
    }

lines_by :
    (n : ℕ) (ls all : List Line) (r : Result Next Reason) → ((x : Next) → r ≡ Ok x → Lines (ls ++ (x.line ∷ []))) →
    ((x : Next) → Lines (ls ++ (x.line ∷ [])) → lines_in n x.rest (ls ++ (x.line ∷ [])) ≡ Ok all → Lines all) →
    ◌≡◌ {A = Result (List Line) Fault} (elim r [ Ok x ↦ lines_in n x.rest (ls ++ (x.line ∷ [])) | Err y ↦ Err (fault (length ls) y) ]) (Ok all) → Lines all
lines_by n ls all (Ok x) f g q = g x (f x refl) q
lines_by n ls all (Err y) f g q = absurd (grind arith)

lines_back : (n : ℕ) (bs : List ℕ) (ls all : List Line) → Lines ls → lines_in n bs ls ≡ Ok all → Lines all
unfolding lines_in
lines_back n [] ls all old e = let same : ls ≡ all = cc in subst (λ (x : List Line). Lines x) same old
lines_back zero (b ∷ bs) ls all old e = let same : ls ≡ all = cc in subst (λ (x : List Line). Lines x) same old
lines_back (suc n) (b ∷ bs) ls all old e =
    lines_by n ls all (next_line ls (b ∷ bs)) (λ x q. lines_next ls (b ∷ bs) x old q) (λ x good q. lines_back n x.rest (ls ++ (x.line ∷ [])) all good q) e

-- PERSONS.
pub from_suc : (o : Option ℕ) (p : ℕ) → option_map suc o ≡ Some p → (q : ℕ) × (o ≡ Some q) × (p ≡ suc q)
from_suc None p e = absurd (grind arith)
from_suc (Some q) p e = (q, refl, (let same : suc q ≡ p = cc in sym same))

pub place_within : (n : List ℕ) (ns : List (List ℕ)) (p : ℕ) → place_of n ns ≡ Some p → p < length ns
place_within n [] p e = absurd (grind arith)
place_within n (x ∷ xs) p e =
    elim (cases_Bool (bytes_eq x n)) [
      | inl t ↦ let f = sym (cond-true (bytes_eq x n) (Some 0) (option_map suc (place_of n xs)) t) ∙ e in let z : ◌≡◌ {A = ℕ} 0 p = cc in omega arith
      | inr t ↦ let f = from_suc (place_of n xs) p (sym (cond-false (bytes_eq x n) (Some 0) (option_map suc (place_of n xs)) t) ∙ e) in
          let rest = place_within n xs f.0 f.1 in
          let more = f.2 in
          omega arith
    ]

parent_below : (i m : ℕ) (o : Option ℕ) → parent_at i o ≡ Ok m → m ≤ i
parent_below i m None e = absurd (grind arith)
parent_below i m (Some p) e =
    elim (cases_Bool (ltb p i)) [
      | inl t ↦ let f = sym (cond-true (ltb p i) (Ok (suc p)) (cond (eqb p i) (Err OwnParent) (Err LaterParent)) t) ∙ e in
          let z : suc p ≡ m = cc in
          let less = ltb-true p i t in
          omega arith
      | inr t ↦ let f = sym (cond-false (ltb p i) (Ok (suc p)) (cond (eqb p i) (Err OwnParent) (Err LaterParent)) t) ∙ e in
          elim (cases_Bool (eqb p i)) [
            | inl u ↦ absurd (let g = sym (cond-true (eqb p i) (Err OwnParent) (Err LaterParent) u) ∙ f in grind arith)
            | inr u ↦ absurd (let g = sym (cond-false (eqb p i) (Err OwnParent) (Err LaterParent) u) ∙ f in grind arith)
          ]
    ]

parent_back : (ns : List (List ℕ)) (i m : ℕ) (o : Option (List ℕ)) → parent_in ns i o ≡ Ok m → m ≤ i
parent_back ns i m None e = let z : ◌≡◌ {A = ℕ} 0 m = cc in omega arith
parent_back ns i m (Some n) e = parent_below i m (place_of n ns) e

-- a spouse that was named is another person who is there
abbrev pub Other : ℕ → ℕ → ℕ → Type 0
Other n i s = (q : ℕ) → s ≡ suc q → (q < n) × (i ≢ q)

spouse_other : (n i s : ℕ) (o : Option ℕ) → ((p : ℕ) → o ≡ Some p → p < n) → spouse_at i o ≡ Ok s → Other n i s
spouse_other n i s None w e = absurd (grind arith)
spouse_other n i s (Some p) w e =
    elim (cases_Bool (eqb p i)) [
      | inl t ↦ absurd (let f = sym (cond-true (eqb p i) (Err OwnSpouse) (Ok (suc p)) t) ∙ e in grind arith)
      | inr t ↦ let f = sym (cond-false (eqb p i) (Err OwnSpouse) (Ok (suc p)) t) ∙ e in
          let z : suc p ≡ s = cc in
          let there = w p refl in
          let differ = eqb-false p i t in
          λ q y. (omega arith, λ x. differ (omega arith))
    ]

spouse_back : (ns : List (List ℕ)) (i s : ℕ) (o : Option (List ℕ)) → spouse_of ns i o ≡ Ok s → Other (length ns) i s
spouse_back ns i s None e = let z : ◌≡◌ {A = ℕ} 0 s = cc in λ q y. absurd (omega arith)
spouse_back ns i s (Some n) e = spouse_other (length ns) i s (place_of n ns) (λ p q. place_within n ns p q) e

-- what is known of the i-th person
pub record Fits (n i : ℕ) (p : Person) : Type 0 where
  pub mother : p.mother ≤ i
  pub father : p.father ≤ i
  pub two : p.mother ≡ p.father → p.mother ≡ 0
  pub spouse : Other n i p.spouse

made_back :
    (n i : ℕ) (m f s : Result ℕ Reason) (d : Bool) (p : Person) → ((x : ℕ) → m ≡ Ok x → x ≤ i) → ((x : ℕ) → f ≡ Ok x → x ≤ i) → ((x : ℕ) → s ≡ Ok x → Other n i x) →
    person_made m f d s ≡ Ok p → Fits n i p
made_back n i (Err r) f s d p a b c e = absurd (grind arith)
made_back n i (Ok m) (Err r) s d p a b c e = absurd (grind arith)
made_back n i (Ok m) (Ok f) (Err r) d p a b c e =
    elim (cases_Bool (not (eqb m 0) && eqb m f)) [
      | inl t ↦ absurd (let g = sym (cond-true (not (eqb m 0) && eqb m f) (Err SameParents) (Err r) t) ∙ e in grind arith)
      | inr t ↦ absurd (let g = sym (cond-false (not (eqb m 0) && eqb m f) (Err SameParents) (Err r) t) ∙ e in grind arith)
    ]
made_back n i (Ok m) (Ok f) (Ok s) d p a b c e =
    elim (cases_Bool (not (eqb m 0) && eqb m f)) [
      | inl t ↦ absurd (let g = sym (cond-true (not (eqb m 0) && eqb m f) (Err SameParents) (person_with m f d (Ok s)) t) ∙ e in grind arith)
      | inr t ↦ let g = sym (cond-false (not (eqb m 0) && eqb m f) (Err SameParents) (person_with m f d (Ok s)) t) ∙ e in
          let mother : m ≡ p.mother = cc in
          let father : f ≡ p.father = cc in
          let spouse : s ≡ p.spouse = cc in
          let low = a m refl in
          let low-father = b f refl in
          record {
            mother = omega arith;
            father = omega arith;
            two =
                λ q.
                elim (and_cases (not (eqb m 0)) (eqb m f) t) [
                  | inl z ↦ let y = eqb-true m 0 (not-false (eqb m 0) z) in omega arith
                  | inr z ↦ absurd (eqb-false m f z (omega arith))
                ];
            spouse = subst (λ (x : ℕ). Other n i x) spouse (c s refl);
          }
    ]

person_back : (ns : List (List ℕ)) (i : ℕ) (l : Line) (p : Person) → person_of ns i l ≡ Ok p → Fits (length ns) i p
unfolding person_of
person_back ns i l p e =
    made_back (length ns) i (parent_in ns i l.mother) (parent_in ns i l.father) (spouse_of ns i l.spouse) l.died p (λ x q. parent_back ns i x l.mother q)
    (λ x q. parent_back ns i x l.father q) (λ x q. spouse_back ns i x l.spouse q) e

abbrev pub AllFit : ℕ → Family → Type 0
AllFit n f = (i : ℕ) → Fits n i (person f i)

nobody_fits : (n i : ℕ) → Fits n i nobody
nobody_fits n i = record { mother = omega arith; father = omega arith; two = λ e. refl; spouse = λ q y. absurd (omega arith) }

fit_more : (n : ℕ) (f : Family) (p : Person) → AllFit n f → Fits n (length f) p → AllFit n (f ++ (p ∷ []))
fit_more n f p old new i = person_push f p i (λ x. Fits n i x) (λ h. old i) (λ h. subst (λ (k : ℕ). Fits n k p) (sym h) new) (λ h. nobody_fits n i)

-- what is known of persons that were read
pub record Persons (n m : ℕ) (f : Family) : Type 0 where
  pub fit : AllFit n f
  pub long : length f ≡ m

persons_by :
    (ns : List (List ℕ)) (ls : List Line) (f all : Family) (m : ℕ) (r : Result Person Reason) → ((p : Person) → r ≡ Ok p → AllFit (length ns) (f ++ (p ∷ []))) →
    ((p : Person) → AllFit (length ns) (f ++ (p ∷ [])) → persons_in ns ls (f ++ (p ∷ [])) ≡ Ok all → Persons (length ns) m all) →
    ◌≡◌ {A = Result Family Fault} (elim r [ Ok p ↦ persons_in ns ls (f ++ (p ∷ [])) | Err y ↦ Err (fault (length f) y) ]) (Ok all) → Persons (length ns) m all
persons_by ns ls f all m (Ok p) g h q = h p (g p refl) q
persons_by ns ls f all m (Err y) g h q = absurd (grind arith)

persons_back : (ns : List (List ℕ)) (ls : List Line) (f all : Family) (m : ℕ) → length f + length ls ≡ m → AllFit (length ns) f → persons_in ns ls f ≡ Ok all → Persons (length ns) m all
unfolding persons_in
persons_back ns [] f all m n old e = let same : f ≡ all = cc in record { fit = subst (λ (x : Family). AllFit (length ns) x) same old; long = omega (arith, ap length same) }
persons_back ns (l ∷ ls) f all m n old e =
    persons_by ns ls f all m (person_of ns (length f) l) (λ p q. fit_more (length ns) f p old (person_back ns (length f) l p q))
    (λ p good q. persons_back ns ls (f ++ (p ∷ [])) all m (omega (arith, length_push f p)) good q) e

-- SPOUSES. Whoever is below i has a spouse who has them.
abbrev pub Mutual : ℕ → Family → Type 0
Mutual i f = (p q : ℕ) → p < i → (person f p).spouse ≡ suc q → (person f q).spouse ≡ suc p

pub record Agreeing (n i m : ℕ) (f : Family) : Type 0 where
  pub fit : AllFit n f
  pub paired : Mutual i f
  pub long : length f ≡ m

module _ (n i m : ℕ) (f : Family) (old : Agreeing n i m f) where
  -- nothing is to do
  same_agreeing : Mutual (suc i) f → Agreeing n (suc i) m f
  same_agreeing h = record { fit = old.fit; paired = h; long = old.long }

  unmarried_agreeing : (person f i).spouse ≡ 0 → Agreeing n (suc i) m f
  unmarried_agreeing e =
      same_agreeing
      (λ p q h s. elim (cases_lt p i) [ inl l ↦ old.paired p q l s | inr l ↦ absurd (let same : p ≡ i = omega arith in let z = ap (λ (x : ℕ). (person f x).spouse) same in omega arith) ])

  married_agreeing : (s : ℕ) → (person f i).spouse ≡ suc s → (person f s).spouse ≡ suc i → Agreeing n (suc i) m f
  married_agreeing s e g =
      same_agreeing
      (λ p q h t.
      elim (cases_lt p i) [
        | inl l ↦ old.paired p q l t
        | inr l ↦ let same : p ≡ i = omega arith in
            let z = ap (λ (x : ℕ). (person f x).spouse) same in
            let w : q ≡ s = omega arith in
            ap (λ (x : ℕ). (person f x).spouse) w ∙ (g ∙ ap suc (sym same))
      ])

  -- the spouse answers
  module _ (s : ℕ) (e : (person f i).spouse ≡ suc s) (free : (person f s).spouse ≡ 0) (there : s < length f) (here : i < n) where
    abbrev pub answer : Family
    answer = set f s (with_spouse (person f s) (suc i))

    differ : i ≢ s
    differ = ((old.fit i).spouse s e).1

    answer_here : person answer s ≡ with_spouse (person f s) (suc i)
    answer_here = get_or-set_same f s (with_spouse (person f s) (suc i)) nobody there

    answer_else : (p : ℕ) → p ≢ s → person answer p ≡ person f p
    answer_else p h = get_or-set_other f s p (with_spouse (person f s) (suc i)) nobody h

    answer_fit : AllFit n answer
    answer_fit p =
        elim (cases_eq p s) [
          | inl y ↦ let old-fit = subst (λ (x : ℕ). Fits n x (person f s)) (sym y) (old.fit s) in
              subst (λ (x : Person). Fits n p x) (sym (ap (person answer) y ∙ answer_here))
              (record { mother = old-fit.mother; father = old-fit.father; two = old-fit.two; spouse = λ q z. (omega arith, λ w. differ (omega arith)) })
          | inr y ↦ subst (λ (x : Person). Fits n p x) (sym (answer_else p y)) (old.fit p)
        ]

    answer_mutual : Mutual (suc i) answer
    answer_mutual p q h t =
        elim (cases_eq p s) [
          | inl y ↦ let mine = ap (λ (x : ℕ). (person answer x).spouse) y ∙ ap (λ (x : Person). x.spouse) answer_here in
              let w : q ≡ i = omega arith in
              ap (λ (x : ℕ). (person answer x).spouse) w ∙ (ap (λ (x : Person). x.spouse) (answer_else i differ) ∙ (e ∙ ap suc (sym y)))
          | inr y ↦ let mine : (person f p).spouse ≡ suc q = sym (ap (λ (x : Person). x.spouse) (answer_else p y)) ∙ t in
              elim (cases_lt p i) [
                | inl l ↦ let back = old.paired p q l mine in
                    let apart : q ≢ s = λ z. let w = ap (λ (x : ℕ). (person f x).spouse) z in absurd (omega arith) in
                    ap (λ (x : Person). x.spouse) (answer_else q apart) ∙ back
                | inr l ↦ let same : p ≡ i = omega arith in
                    let z = ap (λ (x : ℕ). (person f x).spouse) same in
                    let w : q ≡ s = omega arith in
                    ap (λ (x : ℕ). (person answer x).spouse) w ∙ (ap (λ (x : Person). x.spouse) answer_here ∙ ap suc (sym same))
              ]
        ]

    answer_agreeing : Agreeing n (suc i) m answer
    answer_agreeing = record { fit = answer_fit; paired = answer_mutual; long = length-set f s (with_spouse (person f s) (suc i)) ∙ old.long }

  answered_back : (g : Family) → i < m → n ≡ m → answered f i ≡ Ok g → Agreeing n (suc i) m g
  unfolding answered
  answered_back g h k e =
      let s = (person f i).spouse in
      let theirs = (person f (s - 1)).spouse in
      let new = set f (s - 1) (with_spouse (person f (s - 1)) (suc i)) in
      let otherwise = cond (eqb theirs (suc i)) (Ok f) (Err SecondSpouse) in
      elim (cases_eq s 0) [
        | inl z ↦ let same : f ≡ g = (let q = sym (cond-true (eqb s 0) (Ok f) (cond (eqb theirs 0) (Ok new) otherwise) (eq-eqb s 0 z)) ∙ e in cc) in
            subst (λ (x : Family). Agreeing n (suc i) m x) same (unmarried_agreeing z)
        | inr z ↦ let one = sym (cond-false (eqb s 0) (Ok f) (cond (eqb theirs 0) (Ok new) otherwise) (ne_eqb s 0 z)) ∙ e in
            let spouse : (person f i).spouse ≡ suc (s - 1) = omega arith in
            let there = ((old.fit i).spouse (s - 1) spouse).0 in
            let long = old.long in
            elim (cases_eq theirs 0) [
              | inl y ↦ let same : new ≡ g = (let q = sym (cond-true (eqb theirs 0) (Ok new) otherwise (eq-eqb theirs 0 y)) ∙ one in cc) in
                  subst (λ (x : Family). Agreeing n (suc i) m x) same (answer_agreeing (s - 1) spouse y (omega arith) (omega arith))
              | inr y ↦ let two = sym (cond-false (eqb theirs 0) (Ok new) otherwise (ne_eqb theirs 0 y)) ∙ one in
                  elim (cases_eq theirs (suc i)) [
                    | inl w ↦ let same : f ≡ g = (let q = sym (cond-true (eqb theirs (suc i)) (Ok f) (Err SecondSpouse) (eq-eqb theirs (suc i) w)) ∙ two in cc) in
                        subst (λ (x : Family). Agreeing n (suc i) m x) same (married_agreeing (s - 1) spouse w)
                    | inr w ↦ absurd (let q = sym (cond-false (eqb theirs (suc i)) (Ok f) (Err SecondSpouse) (ne_eqb theirs (suc i) w)) ∙ two in grind arith)
                  ]
            ]
      ]

agreed_by :
    (n k i m : ℕ) (all : Family) (r : Result Family Reason) → ((g : Family) → r ≡ Ok g → Agreeing n (suc i) m g) →
    ((g : Family) → Agreeing n (suc i) m g → agreed k (suc i) g ≡ Ok all → Agreeing n m m all) →
    ◌≡◌ {A = Result Family Fault} (elim r [ Ok g ↦ agreed k (suc i) g | Err y ↦ Err (fault i y) ]) (Ok all) → Agreeing n m m all
agreed_by n k i m all (Ok g) a b q = b g (a g refl) q
agreed_by n k i m all (Err y) a b q = absurd (grind arith)

agreed_back : (n k i m : ℕ) (f all : Family) → i + k ≡ m → n ≡ m → Agreeing n i m f → agreed k i f ≡ Ok all → Agreeing n m m all
unfolding agreed
agreed_back n zero i m f all h q old e =
    let same : f ≡ all = cc in
    let end : i ≡ m = omega arith in
    subst (λ (x : Family). Agreeing n m m x) same (subst (λ (j : ℕ). Agreeing n j m f) end old)
agreed_back n (suc k) i m f all h q old e =
    agreed_by n k i m all (answered f i) (λ g y. answered_back n i m f old g (omega arith) q y) (λ g good y. agreed_back n k (suc i) m g all (omega arith) q good y) e

-- THE WHOLE.
pub family_valid : (n : ℕ) (f : Family) → n ≡ length f → n ≤ 64 → Agreeing n (length f) (length f) f → ValidFamily f
family_valid n f e few a =
    record {
      few = omega arith;
      mothers = λ c. (a.fit c).mother;
      fathers = λ c. (a.fit c).father;
      two = λ c. (a.fit c).two;
      spouses =
          λ p q s. let other = (a.fit p).spouse q s in let there = other.0 in (omega arith, a.paired p q (married_there f p q s) s, other.1);
    }

spouses_back : (ns : List (List ℕ)) (ls : List Line) (r : Result Family Fault) (h : Household) → length ns ≡ length ls → length ls ≤ 64 → Named ns →
    ((f : Family) → r ≡ Ok f → Persons (length ns) (length ls) f) → with_names ns (with_spouses r) ≡ Ok h → Valid h
spouses_back ns ls (Err e) h n few named f q = absurd (grind arith)
spouses_back ns ls (Ok g) h n few named f q = agreeing (agreed (length g) 0 g) (λ all e. agreed_back (length ns) (length g) 0 (length g) g all (omega arith) (omega (arith, known.long)) start e) q where
  known : Persons (length ns) (length ls) g
  known = f g refl

  start : Agreeing (length ns) 0 (length g) g
  start = record { fit = known.fit; paired = λ p x l s. absurd (omega arith); long = refl }

  agreeing : (r : Result Family Fault) → ((all : Family) → r ≡ Ok all → Agreeing (length ns) (length g) (length g) all) → with_names ns r ≡ Ok h → Valid h
  agreeing (Err e) w y = absurd (grind arith)
  agreeing (Ok all) w y =
      let good = w all refl in
      let long = known.long in
      let all-long = good.long in
      let same_names : ns ≡ h.names = cc in
      let same_family : all ≡ h.family = cc in
      let valid = family_valid (length ns) all (omega arith) (omega arith) (subst (λ (m : ℕ). Agreeing (length ns) m m all) (sym all-long) good) in
      let made : Valid (record { names = ns; family = all }) = record { family = valid; long = omega arith; names = named.names; apart = named.apart } in
      subst (λ (x : Household). Valid x) (λ i. record { names = same_names i; family = same_family i }) made

persons_of_back : (ls : List Line) (h : Household) → Lines ls → persons_of ls ≡ Ok h → Valid h
persons_of_back ls h known e =
    let ns = names_of ls in
    spouses_back ns ls (persons_in ns ls []) h (length-map ls (λ (l : Line). l.name)) known.few known.named
    (λ f q. persons_back ns ls [] f (length ls) (omega arith) (λ i. nobody_fits (length ns) i) q) e

lines_of_back : (r : Result (List Line) Fault) (h : Household) → ((ls : List Line) → r ≡ Ok ls → Lines ls) → with_persons r ≡ Ok h → Valid h
lines_of_back (Err e) h f q = absurd (grind arith)
lines_of_back (Ok ls) h f q = persons_of_back ls h (f ls refl) q

pub read_are_valid : ReadAreValid
unfolding ReadAreValid read_family
read_are_valid bs h e = lines_of_back (lines_in 65 bs []) h (λ ls q. lines_back 65 bs [] ls (record { named = named_none; few = omega arith }) q) e
