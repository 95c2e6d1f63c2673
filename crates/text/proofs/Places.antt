-- The number of whoever has a name. Assumes nothing.
use Rattle.std.proofs.Common.{◌≡◌, ℕ, suc, ◌+◌, ◌<◌, ◌≤◌, Bool, true, false, cond, not, ltb, List, [], ◌∷◌, length, get_or, drop, map, Some, None, Option, sym, refl, ap, ◌∙◌, inl, inr, arith}
use Rattle.std.proofs.lemmas.List.{drop_more, drop_all, get_or-map, length-map}
use Rattle.std.proofs.lemmas.Bool.{cond-true, cond-false, lt-ltb, le-ltb, cases_lt}
use Rattle.std.specs.Option.{option_map}
use Rattle.std.specs.List.{position, position_or_len}
use Rattle.std.specs.Str.{bytes_eq}
use Rattle.lines.specs.Grammar.{said_by}
use Rattle.lines.specs.declared.Entry.{Entry}
use Rattle.text.specs.Reading.{names_of, said_in, place_of}

-- one element more in front
step : (t : Bool) (k l : ℕ) (o : Option ℕ) → cond (ltb k l) (Some k) None ≡ o
    → cond (ltb (cond (not t) (1 + k) 0) (suc l)) (Some (cond (not t) (1 + k) 0)) None ≡ cond t (Some 0) (option_map suc o)
step true k l o e = cond-true (ltb 0 (suc l)) (Some 0) None (lt-ltb 0 (suc l) (omega arith))
step false k l o e =
    let more : 1 + k ≡ suc k = omega arith in
    elim (cases_lt k l) [
      | inl h ↦ cond-true (ltb (1 + k) (suc l)) (Some (1 + k)) None (lt-ltb (1 + k) (suc l) (omega arith))
          ∙ (ap Some more ∙ ap (option_map suc) (sym (cond-true (ltb k l) (Some k) None (lt-ltb k l h)) ∙ e))
      | inr h ↦ cond-false (ltb (1 + k) (suc l)) (Some (1 + k)) None (le-ltb (1 + k) (suc l) (omega arith))
          ∙ ap (option_map suc) (sym (cond-false (ltb k l) (Some k) None (le-ltb k l h)) ∙ e)
    ]

-- what a search among elements by the names that they have says
pub place_by_position : {A : Type 0} (f : A → List ℕ) (n : List ℕ) (xs : List A) → position (λ x. bytes_eq (f x) n) xs ≡ place_of n (map f xs)
place_by_position f n [] = refl
place_by_position f n (x ∷ xs) = step (bytes_eq (f x) n) (position_or_len (λ y. bytes_eq (f y) n) xs) (length xs) (place_of n (map f xs)) (place_by_position f n xs)

pub names_said : (es : List Entry) → map (λ (e : Entry). e.name.now) es ≡ names_of (said_in es)
names_said [] = refl
names_said (e ∷ es) = ap (λ (ns : List (List ℕ)). e.name.now ∷ ns) (names_said es)

abbrev pub from : ℕ → Option ℕ → Option ℕ
from i o = option_map (λ k. k + i) o

from_zero : (o : Option ℕ) → from 0 o ≡ o
from_zero None = refl
from_zero (Some k) = ap Some (omega arith)

from_suc : (i : ℕ) (o : Option ℕ) → from i (option_map suc o) ≡ from (i + 1) o
from_suc i None = refl
from_suc i (Some k) = ap Some (omega arith)

pub place_none : (n : List ℕ) (ns : List (List ℕ)) → from 0 (place_of n ns) ≡ place_of n ns
place_none n ns = from_zero (place_of n ns)

module _ (n : List ℕ) (ns : List (List ℕ)) (i : ℕ) (P : Option ℕ) where
  pub place_more : i < length ns → bytes_eq (get_or ns i []) n ≡ false → from i (place_of n (drop i ns)) ≡ P → from (i + 1) (place_of n (drop (i + 1) ns)) ≡ P
  place_more h e inv =
      let rest = place_of n (drop (i + 1) ns) in
      let d = ap (place_of n) (drop_more ns i [] h) ∙ cond-false (bytes_eq (get_or ns i []) n) (Some 0) (option_map suc rest) e in
      sym (from_suc i rest) ∙ (ap (from i) (sym d) ∙ inv)

  pub place_here : i < length ns → bytes_eq (get_or ns i []) n ≡ true → from i (place_of n (drop i ns)) ≡ P → Some i ≡ P
  place_here h e inv =
      let rest = place_of n (drop (i + 1) ns) in
      let d = ap (place_of n) (drop_more ns i [] h) ∙ cond-true (bytes_eq (get_or ns i []) n) (Some 0) (option_map suc rest) e in
      let zero_more : ◌≡◌ {A = ℕ} i (0 + i) = omega arith in
      ap Some zero_more ∙ (ap (from i) (sym d) ∙ inv)

  pub place_all : length ns ≤ i → from i (place_of n (drop i ns)) ≡ P → None ≡ P
  place_all h inv = sym (ap (λ (xs : List (List ℕ)). from i (place_of n xs)) (drop_all i ns h)) ∙ inv

-- names of entries
pub length-names : (es : List Entry) → length (names_of (said_in es)) ≡ length es
length-names [] = refl
length-names (e ∷ es) = ap suc (length-names es)

pub name_of_entry : (es : List Entry) (i : ℕ) (d : Entry) → i < length es → get_or (names_of (said_in es)) i [] ≡ (get_or es i d).name.now
name_of_entry es i d h =
    get_or-map (λ l. l.name) (said_in es) i (said_by d) [] (omega (arith, length-map es (λ e. said_by e)))
    ∙ ap (λ l. l.name) (get_or-map (λ x. said_by x) es i d (said_by d) h)

-- what a comparison with an entry's name says
pub matched : (es : List Entry) (i : ℕ) (d : Entry) (n : List ℕ) (r : Bool) → i < length es → r ≡ bytes_eq (get_or es i d).name.now n → bytes_eq (get_or (names_of (said_in es)) i []) n ≡ r
matched es i d n r h q = ap (λ (x : List ℕ). bytes_eq x n) (name_of_entry es i d h) ∙ sym q
