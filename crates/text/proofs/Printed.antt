-- What is printed of persons, one after the other. Assumes nothing.
use Rattle.std.proofs.Common.{◌≡◌, ℕ, zero, suc, ◌+◌, ◌-◌, ◌<◌, ◌≤◌, min, List, [], ◌∷◌, ◌++◌, length, get_or, drop, Some, None, sym, refl, ap, ◌∙◌, inl, inr, arith}
use Rattle.std.proofs.lemmas.List.{append-nil, append_assoc, drop_more, drop_all, get_or-map}
use Rattle.std.proofs.lemmas.Bool.{cases_lt}
use Rattle.law.specs.Family.{Family, nobody}
use Rattle.text.specs.declared.Member.{Member}
use Rattle.text.specs.Households.{names_in}
use Rattle.text.specs.Printing.{name_from, name_at, line_for, lines_for, row, text_lines}

pub name_past : (ns : List (List ℕ)) (k : ℕ) → length ns ≤ k → None ≡ name_from ns k
name_past [] k h = refl
name_past (n ∷ ns) zero h = absurd (omega arith)
name_past (n ∷ ns) (suc k) h = name_past ns k (omega arith)

pub name_there : (ns : List (List ℕ)) (k : ℕ) → k < length ns → Some (get_or ns k []) ≡ name_from ns k
name_there [] k h = absurd (omega arith)
name_there (n ∷ ns) zero h = refl
name_there (n ∷ ns) (suc k) h = name_there ns k (omega arith)

pub name_less : (ns : List (List ℕ)) (m : ℕ) → 0 < m → name_from ns (m - 1) ≡ name_at ns m
name_less ns zero h = absurd (omega arith)
name_less ns (suc k) h = let e : suc k - 1 ≡ k = omega arith in ap (name_from ns) e

pub name_taken : (ms : List Member) (d : Member) (k : ℕ) → k < length ms → get_or (names_in ms) k [] ≡ (get_or ms k d).name.now
name_taken ms d k h = get_or-map (λ (m : Member). m.name.now) ms k d [] h

module _ (ns : List (List ℕ)) (f : Family) (text whole : List ℕ) (i : ℕ) where
  pub printed_more : (later : List ℕ) → i < length ns → i < length f → later ≡ text ++ row (line_for ns (get_or ns i []) (get_or f i nobody)) →
      text ++ text_lines (lines_for ns (drop i ns) (drop i f)) ≡ whole → later ++ text_lines (lines_for ns (drop (i + 1) ns) (drop (i + 1) f)) ≡ whole
  printed_more later h g e inv =
      let l = line_for ns (get_or ns i []) (get_or f i nobody) in
      let rest = text_lines (lines_for ns (drop (i + 1) ns) (drop (i + 1) f)) in
      ap (λ (t : List ℕ). t ++ rest) e
      ∙ (append_assoc text (row l) rest ∙ ((λ k. text ++ text_lines (lines_for ns (sym (drop_more ns i [] h) k) (sym (drop_more f i nobody g) k))) ∙ inv))

  nothing_left : (xs : List (List ℕ)) → lines_for ns xs [] ≡ []
  nothing_left [] = refl
  nothing_left (x ∷ xs) = refl

  pub printed_all : min (length ns) (length f) ≤ i → text ++ text_lines (lines_for ns (drop i ns) (drop i f)) ≡ whole → text ≡ whole
  printed_all h inv = sym (append-nil text) ∙ (ap (λ (t : List ℕ). text ++ t) (sym none) ∙ inv) where
    none : text_lines (lines_for ns (drop i ns) (drop i f)) ≡ []
    none = elim (cases_lt i (length ns)) [
      | inl l ↦ ap (λ (g : Family). text_lines (lines_for ns (drop i ns) g)) (drop_all i f (omega arith)) ∙ ap text_lines (nothing_left (drop i ns))
      | inr l ↦ ap (λ (xs : List (List ℕ)). text_lines (lines_for ns xs (drop i f))) (drop_all i ns l)
    ]
