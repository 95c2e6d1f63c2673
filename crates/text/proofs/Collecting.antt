-- The lines of a text, one after the other. Assumes nothing.
use Rattle.std.proofs.Common.{◌≡◌, ℕ, suc, ◌-◌, ◌<◌, ◌≤◌, true, false, ltb, List, [], ◌∷◌, ◌++◌, length, is_some, Some, Ok, Err, Option, Result, sym, refl, ap, ◌∙◌, inl, inr, arith}
use Rattle.std.proofs.lemmas.List.{length_push}
use Rattle.std.proofs.lemmas.Bool.{ltb-true, lt-ltb, le-ltb, cond-true, cond-false, cases_Bool}
use Rattle.lines.specs.Grammar.{Line, read_line}
use Rattle.lines.specs.Words.{Halves, cut}
use Rattle.text.specs.declared.Reason.{Reason}
use Rattle.text.specs.declared.Reason.TheVariants.{TooMany, NameTwice}
use Rattle.text.specs.declared.Fault.{Fault}
use Rattle.text.specs.Reading.{fault, names_of, place_of, Next, unused, readable, next_line, lines_in}

-- a line is read only behind fewer than 64
pub next_few : (ls : List Line) (bs : List ℕ) (x : Next) → next_line ls bs ≡ Ok x → length ls < 64
unfolding next_line
next_few ls bs x e =
    elim (cases_Bool (ltb (length ls) 64)) [
      | inl t ↦ ltb-true (length ls) 64 t
      | inr t ↦ absurd (let f = sym (cond-false (ltb (length ls) 64) (readable ls (cut (10 ∷ []) bs)) (Err TooMany) t) ∙ e in grind arith)
    ]

pub step : (n : ℕ) (ls : List Line) (bs : List ℕ) → 0 < length bs
    → lines_in (suc n) bs ls ≡ elim (next_line ls bs) [ Ok x ↦ lines_in n x.rest (ls ++ (x.line ∷ [])) | Err r ↦ Err (fault (length ls) r) ]
unfolding lines_in
step n ls [] h = absurd (omega arith)
step n ls (b ∷ bs) h = refl

module _ (ls : List Line) (bs : List ℕ) (P : Result (List Line) Fault) where
  pub lines_more : (x : Next) → 0 < length bs → next_line ls bs ≡ Ok x → lines_in (65 - length ls) bs ls ≡ P → lines_in (65 - length (ls ++ (x.line ∷ []))) x.rest (ls ++ (x.line ∷ [])) ≡ P
  lines_more x h e inv =
      let few = next_few ls bs x e in
      let fuel : 65 - length ls ≡ suc (64 - length ls) = omega arith in
      let less : 65 - length (ls ++ (x.line ∷ [])) ≡ 64 - length ls = omega (arith, length_push ls x.line) in
      ap (λ (n : ℕ). lines_in n x.rest (ls ++ (x.line ∷ []))) less
      ∙ (sym (ap (λ (r : Result Next Reason). elim r [ Ok y ↦ lines_in (64 - length ls) y.rest (ls ++ (y.line ∷ [])) | Err q ↦ Err (fault (length ls) q) ]) e)
      ∙ (sym (ap (λ (n : ℕ). lines_in n bs ls) fuel ∙ step (64 - length ls) ls bs h) ∙ inv))

  pub lines_fault : (r : Reason) → 0 < length bs → length ls ≤ 64 → next_line ls bs ≡ Err r → lines_in (65 - length ls) bs ls ≡ P → Err (fault (length ls) r) ≡ P
  lines_fault r h few e inv =
      let fuel : 65 - length ls ≡ suc (64 - length ls) = omega arith in
      sym (ap (λ (x : Result Next Reason). elim x [ Ok y ↦ lines_in (64 - length ls) y.rest (ls ++ (y.line ∷ [])) | Err q ↦ Err (fault (length ls) q) ]) e)
      ∙ (sym (ap (λ (n : ℕ). lines_in n bs ls) fuel ∙ step (64 - length ls) ls bs h) ∙ inv)

  pub lines_all : length bs ≤ 0 → lines_in (65 - length ls) bs ls ≡ P → Ok ls ≡ P
  unfolding lines_in
  lines_all h inv = by bs h inv where
    by : (cs : List ℕ) → length cs ≤ 0 → lines_in (65 - length ls) cs ls ≡ P → Ok ls ≡ P
    by [] g i = i
    by (c ∷ cs) g i = absurd (omega arith)

-- THE NEXT LINE.
pub next_many : (ls : List Line) (bs : List ℕ) → 64 ≤ length ls → Err TooMany ≡ next_line ls bs
unfolding next_line
next_many ls bs h = sym (cond-false (ltb (length ls) 64) (readable ls (cut (10 ∷ []) bs)) (Err TooMany) (le-ltb (length ls) 64 h))

pub next_cut : (ls : List Line) (bs : List ℕ) (o : Option Halves) → length ls < 64 → o ≡ cut (10 ∷ []) bs → readable ls o ≡ next_line ls bs
unfolding next_line
next_cut ls bs o h e =
    ap (readable ls) e ∙ sym (cond-true (ltb (length ls) 64) (readable ls (cut (10 ∷ []) bs)) (Err TooMany) (lt-ltb (length ls) 64 h))

pub next_said : (ls : List Line) (h : Halves) (o : Option Line) → o ≡ read_line h.before → unused ls h.behind o ≡ readable ls (Some h)
next_said ls h o e = ap (unused ls h.behind) e

pub next_used : (ls : List Line) (rest : List ℕ) (l : Line) → is_some (place_of l.name (names_of ls)) ≡ true → Err NameTwice ≡ unused ls rest (Some l)
next_used ls rest l e = sym (cond-true (is_some (place_of l.name (names_of ls))) (Err NameTwice) (Ok (record { line = l; rest = rest })) e)

pub next_new : (ls : List Line) (rest : List ℕ) (l : Line) → is_some (place_of l.name (names_of ls)) ≡ false → Ok (record { line = l; rest = rest }) ≡ unused ls rest (Some l)
next_new ls rest l e = sym (cond-false (is_some (place_of l.name (names_of ls))) (Err NameTwice) (Ok (record { line = l; rest = rest })) e)
