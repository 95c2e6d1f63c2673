-- The line with a number. Assumes nothing.
use Rattle.std.proofs.Common.{rules, tests, ◌≡◌, ℕ, zero, suc, Bool, ◌&&◌, true, eqb, List, [], ◌∷◌, Some, None, Option, sym, refl, ap, ◌∙◌, inl, inr, arith, Bor}
use Rattle.std.specs.List.{slice_split, onto_first, slice_get}
use Rattle.std.specs.Option.{option_map, unwrap_or}
use Rattle.std.proofs.lemmas.Bool.{cases_Bool, and_from, eqb-true, eqb-false, eq-eqb, ne_eqb}
use Rattle.std.proofs.lemmas.List.Splits.{slice_split-cons_yes, slice_split-cons_no}
use Rattle.std.proofs.lemmas.Iterator.Consumers.{nth_from_yields_List}
use Rattle.std.proofs.lemmas.Iterator.Splits.{YieldsList-from_slice_split}
use Rattle.lines.specs.Words.{Halves, after_all, cut}
use Rattle.lines.proofs.Cuts.{cut_here, cut_other}
use Rattle.text.specs.Messages.{behind_of, first_of, line_at}
use Rattle.text.proofs.line_at.Goals as goal

-- the pieces between newlines, by the first of them
pieces : List ℕ → Option Halves → List (List ℕ)
pieces bs None = bs ∷ []
pieces bs (Some h) = h.before ∷ slice_split (λ b. eqb b 10) h.behind

in_front : (b : ℕ) (bs : List ℕ) (o : Option Halves) → onto_first b (pieces bs o) ≡ pieces (b ∷ bs) (option_map (after_all (b ∷ [])) o)
unfolding pieces
in_front b bs None = refl
in_front b bs (Some h) = refl

split_pieces : (bs : List ℕ) → slice_split (λ b. eqb b 10) bs ≡ pieces bs (cut (10 ∷ []) bs)
unfolding pieces cut
split_pieces [] = refl
split_pieces (b ∷ bs) =
    elim (cases_Bool (eqb b 10)) [
      | inl t ↦ slice_split-cons_yes (λ x. eqb x 10) b bs t
          ∙ sym (ap (pieces (b ∷ bs)) (cut_here (10 ∷ []) (b ∷ bs) (omega arith) (and_from (eqb 10 b) true (eq-eqb 10 b (sym (eqb-true b 10 t))) refl)))
      | inr t ↦ slice_split-cons_no (λ x. eqb x 10) b bs t
          ∙ (ap (onto_first b) (split_pieces bs)
          ∙ (in_front b bs (cut (10 ∷ []) bs)
          ∙ sym (ap (pieces (b ∷ bs)) (cut_other (10 ∷ []) bs b (ap (λ (x : Bool). x && true) (ne_eqb 10 b (λ e. eqb-false b 10 t (sym e))))))))
    ]

past : (n : ℕ) → [] ≡ line_at n []
unfolding line_at cut
past zero = refl
past (suc n) = past n

line_of : Option (List ℕ) → List ℕ
line_of None = []
line_of (Some l) = l

line_in : (n : ℕ) (bs : List ℕ) → line_of (slice_get (slice_split (λ b. eqb b 10) bs) n) ≡ line_at n bs
unfolding line_at pieces line_of
line_in zero bs = ap (λ (ls : List (List ℕ)). line_of (slice_get ls 0)) (split_pieces bs) ∙ first (cut (10 ∷ []) bs) where
  first : (o : Option Halves) → line_of (slice_get (pieces bs o) 0) ≡ first_of bs o
  first None = refl
  first (Some h) = refl
line_in (suc n) bs = ap (λ (ls : List (List ℕ)). line_of (slice_get ls (suc n))) (split_pieces bs) ∙ later (cut (10 ∷ []) bs) (line_in n) where
  later : (o : Option Halves) → ((rest : List ℕ) → line_of (slice_get (slice_split (λ b. eqb b 10) rest) n) ≡ line_at n rest) → line_of (slice_get (pieces bs o) (suc n)) ≡ line_at n (behind_of o)
  later None f = past n
  later (Some h) f = f h.behind

or_nothing : (o : Option (Bor (List ℕ))) (d : Bor (List ℕ)) → d.now ≡ [] → (unwrap_or o d).now ≡ line_of (option_map (λ x. x.now) o)
unfolding line_of
or_nothing None d e = e
or_nothing (Some x) d e = refl

pub returns : goal.returns
returns c =
    let bs = c.args.input.now in
    let n = c.args.number in
    let nth =
    nth_from_yields_List c.nth.result _ n c.nth.ensures.ran
    (YieldsList-from_slice_split _ (λ b. eqb b 10) bs c.split.ensures.rest c.split.ensures.done c.split.ensures.closure (λ x b q k. search (rules, tests)))
    in
    record { value = ap (λ (l : Bor (List ℕ)). l.now) c.unwrap_or.ensures ∙ (or_nothing c.nth.result _ refl ∙ (ap line_of nth ∙ line_in n bs)) }
