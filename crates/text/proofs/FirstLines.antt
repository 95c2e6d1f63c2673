-- The first line of bytes that are split behind each newline. Assumes nothing.
use Rattle.std.proofs.Common.{◌≡◌, ℕ, ◌+◌, ◌<◌, ◌≢◌, min, Bool, true, false, ◌&&◌, eqb, List, [], ◌∷◌, ◌++◌, length, get_or, take, drop, Some, None, sym, refl, ap, ◌∙◌, inl, inr, arith}
use Rattle.std.specs.List.{IsFirstMatchOrLen}
use Rattle.std.proofs.lemmas.Bool.{cases_lt, eqb-true, eqb-false, ne_eqb}
use Rattle.std.proofs.lemmas.List.{append_assoc, drop_more, drop_at, take_at, take_more, length-append, length_push}
use Rattle.lines.specs.Words.{begins, StandsFirst, cut}
use Rattle.lines.proofs.Cuts.{begins_self, cut_nowhere, cut_first}
use Rattle.text.specs.Outcomes.{FirstLine}

module _ (bs l t : List ℕ) (i : ℕ) (whole : bs ≡ l ++ t) (long : length l ≡ min (i + 1) (length bs)) (first : IsFirstMatchOrLen (λ b. eqb b 10) bs i) where
  -- no newline stands before the place
  before : (k : ℕ) → k < i → k < length bs → begins (10 ∷ []) (drop k bs) ≡ false
  before k h within =
      let here : eqb (get_or bs k 0) 10 ≡ false = first.0 k 0 (omega arith) h in
      ap (begins (10 ∷ [])) (drop_more bs k 0 within) ∙ ap (λ (b : Bool). b && true) (ne_eqb 10 (get_or bs k 0) (λ e. eqb-false (get_or bs k 0) 10 here (sym e)))

  ended : (x : List ℕ) → l ≡ x ++ (10 ∷ []) → Some (record { before = x; behind = t }) ≡ cut (10 ∷ []) bs
  ended x e =
      let n = length x in
      let parts : bs ≡ x ++ (10 ∷ t) = whole ∙ (ap (λ (y : List ℕ). y ++ t) e ∙ append_assoc x (10 ∷ []) t) in
      let more : length l ≡ n + 1 = ap length e ∙ length_push x 10 in
      let size : length bs ≡ length l + length t = ap length whole ∙ length-append l t in
      let stands : StandsFirst (10 ∷ []) bs n = record {
        inside = omega arith;
        here = ap (begins (10 ∷ [])) (ap (drop n) parts ∙ drop_at x (10 ∷ t) n refl) ∙ begins_self (10 ∷ []) t;
        before = λ k h. before k (omega arith) (omega arith);
      } in
      (λ j. Some (record { before = sym (ap (take n) parts ∙ take_at x (10 ∷ t) n refl) j; behind = sym (ap (drop (n + 1)) (whole) ∙ drop_at l t (n + 1) more) j }))
      ∙ cut_first (10 ∷ []) bs n stands

  open_end : ((x : List ℕ) → l ≢ x ++ (10 ∷ [])) → None ≡ cut (10 ∷ []) bs
  open_end h =
      cut_nowhere (10 ∷ []) bs (λ k within. elim (cases_lt i (length bs)) [
        | inl inside ↦
            let newline : get_or bs i 0 ≡ 10 = eqb-true (get_or bs i 0) 10 (first.1 inside 0) in
            let long_here : length l ≡ i + 1 = omega arith in
            let is : l ≡ take (i + 1) bs = sym (ap (take (i + 1)) whole ∙ take_at l t (i + 1) long_here) in
            absurd (h (take i bs) (is ∙ (take_more bs i 0 inside ∙ ap (λ (b : ℕ). take i bs ++ (b ∷ [])) newline)))
        | inr past ↦ before k (omega arith) within
      ])

  pub first_line : FirstLine bs l t
  first_line = record { ended = ended; open_end = open_end }
