-- The name that bytes are. Assumes nothing.
use Rattle.std.proofs.Common.{◌≡◌, ℕ, Bool, cond, ◌&&◌, List, Some, None, Ok, Err, IsUtf8, MatchResult, IsErrAnd, Result, sym, ap, ◌∙◌, inl, inr, Bor}
use Rattle.std.specs.Option.{option_map}
use Rattle.std.specs.Result.{result_ok}
use Rattle.std.proofs.lemmas.Bool.{cases_Bool, cond-true, cond-false}
use Rattle.lines.specs.Names.{is_text, is_name, text_of}
use Rattle.lines.proofs.Texts.{text_from_utf8, utf8_from_text}
use Rattle.lines.proofs.name_in.Goals as goal

-- bytes as text, with an error of another type
text_or :
    {E F : Type 0} (Q : E → Type 0) (P : E → F → Type 0) (bs : List ℕ) (r : Result (Bor (List ℕ)) E) (m : Result (Bor (List ℕ)) F) →
    MatchResult r (λ s. (s.now ≡ bs) × IsUtf8 bs) (λ e. (¬ IsUtf8 bs) × Q e) → MatchResult r (λ x. m ≡ Ok x) (λ e. IsErrAnd m (P e)) →
    option_map (λ x. x.now) (result_ok m) ≡ text_of bs
text_or Q P bs (Ok x) m h e =
    ap (λ r. option_map (λ x. x.now) (result_ok r)) e ∙ (ap Some h.0 ∙ sym (cond-true (is_text bs) (Some bs) None (text_from_utf8 bs h.1)))
text_or Q P bs (Err x) (Ok y) h e = absurd e
text_or Q P bs (Err x) (Err y) h e =
    elim (cases_Bool (is_text bs)) [ inl t ↦ absurd (h.0 (utf8_from_text bs t)) | inr t ↦ sym (cond-false (is_text bs) (Some bs) None t) ]

pub returns-then-is_well_formed : goal.returns-then-is_well_formed
unfolding is_name
returns-then-is_well_formed c =
    let bs = c.args.bytes.now in
    record {
      value =
          text_or _ _ bs c.from_utf8.result c.map_err.result c.from_utf8.ensures.cases c.map_err.ensures.cases
          ∙ ap (λ (w : Bool). cond (w && is_text bs) (Some bs) None) c.if-is_well_formed.ensures.value;
    }

pub returns-else-is_well_formed : goal.returns-else-is_well_formed
unfolding is_name
returns-else-is_well_formed c =
    let bs = c.args.bytes.now in record { value = ap (λ (w : Bool). cond (w && is_text bs) (Some bs) None) c.if-is_well_formed.ensures.value }
