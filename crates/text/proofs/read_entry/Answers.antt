-- What a line says. Assumes nothing.
use Rattle.std.proofs.Common.{◌≡◌, ℕ, ◌≢◌, List, [], ◌∷◌, ◌++◌, is_some, Some, None, Err, MatchOption, Option, sym, ap, ◌∙◌, subst, arith, Bor}
use Rattle.std.specs.Option.{ok_or}
use Rattle.std.proofs.lemmas.Bool.Decides.{Decides-eqb}
use Rattle.std.proofs.lemmas.List.{length-map}
use Rattle.std.proofs.lemmas.Result.{err_from_is_err_and}
use Rattle.std.proofs.lemmas.Slice.Eq.{strip_suffix_is}
use Rattle.lines.specs.Words.{Halves}
use Rattle.lines.specs.Grammar.{said_by}
use Rattle.text.specs.declared.Reason.TheVariants.{NoNewline}
use Rattle.text.specs.Outcomes.{next_said as outcome}
use Rattle.text.specs.Reading.{said_in}
use Rattle.text.proofs.Collecting.{next_cut, next_said, next_used, next_new}
use Rattle.text.proofs.read_entry.Goals as goal

-- what is before the newline, where the line ends with one
abbrev Stripped : List ℕ → Option (Bor (List ℕ)) → Type 0
Stripped l r = MatchOption r ((x : List ℕ) → l ≢ x ++ (10 ∷ [])) (λ x. l ≡ x.now ++ (10 ∷ []))

pub returns-in_err-line : goal.returns-in_err-line
returns-in_err-line c =
    let es = c.args.entries.now in
    let l = c.args.line.now in
    let p = err_from_is_err_and c.from_residual.result c.from_residual.ensures.1 in
    let none = c.in_err-line.ensures.ok_part in
    let reason : c.in_err-line.field-0.0 ≡ NoNewline = (let e = c.in_err-line.ensures.value ∙ ap (λ o. ok_or o NoNewline) none in cc) in
    let stripped : Stripped l None = subst (Stripped l) none (strip_suffix_is Decides-eqb l (10 ∷ []) c.strip_suffix.result c.strip_suffix.ensures.cases) in
    record {
      value = λ bs behind h.
          ap (outcome behind) (p.1 ∙ ap Err (p.2 ∙ reason)) ∙ next_cut (said_in es) bs None (omega (arith, length-map es (λ e. said_by e))) (h.open_end stripped);
    }

pub returns-in_err-entry : goal.returns-in_err-entry
returns-in_err-entry c =
    let es = c.args.entries.now in
    let l = c.args.line.now in
    let p = err_from_is_err_and c.from_residual-in_err-entry.result c.from_residual-in_err-entry.ensures.1 in
    let x = c.in_ok-line.line in
    let stripped : Stripped l (Some x) = subst (Stripped l) c.in_ok-line.ensures.ok_part (strip_suffix_is Decides-eqb l (10 ∷ []) c.strip_suffix.result c.strip_suffix.ensures.cases) in
    record {
      value = λ bs behind h.
          let halves : Halves = record { before = x.now; behind = behind } in
          ap (outcome behind) (p.1 ∙ ap Err p.2)
          ∙ (next_said (said_in es) halves None c.in_err-entry.ensures.value
          ∙ next_cut (said_in es) bs (Some halves) (omega (arith, length-map es (λ e. said_by e))) (h.ended x.now stripped));
    }

pub returns-then-is_some : goal.returns-then-is_some
returns-then-is_some c =
    let es = c.args.entries.now in
    let l = c.args.line.now in
    let x = c.in_ok-line.line in
    let stripped : Stripped l (Some x) = subst (Stripped l) c.in_ok-line.ensures.ok_part (strip_suffix_is Decides-eqb l (10 ∷ []) c.strip_suffix.result c.strip_suffix.ensures.cases) in
    let e = said_by c.in_ok-entry.entry in
    record {
      value = λ bs behind h.
          let halves : Halves = record { before = x.now; behind = behind } in
          next_used (said_in es) behind e (sym (c.if-is_some.ensures ∙ ap is_some c.place_of.ensures.value))
          ∙ (next_said (said_in es) halves (Some e) c.in_ok-entry.ensures.value
          ∙ next_cut (said_in es) bs (Some halves) (omega (arith, length-map es (λ e. said_by e))) (h.ended x.now stripped));
    }

pub returns : goal.returns
returns c =
    let es = c.args.entries.now in
    let l = c.args.line.now in
    let x = c.in_ok-line.line in
    let stripped : Stripped l (Some x) = subst (Stripped l) c.in_ok-line.ensures.ok_part (strip_suffix_is Decides-eqb l (10 ∷ []) c.strip_suffix.result c.strip_suffix.ensures.cases) in
    let e = said_by c.in_ok-entry.entry in
    record {
      value = λ bs behind h.
          let halves : Halves = record { before = x.now; behind = behind } in
          next_new (said_in es) behind e (sym (c.if-is_some.ensures ∙ ap is_some c.place_of.ensures.value))
          ∙ (next_said (said_in es) halves (Some e) c.in_ok-entry.ensures.value
          ∙ next_cut (said_in es) bs (Some halves) (omega (arith, length-map es (λ e. said_by e))) (h.ended x.now stripped));
    }
