-- The family that a text is. Assumes nothing.
use Rattle.std.proofs.Common.{ℕ, List, [], IfOk, Ok, Err, vec_items, Vec, Global, Result, sym, ap, ◌∙◌, subst}
use Rattle.std.proofs.lemmas.Result.{err_from_is_err_and}
use Rattle.lines.specs.Grammar.{Line}
use Rattle.lines.specs.declared.Entry.{Entry}
use Rattle.text.specs.declared.Fault.{Fault}
use Rattle.text.specs.declared.Failure.{Failure}
use Rattle.text.specs.declared.Failure.TheVariants.{Line as of_line, NoMemory}
use Rattle.text.specs.declared.Family.{Family}
use Rattle.text.specs.Reading.{said_in, lines_in, persons_of, with_persons, read_family}
use Rattle.text.specs.Outcomes.{Told}
use Rattle.text.specs.Households.{Household, household, Valid}
use Rattle.text.specs.Printing.{ReadAreValid}
use Rattle.text.specs.Building.{Built, BuiltByCalls}
use Rattle.text.proofs.Builds.{built}
use Rattle.text.proofs.ReadValid.{read_are_valid}
use Rattle.text.proofs.read.Goals as goal

-- what was read is valid, and what its calls build
valid : (bs : List ℕ) (x : Result Family Failure) → Told household x (read_family bs) → IfOk x (λ f. Valid (household f))
unfolding ReadAreValid
valid bs (Ok f) e = read_are_valid bs (household f) (sym e)
valid bs (Err y) e = tt

builds : (bs : List ℕ) (x : Result Family Failure) → Told household x (read_family bs) → IfOk x (λ f. BuiltByCalls (household f).family)
unfolding ReadAreValid Built
builds bs (Ok f) e = built (household f).family (read_are_valid bs (household f) (sym e)).family
builds bs (Err y) e = tt

-- a line that is refused, or want of memory
failed : {X : Type 0} (g : X → List Line) (e : Failure) (r : Result (List Line) Fault) → Told g (Err e) r → Told household (Err e) (with_persons r)
failed g (of_line f) r h = ap with_persons h
failed g NoMemory r h = tt

pub returns-in_err-entries-clause-value : goal.returns-in_err-entries-clause-value
unfolding read_family
returns-in_err-entries-clause-value c =
    let p = err_from_is_err_and c.from_residual.result c.from_residual.ensures.1 in
    subst (λ (x : Result Family Failure). Told household x (with_persons (lines_in 65 c.args.input.now []))) (sym (p.1 ∙ ap Err p.2))
    (failed (λ (v : Vec Entry Global). said_in (vec_items v)) c.in_err-entries.field-0.0 _ c.in_err-entries.ensures.value)

pub returns : goal.returns
unfolding read_family
returns c =
    let bs = c.args.input.now in
    let same = ap (λ (es : List Entry). persons_of (said_in es)) c.as_slice.ensures.value ∙ ap with_persons c.in_ok-entries.ensures.value in
    let value : Told household c.family_of.result (read_family bs) = subst (λ (r : Result Household Fault). Told household c.family_of.result r) same c.family_of.ensures.value in
    record { value = value; valid = valid bs c.family_of.result value; built = builds bs c.family_of.result value }
