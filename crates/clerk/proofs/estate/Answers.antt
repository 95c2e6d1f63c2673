-- The estate of somebody in a text. Assumes nothing.
use Rattle.std.proofs.Common.{ℕ, List, Err, String, Global, Result, sym, ap, ◌∙◌, subst}
use Rattle.std.proofs.lemmas.Result.{err_from_is_err_and}
use Rattle.law.specs.Calls.{estate_of}
use Rattle.theory.proofs.RightAnswers.{answer_right}
use Rattle.text.specs.Building.{family_limits}
use Rattle.text.specs.declared.Fault.{Fault}
use Rattle.text.specs.declared.Failure as text
use Rattle.text.specs.declared.Failure.TheVariants as text_failure
use Rattle.text.specs.Households.{Household, household}
use Rattle.text.specs.Outcomes.{Told}
use Rattle.clerk.specs.declared.Failure.{Failure}
use Rattle.clerk.specs.Estates.{estate_from, estate_text, failure_of, LinesSaid, AnsweredRightly}
use Rattle.clerk.proofs.estate.Goals as goal

-- the answer is right whatever is asked
rightly : (bs n : List ℕ) → AnsweredRightly bs n
unfolding AnsweredRightly
rightly bs n h p e q = answer_right family_limits h.family (estate_of p)

-- a line that is refused, or want of memory
failed : (n : List ℕ) (e : text.Failure) (r : Result Household Fault) → Told household (Err e) r → LinesSaid (Err (failure_of e)) (estate_from r n)
failed n (text_failure.Line e) r h = ap (λ (x : Result Household Fault). estate_from x n) h
failed n text_failure.NoMemory r h = tt

pub returns-in_err-family : goal.returns-in_err-family
unfolding estate_text
returns-in_err-family c =
    let n = c.args.name.now in
    let p = err_from_is_err_and c.from_residual.result c.from_residual.ensures.1 in
    record { lines = subst (λ (x : Result (String Global) Failure). LinesSaid x (estate_text c.args.input.now n)) (sym (p.1 ∙ ap Err p.2)) (failed n c.in_err-family.field-0.0 _ c.in_err-family.ensures.value); right = rightly c.args.input.now n }

pub returns : goal.returns
unfolding estate_text
returns c =
    let n = c.args.name.now in
    record {
      lines = subst (λ (r : Result (List ℕ) Failure). LinesSaid c.estate_of.result r) (ap (λ (r : Result Household Fault). estate_from r n) c.in_ok-family.ensures.value) c.estate_of.ensures.lines;
      right = rightly c.args.input.now n;
    }
