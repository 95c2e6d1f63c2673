-- All spouses who are named answer. Assumes nothing.
use Rattle.std.proofs.Common.{◌≡◌, ℕ, ◌+◌, ◌-◌, ◌<◌, length, Ok, Err, Result, ap, ◌∙◌, arith}
use Rattle.std.proofs.lemmas.Result.{err_from_is_err_and}
use Rattle.law.specs.Family as law
use Rattle.text.specs.declared.Reason.{Reason}
use Rattle.text.specs.declared.Fault.{Fault}
use Rattle.text.specs.Households.{persons_of}
use Rattle.text.specs.Outcomes.{with_line, answer_said, agree_said}
use Rattle.text.specs.Reading.{agreed, answered}
use Rattle.text.proofs.Spouses.{agreed_more, agreed_fault, agreed_all}
use Rattle.text.proofs.agree.Goals as goal

module _ (n i : ℕ) (f later : law.Family) (P : Result law.Family Fault) (h : i < n) (inv : agreed (n - i) i f ≡ P) where
  one_more : (x : Unit {0}) (r : Result (Unit {0}) Reason) → Ok x ≡ with_line i r → answer_said r later ≡ answered f i → agreed (n - (i + 1)) (i + 1) later ≡ P
  one_more x (Ok y) e q = agreed_more n i f P later h q inv
  one_more x (Err r) e q = absurd (grind arith)

  faulty : (e : Fault) (r : Result (Unit {0}) Reason) → Err e ≡ with_line i r → answer_said r later ≡ answered f i → Err e ≡ P
  faulty e (Ok y) q a = absurd (grind arith)
  faulty e (Err r) q a = ap (λ (x : Result (Unit {0}) Fault). agree_said x later) q ∙ agreed_fault n i f P r h a inv

pub loop-line-preserved : goal.loop-line-preserved
loop-line-preserved c =
    let ms = c.args.members.now in
    record {
      left =
          one_more (length ms) c.loop-line.line (persons_of c.loop-line.members) (persons_of c.answer.new.members) (agreed (length ms) 0 (persons_of ms)) (omega arith)
          c.loop-line.invariant.left c.in_ok-with_line.field-0 c.answer.result c.in_ok-with_line.ensures.value c.answer.ensures.left;
      names = c.answer.ensures.names ∙ c.loop-line.invariant.names;
    }

pub returns-in_err-with_line : goal.returns-in_err-with_line
returns-in_err-with_line c =
    let ms = c.args.members.now in
    let p = err_from_is_err_and c.from_residual.result c.from_residual.ensures.1 in
    record {
      left =
          ap (λ (x : Result (Unit {0}) Fault). agree_said x (persons_of c.answer.new.members)) p.1
          ∙ (ap Err p.2
          ∙ faulty (length ms) c.loop-line.line (persons_of c.loop-line.members) (persons_of c.answer.new.members) (agreed (length ms) 0 (persons_of ms)) (omega arith)
          c.loop-line.invariant.left c.in_err-with_line.field-0.0 c.answer.result c.in_err-with_line.ensures.value c.answer.ensures.left);
      names = c.answer.ensures.names ∙ c.loop-line.invariant.names;
    }

pub returns : goal.returns
returns c =
    let ms = c.args.members.now in
    record {
      left = agreed_all (length ms) c.loop-line.line (persons_of c.loop-line.members) (agreed (length ms) 0 (persons_of ms)) (omega arith) c.loop-line.invariant.left;
      names = c.loop-line.invariant.names;
    }
