-- The person of a line. Assumes nothing.
use Rattle.std.proofs.Common.{Ok, Err, ap, ◌∙◌}
use Rattle.std.proofs.lemmas.Result.{err_from_is_err_and}
use Rattle.text.specs.Outcomes.{person_said}
use Rattle.text.specs.Reading.{person_of}
use Rattle.text.proofs.Persons.{one_person, other_persons, no_person, no_mother, no_father, one_parent, with_parents}
use Rattle.text.proofs.LineAt.person.Goals.{else-mother-ne0-via-then-mother-ne0+else-mother-father, else-mother-ne0-via-else-mother-ne0}
use Rattle.text.proofs.LineAt.person.Goals as goal

pub returns-in_err-mother : goal.returns-in_err-mother
unfolding person_of
returns-in_err-mother c =
    let p = err_from_is_err_and c.from_residual.result c.from_residual.ensures.1 in
    record { value = ap person_said p.1 ∙ (ap Err p.2 ∙ no_mother _ _ _ _ c.in_err-mother.field-0.0 c.in_err-mother.ensures.value) }

pub returns-in_err-father : goal.returns-in_err-father
unfolding person_of
returns-in_err-father c =
    let p = err_from_is_err_and c.from_residual-in_err-father.result c.from_residual-in_err-father.ensures.1 in
    record {
      value =
          ap person_said p.1
          ∙ (ap Err p.2 ∙ no_father _ _ _ _ c.in_err-father.field-0.0 c.in_ok-mother.mother c.in_ok-mother.ensures.value c.in_err-father.ensures.value);
    }

pub returns-then-mother-father : goal.returns-then-mother-father
unfolding person_of
returns-then-mother-father c =
    record {
      value =
          one_parent _ _ _ _ c.in_ok-mother.mother c.in_ok-father.father c.in_ok-mother.ensures.value c.in_ok-father.ensures.value
          (one_person _ _ c.if-mother-ne0.true c.if-mother-father.true);
    }

pub returns-in_err-spouse : goal.returns-in_err-spouse
unfolding person_of
returns-in_err-spouse c =
    let p = err_from_is_err_and c.from_residual-in_err-spouse.result c.from_residual-in_err-spouse.ensures.1 in
    record {
      value =
          ap person_said p.1
          ∙ (ap Err p.2
          ∙ with_parents _ _ _ _ c.in_ok-mother.mother c.in_ok-father.father (Err c.in_err-spouse.field-0.0) c.in_ok-mother.ensures.value
          c.in_ok-father.ensures.value
          (elim c.else-mother-ne0.branch [
            | else-mother-ne0-via-then-mother-ne0+else-mother-father w ↦ other_persons _ _ w.if-mother-father.false
            | else-mother-ne0-via-else-mother-ne0 w ↦ no_person _ _ w.if-mother-ne0.false
          ])
          c.in_err-spouse.ensures.value);
    }

pub returns : goal.returns
unfolding person_of
returns c =
    record {
      value =
          with_parents _ _ _ _ c.in_ok-mother.mother c.in_ok-father.father (Ok c.in_ok-spouse.spouse) c.in_ok-mother.ensures.value
          c.in_ok-father.ensures.value
          (elim c.else-mother-ne0.branch [
            | else-mother-ne0-via-then-mother-ne0+else-mother-father w ↦ other_persons _ _ w.if-mother-father.false
            | else-mother-ne0-via-else-mother-ne0 w ↦ no_person _ _ w.if-mother-ne0.false
          ])
          c.in_ok-spouse.ensures.value;
    }
