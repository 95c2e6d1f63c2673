use Rattle.std.proofs.Common.{◌≡◌, sym, ap, ◌∙◌, ⊎_elim, arith}
use Rattle.law.specs.Family.{person}
use Rattle.children.specs.Links.{link_row}
use Rattle.people.specs.Layout.{person_row}
use Rattle.people.specs.Persons.{law_person}
use Rattle.people.proofs.Layouts.{limit_laid, person_laid}
use Rattle.succession.specs.Orders.{parents_at}
use Rattle.succession.proofs.parents_of.Goals as goal

pub returns-in_default : goal.returns-in_default
returns-in_default c =
    record {
      value = λ n k f s work rest e le.
          let l = limit_laid c.args.memory.now n k (person_row f) (link_row f) s work rest e in
          (λ i. record { mother = c.default.ensures.0 i; father = c.default.ensures.1 i }) ∙ sym (ap (λ z. parents_at f z) (⊎_elim (λ z. z) (λ z. absurd (omega arith)) c.in_default.ensures.cases));
    }

pub returns : goal.returns
returns c =
    let found = c.in-Some.ensures.cases in
    record {
      value = λ n k f s work rest e le.
          let l = limit_laid c.args.memory.now n k (person_row f) (link_row f) s work rest e in
          let q : law_person c.read-mother.result ≡ person f c.in-Some.who =
          c.read-mother.ensures.value ∙ person_laid c.args.memory.now n k f (link_row f) s work rest c.in-Some.who e (omega (arith, found.1)) in
          (λ i. record { mother = (q i).mother; father = (q i).father }) ∙ sym (ap (λ z. parents_at f z) found.0);
    }
