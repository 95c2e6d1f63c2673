use Rattle.std.proofs.Common.{◌≤◌, length, refl, ◌∙◌, ⊎_elim, arith}
use Rattle.children.specs.Links.{link_row}
use Rattle.people.specs.Layout.{limit_in, person_row}
use Rattle.people.specs.Persons.{law_person}
use Rattle.people.proofs.Layouts.{limit_laid, limit_said, links_said, person_laid}
use Rattle.people.proofs.Links.{no_last, some_last}
use Rattle.people.proofs.mother_of_last.Goals as goal

pub returns-in_default : goal.returns-in_default
returns-in_default c =
    record { value = λ n k f s work rest e room p d is last. absurd (⊎_elim (λ z. omega arith) (λ z. omega arith) c.in_default.ensures.cases) }

pub returns-in_default-somebody : goal.returns-in_default-somebody
returns-in_default-somebody c =
    let ws = c.args.memory.now in
    let parent = c.in-Some.ensures.cases in
    record {
      value = λ n k f s work rest e' room'.
          let e = limit_said ws n k (person_row f) (link_row f) s work rest e' in
          let room : length f ≤ limit_in ws = let l = limit_laid ws n k (person_row f) (link_row f) s work rest e' in omega arith in
          no_last c.link_words.result.now (limit_in ws) f c.args.parent c.in-Some.number c.last.result
          (c.link_words.ensures.value ∙ links_said ws (limit_in ws) k f s work rest e) room parent.0 parent.1
          c.last.ensures.value c.in_default-somebody.ensures.cases _;
    }

pub returns : goal.returns
returns c =
    let ws = c.args.memory.now in
    let parent = c.in-Some.ensures.cases in
    let last = c.in-Some-somebody.ensures.cases in
    record {
      value = λ n k f s work rest e' room.
          let e = limit_said ws n k (person_row f) (link_row f) s work rest e' in
          some_last c.link_words.result.now (limit_in ws) f c.args.parent c.in-Some.number c.last.result c.in-Some-somebody.last (law_person c.read.result) _
          (c.link_words.ensures.value ∙ links_said ws (limit_in ws) k f s work rest e) parent.0 parent.1 c.last.ensures.value last.0
          (c.read.ensures.value ∙ person_laid ws (limit_in ws) k f (link_row f) s work rest c.in-Some-somebody.last e last.1) refl;
    }
