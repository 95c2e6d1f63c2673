use Rattle.std.proofs.Common.{◌+◌, ◌*◌, ap, ◌∙◌, arith}
use Rattle.rows.specs.Written.{written}
use Rattle.people.specs.Layout.{person_words, family_in, limit_in, rest_in}
use Rattle.people.specs.Persons.{law_person}
use Rattle.people.proofs.Layouts.{length-family, person_laid}
use Rattle.service.proofs.Marriages.{parted_not_there, parted_not_allowed, parted_left}
use Rattle.service.proofs.part.Goals as goal

pub returns-in_default : goal.returns-in_default
returns-in_default c = record { served = λ ok. parted_not_there c.args.memory.now c.args.who ok c.in_default.ensures.cases }

pub returns-in_default-somebody : goal.returns-in_default-somebody
returns-in_default-somebody c =
    let found = c.in-Some.ensures.cases in
    record { served = λ ok. parted_not_allowed c.args.memory.now c.args.who (law_person c.in-Some.someone) ok found.0 found.1 c.in_default-somebody.ensures.cases }

pub put-requires : goal.put-requires
put-requires c = record { room = omega (arith, length-family c.args.memory.now, c.in-Some.ensures.cases.0) }

pub returns : goal.returns
returns c =
    let ws = c.args.memory.now in
    let found = c.in-Some.ensures.cases in
    let spouse = c.in-Some-somebody.ensures.cases in
    record {
      served = λ ok. parted_left ws c.put.new.memory c.put-2.new.memory c.args.who c.in-Some-somebody.spouse (law_person c.in-Some.someone) (law_person c.read-other.result) ok found.0 found.1
          spouse.0 (λ l. c.read-other.ensures.value ∙ person_laid ws (limit_in ws) _ (family_in ws) _ _ _ (rest_in ws) c.in-Some-somebody.spouse ok.0 l)
          (c.put.ensures.left ∙ ap (λ q. written (2 + 4 * c.args.who) (person_words q) ws) c.married.ensures.value)
          (c.put-2.ensures.left ∙ ap (λ q. written (2 + 4 * c.in-Some-somebody.spouse) (person_words q) c.put.new.memory) c.married-2.ensures.value);
    }
