use Rattle.std.proofs.Common.{◌+◌, ◌*◌, ap, ◌∙◌, arith}
use Rattle.law.specs.Calls.{dead}
use Rattle.rows.specs.Written.{written}
use Rattle.people.specs.Layout.{person_words}
use Rattle.people.specs.Persons.{law_person}
use Rattle.people.proofs.Layouts.{length-family}
use Rattle.service.proofs.Births.{dies_not_there, dies_not_allowed, dies_taken}
use Rattle.service.proofs.bury.Goals as goal

pub returns-in_default : goal.returns-in_default
returns-in_default c = record { served = λ ok. dies_not_there c.args.memory.now c.args.who ok c.in_default.ensures.cases }

pub returns-in_default-if_living : goal.returns-in_default-if_living
returns-in_default-if_living c =
    let found = c.in-Some.ensures.cases in
    record {
      served = λ ok. dies_not_allowed c.args.memory.now c.args.who (law_person c.in-Some.someone) ok found.0 found.1 c.in_default-if_living.ensures.cases;
    }

pub put-requires : goal.put-requires
put-requires c = record { room = omega (arith, length-family c.args.memory.now, c.in-Some.ensures.cases.0) }

pub ends-requires : goal.ends-requires
ends-requires c =
    let found = c.in-Some.ensures.cases.0 in
    let limit = c.put.ensures.limit in
    let count = c.put.ensures.count in
    record { room = (omega arith, omega arith, omega arith); there = omega (arith, length-family c.args.memory.now) }

pub returns : goal.returns
returns c =
    let found = c.in-Some.ensures.cases in
    let alive = c.in-Some-if_living.ensures.cases in
    record {
      served =
          λ ok. dies_taken c.args.memory.now c.put.new.memory c.ends.new.memory c.args.who (law_person c.in-Some.someone) ok found.0 found.1 alive.0
          (c.put.ensures.left ∙ ap (λ q. written (2 + 4 * c.args.who) (person_words q) c.args.memory.now) (c.buried.ensures.value ∙ ap (λ q. dead (law_person q)) alive.1))
          c.ends.ensures.left;
    }
