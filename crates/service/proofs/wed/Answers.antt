use Rattle.std.proofs.Common.{arith}
use Rattle.people.specs.Persons.{law_person}
use Rattle.people.proofs.Layouts.{length-family}
use Rattle.service.proofs.Marriages.{wed_first_missing, wed_second_missing, wed_not_allowed, wed_left}
use Rattle.service.proofs.wed.Goals as goal

pub returns-in_default : goal.returns-in_default
returns-in_default c = record { served = λ ok. wed_first_missing c.args.memory.now c.args.one c.args.other ok c.in_default.ensures.cases }

pub returns-in_default-find : goal.returns-in_default-find
returns-in_default-find c =
    record { served = λ ok. wed_second_missing c.args.memory.now c.args.one c.args.other ok c.in-Some.ensures.cases.0 c.in_default-find.ensures.cases }

pub wedded-requires : goal.wedded-requires
wedded-requires c =
    let l = length-family c.args.memory.now in
    record { one = omega (arith, c.in-Some.ensures.cases.0); other = omega (arith, c.in-Some-find.ensures.cases.0) }

pub returns-in_default-wedded : goal.returns-in_default-wedded
returns-in_default-wedded c =
    let one = c.in-Some.ensures.cases in
    let other = c.in-Some-find.ensures.cases in
    record {
      served = λ ok. wed_not_allowed c.args.memory.now c.args.one c.args.other (law_person c.in-Some.first) (law_person c.in-Some-find.second) ok one.0 other.0 one.1 other.1
          c.in_default-wedded.ensures.cases;
    }

pub put-requires : goal.put-requires
put-requires c = record { room = omega (arith, length-family c.args.memory.now, c.in-Some.ensures.cases.0) }

pub put-requires-2 : goal.put-requires-2
put-requires-2 c = record { room = omega (arith, length-family c.args.memory.now, c.in-Some-find.ensures.cases.0) }

pub returns : goal.returns
returns c =
    let one = c.in-Some.ensures.cases in
    let other = c.in-Some-find.ensures.cases in
    let couple = c.in-Some-wedded.ensures.cases in
    record {
      served = λ ok. wed_left c.args.memory.now c.put.new.memory c.put-2.new.memory c.args.one c.args.other (law_person c.in-Some.first) (law_person c.in-Some-find.second)
          (law_person c.in-Some-wedded.couple.one) (law_person c.in-Some-wedded.couple.other) ok one.0 other.0 one.1 other.1 couple.0 couple.1 couple.2
          c.put.ensures.left c.put-2.ensures.left;
    }
