use Rattle.std.proofs.Common.{◌+◌, ◌*◌, ap, ◌∙◌, arith}
use Rattle.rows.specs.Written.{written}
use Rattle.people.specs.Layout.{person_words}
use Rattle.people.specs.Persons.{law_person}
use Rattle.service.proofs.Estates.{living_settled}
use Rattle.service.proofs.settle_living.Goals as goal

pub ends-requires : goal.ends-requires
ends-requires g c =
    let limit = c.put.ensures.limit in
    let count = c.put.ensures.count in
    record { room = (omega arith, omega arith, omega arith); there = omega arith }

pub settle-count-requires : goal.settle-count-requires
settle-count-requires g c =
    let limit = c.put.ensures.limit in
    let count = c.put.ensures.count in
    let limit' = c.ends.ensures.limit in
    let count' = c.ends.ensures.count in
    record { room = (omega arith, omega arith, omega arith); there = omega arith; bytes = omega arith }

pub begins-requires : goal.begins-requires
begins-requires g c =
    let limit = c.put.ensures.limit in
    let count = c.put.ensures.count in
    let limit' = c.ends.ensures.limit in
    let count' = c.ends.ensures.count in
    let limit'' = c.settle-count.ensures.limit in
    let count'' = c.settle-count.ensures.count in
    let limit''' = c.put-2.ensures.limit in
    let count''' = c.put-2.ensures.count in
    record { room = (omega arith, omega arith, omega arith); there = omega arith }

pub returns : goal.returns
returns g c =
    record {
      settled = λ n f rest e ok room there is lives.
          living_settled n f rest c.args.memory.now c.put.new.memory c.ends.new.memory c.settle-count.new.memory c.put-2.new.memory c.begins.new.memory
          c.args.answer.now c.settle-count.new.answer c.args.who (law_person c.args.someone) c.settle-count.result e ok room there is lives (c.put.ensures.left ∙ ap (λ q. written (2 + 4 * c.args.who) (person_words q) c.args.memory.now) c.buried.ensures.value)
          c.ends.ensures.left c.settle-count.ensures.settled c.put-2.ensures.left c.begins.ensures.left;
    }
