use Rattle.std.proofs.Common.{◌≡◌, ◌+◌, ◌*◌, get_or, ap, ◌∙◌, arith, rules}
use Rattle.rows.specs.Written.{written}
use Rattle.rows.proofs.Written.{get_or-written_before}
use Rattle.people.specs.Layout.{person_words}
use Rattle.people.specs.Persons.{law_person}
use Rattle.people.proofs.put.Goals as goal

pub returns : goal.returns
returns c =
    let ws = c.args.memory.now in
    let q = person_words (law_person c.args.someone) in
    let left : c.put.new.row ≡ written (2 + 4 * c.args.who) q ws = search rules in
    record {
      limit = ap (λ u. get_or u 0 0) left ∙ get_or-written_before (2 + 4 * c.args.who) 0 q ws 0 (omega arith);
      count = ap (λ u. get_or u 1 0) left ∙ get_or-written_before (2 + 4 * c.args.who) 1 q ws 0 (omega arith);
      left = left;
    }
