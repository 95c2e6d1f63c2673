use Rattle.std.proofs.Common.{rules, ◌∙◌, length, arith}
use Rattle.std.proofs.lemmas.List.{length-map}
use Rattle.std.proofs.lemmas.Result.{IfOk-weaker}
use Rattle.std.proofs.lemmas.Iterator.{YieldsList-from_range, items_from_collect}
use Rattle.std.proofs.lemmas.Iterator.Consumers.{YieldsList-from_filter}
use Rattle.people.specs.Persons.{law_person}
use Rattle.ways.specs.Rows.{family_of, in_row}
use Rattle.ways.proofs.Walks.{child_in, kept_all}
use Rattle.ways.proofs.children_in.Goals as goal

pub returns : goal.returns
returns c =
    let s = in_row c.args.set.now in
    let f = family_of c.args.family.now in
    let n = length c.args.family.now in
    record {
      value =
          IfOk-weaker c.collect.result _ _ (λ v e. e ∙ kept_all s f c.args.parent n (length-map c.args.family.now law_person))
          (items_from_collect c.collect.result c.collect.ensures.ran
          (YieldsList-from_filter {s = c.filter.result} _ (child_in s f c.args.parent) (YieldsList-from_range 0 n n c.filter.ensures.source (omega arith)) c.filter.ensures.closure (λ x b q k. search rules)));
    }
