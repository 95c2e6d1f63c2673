use Rattle.std.proofs.Common.{rules, ◌∙◌, length, refl, arith}
use Rattle.std.proofs.lemmas.List.{length-map}
use Rattle.std.proofs.lemmas.Iterator.{YieldsList-from_range}
use Rattle.std.proofs.lemmas.Iterator.Search.{any_from_yields_List}
use Rattle.people.specs.Persons.{law_person}
use Rattle.ways.specs.Rows.{family_of, in_row}
use Rattle.ways.proofs.Walks.{child_in, some_all}
use Rattle.ways.proofs.has_child_in.Goals as goal

pub returns : goal.returns
returns c =
    let s = in_row c.args.set.now in
    let f = family_of c.args.family.now in
    let n = length c.args.family.now in
    record {
      value =
          any_from_yields_List (child_in s f c.args.parent) _ _ c.any.result c.any.ensures.ran (YieldsList-from_range 0 n n refl (omega arith)) (λ x b q k. search rules)
          ∙ some_all s f c.args.parent n (length-map c.args.family.now law_person);
    }
