use Rattle.std.proofs.Common.{vec_items}
use Rattle.std.proofs.lemmas.List.{length-map}
use Rattle.people.specs.Persons.{law_person}
use Rattle.ways.specs.Rows.{law_ways}
use Rattle.ways.proofs.Going.{refused_by, handed_on}
use Rattle.reasons.proofs.Orders.{first_put, first_stop}
use Rattle.reasons.proofs.first_order.Goals as goal

pub returns-in_err-each : goal.returns-in_err-each
returns-in_err-each c =
    record {
      put = λ rk k e.
          handed_on c.from_residual.result _ _ _ c.in_err-each.field-0.0 c.from_residual.ensures.1 (λ h. h)
          (refused_by _ c.in_err-each.field-0.0
          (first_stop k _ c.args.children.now c.args.by (length-map c.args.descent.now.family.now law_person) e (law_ways (vec_items c.args.ways.now)) (rw c.in_err-each.ensures.ok_part at c.each_of.ensures.cases)));
    }

pub returns : goal.returns
returns c =
    record {
      put = λ rk k e.
          let each = rw c.in_ok-each.ensures.ok_part at c.each_of.ensures.cases in
          first_put k _ c.args.children.now c.args.by (length-map c.args.descent.now.family.now law_person) e c.in_ok-each.each _ _ c.go_down.result each.0 (c.go_down.ensures.went k.marks);
    }
