use Rattle.std.proofs.Common.{sym, ◌∙◌, arith}
use Rattle.std.proofs.lemmas.Result.{IfOk-weaker}
use Rattle.ways.specs.Rows.{family_of, in_row}
use Rattle.reasons.proofs.KnownPersons.{side_none, side_some}
use Rattle.reasons.proofs.side_in.Goals as goal

pub returns-in_default : goal.returns-in_default
returns-in_default c =
    record { value = c.new.ensures.items ∙ sym (side_none (in_row c.args.set.now) (family_of c.args.family.now) c.args.link (let h = c.in_default.ensures in omega (arith, h))) }

pub returns : goal.returns
returns c =
    record {
      value =
          IfOk-weaker c.parents_in.result _ _ (λ v e. e ∙ sym (side_some (in_row c.args.set.now) (family_of c.args.family.now) c.args.link c.in-Some.who c.in-Some.ensures.0 c.in-Some.ensures.1))
          c.parents_in.ensures.value;
    }
