use Rattle.std.proofs.Common.{◌+◌, ◌-◌, sym, ◌∙◌, arith}
use Rattle.law.specs.Family.{children_in}
use Rattle.children.specs.Links.{first_of}
use Rattle.people.specs.Layout.{family_in}
use Rattle.people.proofs.Layouts.{length-family}
use Rattle.inspection.proofs.Scans.{behind_none, behind_from}
use Rattle.inspection.proofs.child_behind.Goals as goal

pub returns-in_default : goal.returns-in_default
returns-in_default c =
    record { value = λ is. behind_none (family_in c.args.memory.now) c.args.parent c.args.child (omega (arith, c.in_default.ensures)) }

pub returns : goal.returns
returns c =
    let ws = c.args.memory.now in
    let f = family_in ws in
    let l = length-family ws in
    let number = c.in-Some.ensures in
    record {
      value = λ is.
          c.child_from.ensures.value
          ∙ (λ i. first_of (children_in f (number.1 i) (sym l i - (c.args.child + 1)) (c.args.child + 1)))
          ∙ behind_from f c.args.parent c.args.child (omega (arith, c.requires.there)) (λ e. omega arith) is;
    }
