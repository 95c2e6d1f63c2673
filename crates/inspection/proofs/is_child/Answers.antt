use Rattle.std.proofs.Common.{sym, ap, ◌∙◌}
use Rattle.law.specs.Family.{Person}
use Rattle.children.specs.Links.{has_parent}
use Rattle.people.proofs.Layouts.{person_found}
use Rattle.inspection.proofs.is_child.Goals as goal

pub returns : goal.returns
returns c =
    record {
      value = c.has_parent.ensures.value
          ∙ ap (λ (x : Person). has_parent x c.args.parent) (c.read.ensures.value ∙ sym (person_found c.args.memory.now c.args.child c.requires.there));
    }
