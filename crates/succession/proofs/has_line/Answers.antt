use Rattle.std.proofs.Common.{rules, arith}
use Rattle.children.specs.Links.{link_row}
use Rattle.people.specs.Layout.{person_row}
use Rattle.people.proofs.Layouts.{limit_laid}
use Rattle.succession.proofs.Lines.{tested}
use Rattle.succession.proofs.has_line.Goals as goal

pub returns : goal.returns
returns c =
    record {
      value = λ n k f s work rest e le.
          let l = limit_laid c.args.memory.now n k (person_row f) (link_row f) s work rest e in
          tested s _ c.args.link c.somebody.result c.is_some_and.result (omega arith) c.somebody.ensures.cases c.is_some_and.ensures (λ p q. search rules);
    }
