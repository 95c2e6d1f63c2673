use Rattle.std.proofs.Common.{rules, arith}
use Rattle.children.specs.Links.{link_row}
use Rattle.people.specs.Layout.{person_row}
use Rattle.people.proofs.Layouts.{limit_laid, person_laid}
use Rattle.succession.proofs.Spouses.{spouse_found}
use Rattle.succession.proofs.living_spouse.Goals as goal

pub returns : goal.returns
returns c =
    record {
      value = λ n k f s work rest d e is le.
          let l = limit_laid c.args.memory.now n k (person_row f) (link_row f) s work rest e in
          spouse_found f d _ c.args.spouse c.somebody.result c.filter.result is (omega arith) c.somebody.ensures.cases c.filter.ensures
          (λ p b there q. let z = person_laid c.args.memory.now n k f (link_row f) s work rest p e (omega arith) in search rules);
    }
