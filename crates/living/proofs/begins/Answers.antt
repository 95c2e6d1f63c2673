use Rattle.std.proofs.Common.{◌≡◌, length, ap, ◌∙◌, add-one, arith}
use Rattle.children.specs.Links.{link_row}
use Rattle.people.specs.Layout.{person_row, laid, count_in}
use Rattle.children.proofs.Links.{links_wide}
use Rattle.people.proofs.Layouts.{limit_laid, laid_count}
use Rattle.living.specs.Marks.{raised}
use Rattle.living.proofs.begins.Goals as goal

pub returns : goal.returns
returns c =
    let ws = c.args.memory.now in
    record {
      limit = c.raise.ensures.limit;
      count = c.raise.ensures.count;
      left = λ n f s work rest held there.
          let l = limit_laid ws n (length f) (person_row f) (link_row f) s work rest held.0 in
          let k : count_in ws ≡ length f = ap count_in held.0 ∙ laid_count n (length f) (person_row f) (link_row f) s work rest in
          c.raise.ensures.left n (length f) f (link_row f) s work rest held.0 (links_wide f) there (omega arith)
          ∙ (λ i. laid n (length f) (person_row f) (link_row f) (raised (k i) f (add-one c.args.who i) s) work rest);
    }
