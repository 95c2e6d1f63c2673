use Rattle.std.proofs.Common.{◌≡◌, length, ap, ◌∙◌, arith}
use Rattle.theory.specs.Living.{alive}
use Rattle.children.specs.Links.{link_row}
use Rattle.people.specs.Layout.{person_row, count_in}
use Rattle.people.proofs.Layouts.{laid_count}
use Rattle.passes.proofs.Walks.{ahead_all}
use Rattle.passes.proofs.Walk.new.Goals as goal

pub returns-clause-start : goal.returns-clause-start
returns-clause-start c n f work rest held =
    let count : count_in c.args.memory.now ≡ length f = ap count_in held.0 ∙ laid_count n (length f) (person_row f) (link_row f) (alive f) work rest in
    let first = c.first_below.ensures.value n f work rest held in
    ahead_all f _ first.0 first.1 first.2 (omega arith)
