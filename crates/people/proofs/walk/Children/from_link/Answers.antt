use Rattle.std.proofs.Common.{◌≡◌, length, ap, ◌∙◌, arith}
use Rattle.children.specs.Links.{link_row}
use Rattle.people.specs.Layout.{count_in, person_row}
use Rattle.people.specs.Walks.{met_from}
use Rattle.people.proofs.Layouts.{laid_count}
use Rattle.people.proofs.Walks.{met_all, met_within, met_few}
use Rattle.people.proofs.walk.Children.from_link.Goals as goal

pub returns-clause-value : goal.returns-clause-value
returns-clause-value c n f s work rest i e room inv =
    let ws = c.args.memory.now in
    let k : count_in ws ≡ length f = ap count_in e ∙ laid_count n (length f) (person_row f) (link_row f) s work rest in
    ap (met_from ws c.args.parent c.args.link) k ∙ met_all ws n (length f) f s work rest c.args.parent i c.args.link e room (omega arith) inv

pub returns-clause-within : goal.returns-clause-within
returns-clause-within c = met_within c.args.memory.now c.args.parent c.args.link _

pub returns-clause-few : goal.returns-clause-few
returns-clause-few c = met_few c.args.memory.now c.args.parent c.args.link _
