use Rattle.std.proofs.Common.{◌≡◌, ◌+◌, eqb, get_or, ap, ◌∙◌, arith}
use Rattle.children.specs.Links.{link_row, next_place}
use Rattle.people.specs.Layout.{next_link, person_row}
use Rattle.people.proofs.Layouts.{limit_laid, next_said}
use Rattle.people.proofs.next_child.Goals as goal

pub returns : goal.returns
returns c =
    let ws = c.args.memory.now in
    let child = c.args.child in
    let parent = c.args.parent in
    let link : c.next.result ≡ next_link ws parent child =
    c.next.ensures.value
    ∙ (λ i. get_or (c.link_words.ensures.value i) (next_place child (eqb (ap (λ q. q.mother) c.read.ensures.value i) (parent + 1))) 0) in
    record {
      link = link;
      value = λ n k f s work rest e. link ∙ next_said ws n k f s work rest parent child e (omega (arith, limit_laid ws n k (person_row f) (link_row f) s work rest e, c.requires.there));
    }
