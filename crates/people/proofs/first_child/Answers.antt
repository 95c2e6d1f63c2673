use Rattle.std.proofs.Common.{◌*◌, get_or, ap, ◌∙◌}
use Rattle.children.proofs.Walks.{first_read}
use Rattle.children.specs.Links.{link_row}
use Rattle.people.specs.Layout.{limit_in, person_row}
use Rattle.people.proofs.Layouts.{limit_said, links_said}
use Rattle.people.proofs.first_child.Goals as goal

pub returns : goal.returns
returns c =
    let ws = c.args.memory.now in
    record {
      value = λ n k f s work rest e'.
          let e = limit_said ws n k (person_row f) (link_row f) s work rest e' in
          c.first.ensures.value ∙ ap (λ r. get_or r (4 * c.args.who) 0) (c.link_words.ensures.value ∙ links_said ws (limit_in ws) k f s work rest e)
          ∙ first_read (limit_in ws) f c.args.who c.requires.there;
    }
