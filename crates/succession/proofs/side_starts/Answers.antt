use Rattle.std.proofs.Common.{rules, ◌*◌, ◌≤◌, ◌++◌, sym, ap, ◌∙◌, subst}
use Rattle.amounts.specs.Lines.{couple_starts}
use Rattle.succession.specs.Orders.{forebears}
use Rattle.succession.proofs.Lines.{parents_within}
use Rattle.succession.proofs.Starts.{sides_row, four_places}
use Rattle.succession.proofs.side_starts.Goals as goal

pub returns-clause-value : goal.returns-clause-value
returns-clause-value c = λ n f work rest two e there m d k.
    let by = c.args.by in
    let each = by * c.args.sides.living in
    let ms = parents_within f n two.mother there in
    let ds = parents_within f n two.father there in
    let mothers = c.couple_starts.ensures.value n f work rest e (subst (λ x. x.mother ≤ n) (sym m) ms.0) (subst (λ x. x.father ≤ n) (sym m) ms.1) in
    let fathers = c.couple_starts-2.ensures.value n f work rest e (subst (λ x. x.mother ≤ n) (sym d) ds.0) (subst (λ x. x.father ≤ n) (sym d) ds.1) in
    four_places c.couple_starts.result c.couple_starts-2.result (search rules) (search rules) ∙ (λ i. mothers i ++ fathers i)
    ∙ (λ i. couple_starts f (forebears (m i)) each ++ couple_starts f (forebears (d i)) each) ∙ sym (sides_row f two.mother two.father by each (ap (λ j. by * j) k))
