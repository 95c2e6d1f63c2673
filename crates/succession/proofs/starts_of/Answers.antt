use Rattle.std.proofs.Common.{rules, ◌≡◌, suc, ◌≤◌, length, filter, sym, ap, ◌∙◌, subst, add-one, arith}
use Rattle.law.specs.Family.{side_lives}
use Rattle.theory.specs.Living.{alive}
use Rattle.theory.specs.Decedent.{kept_order}
use Rattle.amounts.specs.Lines.{couple_starts}
use Rattle.children.specs.Links.{link_row}
use Rattle.people.specs.Layout.{person_row}
use Rattle.people.proofs.Layouts.{limit_laid}
use Rattle.succession.specs.Orders.{forebears, parents_at, order_number}
use Rattle.succession.proofs.Inheriting.{starts_second, starts_third}
use Rattle.succession.proofs.Starts.{two_places}
use Rattle.succession.proofs.starts_of.Goals as goal

pub returns-in-Parents-clause-value : goal.returns-in-Parents-clause-value
returns-in-Parents-clause-value c = λ n f work rest e there o.
    let who = c.args.who in
    let l = limit_laid c.args.memory.now n (length f) (person_row f) (link_row f) (alive f) work rest e in
    let second : 2 ≡ kept_order f who = ap order_number (sym c.in-Parents.is) ∙ o in
    let two = c.parents_of-two.ensures.value n (length f) f (alive f) work rest e (omega arith) ∙ ap (λ z. parents_at f z) (add-one who) in
    two_places c.couple_starts.result (search rules)
    ∙ c.couple_starts.ensures.value n f work rest e (subst (λ x. x.mother ≤ n) (sym two) (there who).0) (subst (λ x. x.father ≤ n) (sym two) (there who).1)
    ∙ ap (λ x. couple_starts f (forebears x) c.args.by) two ∙ sym (starts_second f who c.args.by second)

pub returns-in-Grandparents-clause-value : goal.returns-in-Grandparents-clause-value
returns-in-Grandparents-clause-value c = λ n f work rest e there o.
    let who = c.args.who in
    let l = limit_laid c.args.memory.now n (length f) (person_row f) (link_row f) (alive f) work rest e in
    let third : 3 ≡ kept_order f who = ap order_number (sym c.in-Grandparents.is) ∙ o in
    let two = c.parents_of-two.ensures.value n (length f) f (alive f) work rest e (omega arith) ∙ ap (λ z. parents_at f z) (add-one who) in
    let sides = c.sides_of.ensures.value n f work rest e there (subst (λ x. x.mother ≤ n) (sym two) (there who).0) (subst (λ x. x.father ≤ n) (sym two) (there who).1) in
    c.side_starts.ensures.value n f work rest (parents_at f (suc who)) e there (sides.0 ∙ ap (λ x. parents_at f x.mother) two) (sides.1 ∙ ap (λ x. parents_at f x.father) two)
    (sides.2 ∙ ap (λ x. length (filter (λ p. side_lives f (length f) p) (forebears x))) two)
    ∙ sym (starts_third f who c.args.by third)
