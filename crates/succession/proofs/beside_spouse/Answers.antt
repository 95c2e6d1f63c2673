use Rattle.std.proofs.Common.{sym, ap, ◌∙◌, ⊎_elim}
use Rattle.succession.specs.Orders.{order_number}
use Rattle.succession.proofs.Spouses.{estate_alone, beside_nobody, beside_parents, beside_grandparents}
use Rattle.succession.proofs.beside_spouse.Goals as goal

pub returns-in_default-clause-value : goal.returns-in_default-clause-value
returns-in_default-clause-value c = λ f d s o. estate_alone f d (sym c.in_default.is ∙ s)

pub returns-in-Parents-clause-value : goal.returns-in-Parents-clause-value
returns-in-Parents-clause-value c = λ f d s o.
    let w = sym c.in-Some.is ∙ s in
    ⊎_elim (λ z. beside_parents f d c.in-Some.who w (ap order_number (sym z) ∙ o)) (λ z. beside_grandparents f d c.in-Some.who w (ap order_number (sym z) ∙ o)) c.in-Parents.is

pub returns-in-Nobody-clause-value : goal.returns-in-Nobody-clause-value
returns-in-Nobody-clause-value c = λ f d s o. beside_nobody f d c.in-Some.who (sym c.in-Some.is ∙ s) (ap order_number (sym c.in-Nobody.is) ∙ o)
