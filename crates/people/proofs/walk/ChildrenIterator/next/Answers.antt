use Rattle.std.proofs.Common.{◌-◌, ◌∷◌, length, sym, ap, ◌∙◌, subst, arith}
use Rattle.std.specs.Iterator.{YieldsFirst}
use Rattle.people.specs.Walking.{children_left}
use Rattle.people.specs.Walks.{met_from}
use Rattle.people.proofs.Walks.{met_none, met_nobody, met_somebody}
use Rattle.people.proofs.walk.ChildrenIterator.next.Goals as goal

pub returns-then-self-eq0-clause-steps : goal.returns-then-self-eq0-clause-steps
returns-then-self-eq0-clause-steps c =
    let self = c.args.self.now in
    let none = met_none self.memory.now self.parent self.link self.steps c.if-self-eq0.true in (none, none)

pub returns-in_err-child-clause-steps : goal.returns-in_err-child-clause-steps
returns-in_err-child-clause-steps c =
    let self = c.args.self.now in
    let none = met_nobody self.memory.now self.parent self.link self.steps c.in_err-child.ensures.cases in
    subst (λ r. YieldsFirst children_left self r self) (sym c.from_residual.ensures) (none, none)

pub returns-clause-steps : goal.returns-clause-steps
returns-clause-steps c =
    let self = c.args.self.now in
    let child = c.in_ok-child.ensures.cases in
    met_somebody self.memory.now self.parent self.link self.steps c.in_ok-child.child (λ e. omega arith) child.0 child.1
    ∙ ap (λ l. c.in_ok-child.child ∷ met_from self.memory.now self.parent l (self.steps - 1)) (sym c.next_child-self.ensures.link)

pub returns-clause-goes : goal.returns-clause-goes
returns-clause-goes c = record { on = λ _. (tt, tt, omega (arith, ap length (returns-clause-steps c))); keeps = tt; rests = λ _. tt }
