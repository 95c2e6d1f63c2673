use Rattle.std.proofs.Common.{length, ⊎_elim, arith}
use Rattle.theory.specs.Living.{alive}
use Rattle.children.specs.Links.{link_row}
use Rattle.people.specs.Layout.{person_row}
use Rattle.people.proofs.Layouts.{limit_laid}
use Rattle.succession.proofs.Starts.{start_none, start_one}
use Rattle.succession.proofs.start_of.Goals as goal

pub returns-in_err-who-clause-value : goal.returns-in_err-who-clause-value
returns-in_err-who-clause-value c = λ n f work rest e le.
    let l = limit_laid c.args.memory.now n (length f) (person_row f) (link_row f) (alive f) work rest e in
    start_none f c.args.by c.args.link c.from_residual.result c.from_residual.ensures (⊎_elim (λ z. z) (λ z. absurd (omega arith)) c.in_err-who.ensures.cases)

pub returns-clause-value : goal.returns-clause-value
returns-clause-value c = λ n f work rest e le.
    start_one f c.args.by c.args.link c.in_ok-who.who c.lives.result c.then_some.result c.in_ok-who.ensures.cases.0 c.then_some.ensures
    (c.lives.ensures.value n (length f) f (alive f) work rest e)
