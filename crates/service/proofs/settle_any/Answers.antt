use Rattle.std.proofs.Common.{sym, ap, ◌∙◌}
use Rattle.law.specs.Family.{Person}
use Rattle.service.proofs.Estates.{dead_there}
use Rattle.service.proofs.settle_any.Goals as goal

pub returns-else-someone : goal.returns-else-someone
returns-else-someone g c =
    record {
      settled = λ n f rest e ok room there is.
          c.settle.ensures.settled n f rest e (dead_there f n c.args.who ok room there (ap (λ (p : Person). p.lives) (sym is) ∙ c.if-someone.false));
    }
