use Rattle.theory.proofs.StandsFor.{stands_for, nobody_else_has_less}
use Rattle.theory.proofs.stands_for.Goals as goal

pub returns : goal.returns
returns c = record { promised = stands_for; stronger = nobody_else_has_less }
