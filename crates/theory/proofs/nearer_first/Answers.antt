use Rattle.theory.proofs.Heirs.{nearer_first, first_order_only}
use Rattle.theory.proofs.nearer_first.Goals as goal

pub returns : goal.returns
returns c = record { promised = nearer_first; stronger = first_order_only }
