-- All shares together are all parts together. Assumes nothing.
use Rattle.shares.proofs.Together.{shares_together}
use Rattle.shares.proofs.shares_together.Goals as goal

pub returns : goal.returns
returns c = record { holds = shares_together }
