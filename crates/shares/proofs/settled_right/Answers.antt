-- What is settled is right. Assumes nothing.
use Rattle.shares.proofs.Together.{settled_right}
use Rattle.shares.proofs.settled_right.Goals as goal

pub returns : goal.returns
returns c = record { holds = settled_right }
