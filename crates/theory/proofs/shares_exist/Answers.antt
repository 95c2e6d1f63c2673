use Rattle.theory.proofs.Shares.{shares_exist}
use Rattle.theory.proofs.shares_exist.Goals as goal

pub returns : goal.returns
returns c = shares_exist
