-- A valid family is what its calls build. Assumes nothing.
use Rattle.text.proofs.Builds.{built}
use Rattle.text.proofs.families_are_built.Goals as goal

pub returns : goal.returns
returns c = record { holds = built }
