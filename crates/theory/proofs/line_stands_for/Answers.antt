use Rattle.theory.proofs.StandsFor.{line_stands_for, line_has_instead}
use Rattle.theory.proofs.line_stands_for.Goals as goal

pub returns : goal.returns
returns c = record { promised = line_stands_for; stronger = line_has_instead }
