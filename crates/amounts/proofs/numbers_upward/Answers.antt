use Rattle.amounts.proofs.Lines.{counts_right, multiples_right}
use Rattle.amounts.proofs.numbers_upward.Goals as goal

pub returns : goal.returns
returns c = record { counts = counts_right; multiples = multiples_right }
