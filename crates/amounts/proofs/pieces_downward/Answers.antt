use Rattle.amounts.proofs.Downward.{never_more}
use Rattle.amounts.proofs.Pieces.{pieces_right}
use Rattle.amounts.proofs.pieces_downward.Goals as goal

pub returns : goal.returns
returns c = record { pieces = pieces_right; most = never_more }
