-- Rows of bytes are read rightly. Assumes nothing.
use Rattle.wire.proofs.Places.{reads_rightly}
use Rattle.wire.proofs.reads_rightly.Goals as goal

pub returns : goal.returns
returns c = record { holds = reads_rightly }
