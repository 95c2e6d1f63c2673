-- Calls read back. Assumes nothing.
use Rattle.wire.proofs.ReadBack.{calls_read_back}
use Rattle.wire.proofs.call_again.Goals as goal

pub returns : goal.returns
returns c = record { holds = calls_read_back }
