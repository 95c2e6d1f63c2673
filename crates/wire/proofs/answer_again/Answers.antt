-- Answers read back. Assumes nothing.
use Rattle.wire.proofs.ReadBack.{answers_read_back}
use Rattle.wire.proofs.answer_again.Goals as goal

pub returns : goal.returns
returns c = record { holds = answers_read_back }
