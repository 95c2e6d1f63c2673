-- Reading what was printed gives the same family. Assumes nothing.
use Rattle.text.proofs.ReadBack.{reads_back, printed_again}
use Rattle.text.proofs.ReadValid.{read_are_valid}
use Rattle.text.proofs.families_read_back.Goals as goal

pub returns : goal.returns
returns c = record { back = reads_back; valid = read_are_valid; again = printed_again }
