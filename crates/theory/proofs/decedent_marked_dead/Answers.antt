use Rattle.theory.proofs.Decedent.{decedent_marked_dead}
use Rattle.theory.proofs.decedent_marked_dead.Goals as goal

pub returns : goal.returns
returns c = decedent_marked_dead
