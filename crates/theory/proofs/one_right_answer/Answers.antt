use Rattle.theory.proofs.RightAnswers.{one_right_answer}
use Rattle.theory.proofs.one_right_answer.Goals as goal

pub returns : goal.returns
returns c = one_right_answer
