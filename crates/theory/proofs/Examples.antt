-- Two estates, computed. Assumes nothing.
use Rattle.std.proofs.Common.{ℕ, [], ◌∷◌, ◌++◌, refl}
use Rattle.law.specs.Family.{children_in, some_of, line_lives_in, line_parts_in, known, couple_parts, side_lives, repeated}
use Rattle.law.specs.Calls.{dies, estate_of, shares, call_number, gcd_in, common_multiple, refusal_of, place, changed, pieces}
use Rattle.law.specs.Promise.{ran}
use Rattle.theory.specs.Shares.{above}
use Rattle.theory.specs.Answers.{answer_taken}
use Rattle.theory.specs.Examples.{limits, calls, FirstFamily, SecondFamily}
use Rattle.theory.proofs.RightAnswers.{right_by_computing}

-- all that an answer is computed by
by_computing : ℕ
unfolding ran call_number refusal_of place changed children_in some_of line_lives_in line_parts_in known couple_parts side_lives repeated gcd_in common_multiple pieces above answer_taken
by_computing = 0

pub first_family : FirstFamily
unfolding FirstFamily by_computing
first_family = right_by_computing limits (ran limits [] calls) (estate_of 5) (shares _) refl

pub second_family : SecondFamily
unfolding SecondFamily by_computing
second_family = right_by_computing limits (ran limits [] (calls ++ dies 2 ∷ [])) (estate_of 5) (shares _) refl
