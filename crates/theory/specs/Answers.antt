-- The answer to each call: by its refusal, or what the rules say. Assumes nothing: these are definitions.
use Rattle.std.specs.Prelude.{◌≡◌, ◌-◌, cond, length, ◌==◌}
use Rattle.law.specs.Family.{person, Family, estate}
use Rattle.law.specs.Calls.{Call, born, wed, parted, dies, estate_of, unreadable, Answer, refused, number, shares, Limits, refusal, place, right}
use Rattle.theory.specs.Shares.{shares_of}

-- to a call that is taken
unfoldable pub answer_taken : Family → Call → Answer
answer_taken f (born m d) = number (length f)
answer_taken f (wed a b) = number a
answer_taken f (parted a) = number ((person f a).spouse - 1)
answer_taken f (dies a) = number a
answer_taken f (estate_of a) = shares (shares_of (estate f a))
answer_taken f (unreadable k) = refused 1 k

-- to any call
abbrev pub answer_to : Limits → Family → Call → Answer
answer_to l f c = cond (refusal l f c == 0) (answer_taken f c) (refused (refusal l f c) (place c))

-- It is right, and it is the only right one.
unfoldable pub OneRightAnswer : Type 0
OneRightAnswer = (l : Limits) (f : Family) (c : Call) → right l f c (answer_to l f c) × ((a : Answer) → right l f c a → a ≡ answer_to l f c)
