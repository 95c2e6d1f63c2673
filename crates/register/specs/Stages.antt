-- What is promised for the calls of a stage that takes fewer than all. Each is a statement: a type whose proof is owed wherever a contract names it. Assumes nothing.
use Rattle.std.specs.Prelude.{◌≡◌, ℕ, ◌<◌, ◌≤◌, Bool, true, ◌||◌, List, [], ◌==◌}
use Rattle.std.specs.List.{AllByRecursion}
use Rattle.law.specs.Family.{Family, relatives_parts, estate}
use Rattle.law.specs.Calls.{Call, call_number, Limits, refusal}
use Rattle.law.specs.Promise.{Desk, all_right, ran, Reached, left_by, without_marriages}
use Rattle.theory.specs.Answers.{answer_to}
use Rattle.service.specs.Desks.{limits_of, limits}

-- a call that a stage takes, or bytes that are no call
abbrev pub OfStage : (ℕ → Bool) → Call → Type 0
OfStage can c = (call_number c == 255 || can (call_number c)) ≡ true

-- For every list of such calls each answer is right by that stage.
unfoldable pub RightWithin : (ℕ → Bool) → Desk → Type 0
RightWithin can d = (l : Limits) (cs : List Call) → l.persons ≤ 4096 → l.calls_can ≡ can → AllByRecursion (OfStage can) cs → all_right d l (d.opened l) [] cs

-- A call of that stage that is turned away changes nothing in memory.
unfoldable pub RefusalKeepsWithin : (ℕ → Bool) → Desk → Type 0
RefusalKeepsWithin can d =
    (l : Limits) (cs : List Call) (c : Call) → l.persons ≤ 4096 → l.calls_can ≡ can → AllByRecursion (OfStage can) cs → OfStage can c → 0 < refusal l (ran l [] cs) c →
    d.next (left_by d (d.opened l) cs) c ≡ left_by d (d.opened l) cs

-- Families without a wedding keep their answers: calls of a stage lead to the same family, and are answered alike, where all calls are taken.
unfoldable pub AnswersKept : (ℕ → Bool) → Type 0
AnswersKept can =
    (n : ℕ) (cs : List Call) (c : Call) → AllByRecursion (OfStage can) cs → OfStage can c →
    (ran (limits_of can n) [] cs ≡ ran (limits n) [] cs) × (answer_to (limits_of can n) (ran (limits_of can n) [] cs) c ≡ answer_to (limits n) (ran (limits n) [] cs) c)

-- Without weddings relatives have the whole estate.
unfoldable pub RelativesAlone : Type 0
RelativesAlone = (n : ℕ) (f : Family) (d : ℕ) → Reached (limits_of without_marriages n) f → estate f d ≡ relatives_parts f d 1
