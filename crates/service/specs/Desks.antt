-- What a register for the calls of a stage leaves in memory and says: the desk of its promises. Assumes nothing: these are definitions.
use Rattle.std.specs.Prelude.{ℕ, ◌+◌, ◌*◌, max, Bool, List, []}
use Rattle.law.specs.Calls.{Call, Answer, Limits, after}
use Rattle.law.specs.Promise.{Memory, Desk, all_calls}
use Rattle.theory.specs.Answers.{answer_to}
use Rattle.people.specs.Layout.{image, limit_in, family_in, rest_in}

-- the limits of a register that takes the calls of a stage and has room for n persons, and of one that takes all calls
abbrev pub limits_of : (ℕ → Bool) → ℕ → Limits
limits_of can n = record { calls_can = can; persons = n }

abbrev pub limits : ℕ → Limits
limits n = limits_of all_calls n

abbrev pub state : List ℕ → Memory
state ws = record { words = ws }

abbrev pub next : (ℕ → Bool) → Memory → Call → Memory
next can m c = state (image (limit_in m.words) (after (limits_of can (limit_in m.words)) (family_in m.words) c) (rest_in m.words))

abbrev pub says : (ℕ → Bool) → Memory → Call → Answer
says can m c = answer_to (limits_of can (limit_in m.words)) (family_in m.words) c

-- a desk for the calls of a stage, opened in memory behind which lie these words
abbrev pub desk : (ℕ → Bool) → List ℕ → Desk
desk can rest = record { opened = λ l. state (image l.persons [] rest); next = next can; says = says can }

-- how many bytes a register for n persons asks for its answers
abbrev pub bytes_asked : ℕ → ℕ
bytes_asked n = max 49160 (8 + 20 * n)
