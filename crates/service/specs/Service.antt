-- What opening and a call leave and answer. Assumes nothing: these are definitions.
use Rattle.std.specs.Prelude.{◌≡◌, ℕ, ◌≤◌, Bool, cond, ◌||◌, List, length, drop, Ok, Err, Result, nat_lt}
use Rattle.law.specs.Calls.{Call, Answer, refused, number, refusal}
use Rattle.law.specs.Promise.{Memory, all_calls}
use Rattle.rows.specs.Written.{written}
use Rattle.wire.specs.Bytes.{answer_bytes}
use Rattle.people.specs.Layout.{words_asked, limit_in, family_in, Sound}
use Rattle.service.specs.Desks.{next, says, desk, limits_of, state, bytes_asked}
use Rattle.service.specs.Refusals.{refusal_number, refusal_place}
use Rattle.service.specs.declared.refusal.Refusal.{Refusal}
use Rattle.service.specs.declared.refusal.Refusal.TheVariants.{TooManyPersons, TooSmall}

-- a call of a stage on sound words: what it leaves and says is the desk's, and the words are sound again
pub record Served (can : ℕ → Bool) (before later : List ℕ) (c : Call) (a : Answer) : Type 0 where
  pub left : state later ≡ next can (state before) c
  pub said : a ≡ says can (state before) c
  pub sound : Sound later
  pub limit : limit_in later ≡ limit_in before

-- The bytes of an answer. A call that is taken has the desk's answer written from the start on, and the result is how many bytes it has;
-- of a call that is turned away the result is the refusal that the desk says, and the bytes are as they were.
abbrev pub Said : (ℕ → Bool) → List ℕ → Call → List ℕ → List ℕ → Result ℕ Refusal → Type 0
Said can ws c before bytes (Ok k) =
    (refusal (limits_of can (limit_in ws)) (family_in ws) c ≡ 0) × (bytes ≡ written 0 (answer_bytes (says can (state ws) c)) before) × (k ≡ length (answer_bytes (says can (state ws) c)))
Said can ws c before bytes (Err e) = (refused (refusal_number e) (refusal_place e) ≡ says can (state ws) c) × (bytes ≡ before)

-- a call on sound words, with its answer
pub record Replied (can : ℕ → Bool) (before later : List ℕ) (c : Call) (lent bytes : List ℕ) (r : Result ℕ Refusal) : Type 0 where
  pub left : state later ≡ next can (state before) c
  pub said : Said can before c lent bytes r
  pub sound : Sound later
  pub limit : limit_in later ≡ limit_in before

-- a number written as the answer to a call that was answered by it; a refusal is handed on, with nothing written
abbrev pub Put : Result ℕ Refusal → List ℕ → List ℕ → Result ℕ Refusal → Type 0
Put (Ok n) before bytes r = (r ≡ Ok 5) × (bytes ≡ written 0 (answer_bytes (number n)) before)
Put (Err e) before bytes r = (r ≡ Err e) × (bytes ≡ before)

-- what opening for n persons answers, with so many words and bytes lent
abbrev pub opens : ℕ → ℕ → ℕ → Result (Unit {0}) Refusal
opens n words bytes = cond (nat_lt 4096 n) (Err TooManyPersons) (cond (nat_lt words (words_asked n) || nat_lt bytes (bytes_asked n)) (Err TooSmall) (Ok tt))

-- the memory that it leaves, at every stage
abbrev pub left_by : Result (Unit {0}) Refusal → List ℕ → ℕ → Memory
left_by (Ok u) ws n = (desk all_calls (drop (words_asked n) ws)).opened (limits_of all_calls n)
left_by (Err e) ws n = state ws

pub record Opened (before later : List ℕ) (bytes n : ℕ) (r : Result (Unit {0}) Refusal) : Type 0 where
  pub left : state later ≡ left_by r before n
  pub value : r ≡ opens n (length before) bytes
  pub sound : r ≡ Ok tt → Sound later × (bytes_asked (limit_in later) ≤ bytes)
