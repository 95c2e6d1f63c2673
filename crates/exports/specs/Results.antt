-- What the exported functions give and leave. Assumes nothing: these are definitions.
use Rattle.std.specs.Prelude.{◌≡◌, ℕ, ◌+◌, ◌*◌, ◌<◌, ◌≤◌, List, length, ℤ, pos, neg_ℤ, Ok, Err, Result}
use Rattle.law.specs.Calls.{Call, Answer, refused, number, shares, refusal}
use Rattle.law.specs.Promise.{all_right, all_calls}
use Rattle.rows.specs.Written.{written}
use Rattle.wire.specs.Bytes.{answer_bytes}
use Rattle.people.specs.Layout.{limit_in, count_in, family_in, Sound}
use Rattle.service.specs.Desks.{limits, state, next, says, desk, bytes_asked}
use Rattle.service.specs.Refusals.{refusal_number, refusal_place}
use Rattle.service.specs.declared.refusal.Refusal.{Refusal}

-- A refusal as a signed number: less than 0 by its number times 2 to the 32nd, and its place.
abbrev pub signed_refusal : ℕ → ℕ → ℤ
signed_refusal n p = neg_ℤ (pos (n * 4294967296 + p))

-- what opening gives
abbrev pub signed_opening : Result (Unit {0}) Refusal → ℤ
signed_opening (Ok u) = pos 0
signed_opening (Err e) = signed_refusal (refusal_number e) (refusal_place e)

-- An answer as a signed number, and the lent bytes with it: how many bytes it has, which are written from the start on; or its refusal, with nothing written.
abbrev pub signed_answer : Answer → ℤ
signed_answer (refused n p) = signed_refusal n p
signed_answer (number n) = pos (length (answer_bytes (number n)))
signed_answer (shares ss) = pos (length (answer_bytes (shares ss)))

abbrev pub bytes_with : Answer → List ℕ → List ℕ
bytes_with (refused n p) before = before
bytes_with (number n) before = written 0 (answer_bytes (number n)) before
bytes_with (shares ss) before = written 0 (answer_bytes (shares ss)) before

-- words of a register, with bytes enough for its answers
abbrev pub Ready : List ℕ → ℕ → Type 0
Ready ws bytes = Sound ws × (bytes_asked (limit_in ws) ≤ bytes)

-- A call on such words: what it leaves and says is the desk's, a refusal changes nothing, and the words are a register's again.
pub record Called (before later : List ℕ) (c : Call) (lent bytes : List ℕ) (r : ℤ) : Type 0 where
  pub left : state later ≡ next all_calls (state before) c
  pub value : r ≡ signed_answer (says all_calls (state before) c)
  pub said : bytes ≡ bytes_with (says all_calls (state before) c) lent
  pub kept : 0 < refusal (limits (limit_in before)) (family_in before) c → later ≡ before
  pub ready : Ready later (length lent)

-- a refusal that comes before anything is looked at: all is as it was
pub record Untouched (before later : List ℕ) (lent bytes : List ℕ) (r : ℤ) (n p : ℕ) : Type 0 where
  pub value : r ≡ signed_refusal n p
  pub left : later ≡ before
  pub said : bytes ≡ lent

-- What the check gives: how many persons there are, exactly for the words of a register with bytes enough; for all other words refusal 7, and for too few bytes 3.
-- From words to which it says so, every list of calls is answered rightly.
pub record Checked (ws : List ℕ) (bytes : ℕ) (r : ℤ) : Type 0 where
  pub yes : Ready ws bytes → r ≡ pos (count_in ws)
  pub exact : (k : ℕ) → r ≡ pos k → Ready ws bytes
  pub no_register : (Sound ws → ⊥) → r ≡ signed_refusal 7 0
  pub too_small : Sound ws → bytes < bytes_asked (limit_in ws) → r ≡ signed_refusal 3 1
  pub promised : (k : ℕ) → r ≡ pos k → (rest : List ℕ) (cs : List Call) → all_right (desk all_calls rest) (limits (limit_in ws)) (state ws) (family_in ws) cs
