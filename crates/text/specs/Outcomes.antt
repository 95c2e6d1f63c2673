-- What the results of the code are. Assumes nothing: these are definitions.
use Rattle.std.specs.Prelude.{◌≡◌, ℕ, ◌≢◌, List, [], ◌∷◌, ◌++◌, Some, None, Ok, Err, Result}
use Rattle.law.specs.Family as law
use Rattle.people.specs.Persons.{law_person}
use Rattle.people.specs.declared.Person.{Person}
use Rattle.lines.specs.Words.{cut}
use Rattle.lines.specs.Grammar.{said_by}
use Rattle.lines.specs.declared.Entry.{Entry}
use Rattle.text.specs.declared.Reason.{Reason}
use Rattle.text.specs.declared.Fault.{Fault}
use Rattle.text.specs.declared.Failure.{Failure}
use Rattle.text.specs.declared.Failure.TheVariants.{Line, NoMemory}
use Rattle.text.specs.Reading.{fault, Next}

-- l is the first line of bs with its end, or all of bs where it has none, and rest is behind it
pub record FirstLine (bs l rest : List ℕ) : Type 0 where
  pub ended : (x : List ℕ) → l ≡ x ++ (10 ∷ []) → Some (record { before = x; behind = rest }) ≡ cut (10 ∷ []) bs
  pub open_end : ((x : List ℕ) → l ≢ x ++ (10 ∷ [])) → None ≡ cut (10 ∷ []) bs

-- an entry that was read, and what is behind it
abbrev pub next_said : List ℕ → Result Entry Reason → Result Next Reason
next_said rest (Ok e) = Ok (record { line = said_by e; rest = rest })
next_said rest (Err r) = Err r

abbrev pub person_said : Result Person Reason → Result law.Person Reason
person_said (Ok p) = Ok (law_person p)
person_said (Err r) = Err r

-- the number of a line beside the reason why it is refused
abbrev pub with_line : {X : Type 0} → ℕ → Result X Reason → Result X Fault
with_line i (Ok x) = Ok x
with_line i (Err r) = Err (fault i r)

-- the family that is left where spouses agree
abbrev pub answer_said : Result (Unit {0}) Reason → law.Family → Result law.Family Reason
answer_said (Ok x) f = Ok f
answer_said (Err r) f = Err r

abbrev pub agree_said : Result (Unit {0}) Fault → law.Family → Result law.Family Fault
agree_said (Ok x) f = Ok f
agree_said (Err r) f = Err r

-- the result is what r says; for want of memory nothing is said
abbrev pub Told : {X Y : Type 0} → (X → Y) → Result X Failure → Result Y Fault → Type 0
Told g (Ok x) r = Ok (g x) ≡ r
Told g (Err (Line e)) r = Err e ≡ r
Told g (Err NoMemory) r = Unit {0}
