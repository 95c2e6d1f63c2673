-- The refusals by their numbers and places. Assumes nothing: these are definitions.
use Rattle.std.specs.Prelude.{◌≡◌, ℕ, Ok, Err, Result}
use Rattle.law.specs.Calls.{Answer, refused, number}
use Rattle.wire.specs.declared.Unreadable as wire
use Rattle.service.specs.declared.refusal.Refusal.{Refusal}
use Rattle.service.specs.declared.refusal.Refusal.TheVariants.{Unreadable, NotTaken, TooManyPersons, TooSmall, NotThere, NotAllowed, BeyondLimit}

-- the refusal of bytes that are no call
abbrev pub IsOf : wire.Unreadable → Refusal → Type 0
IsOf e r = r ≡ Unreadable e.at

abbrev pub refusal_number : Refusal → ℕ
refusal_number (Unreadable p) = 1
refusal_number NotTaken = 2
refusal_number TooManyPersons = 3
refusal_number TooSmall = 3
refusal_number NotThere = 4
refusal_number NotAllowed = 5
refusal_number BeyondLimit = 6

abbrev pub refusal_place : Refusal → ℕ
refusal_place (Unreadable p) = p
refusal_place NotTaken = 0
refusal_place TooManyPersons = 0
refusal_place TooSmall = 1
refusal_place NotThere = 0
refusal_place NotAllowed = 0
refusal_place BeyondLimit = 0

-- the answer that a number or a refusal is
abbrev pub outcome : Result ℕ Refusal → Answer
outcome (Ok n) = number n
outcome (Err r) = refused (refusal_number r) (refusal_place r)
