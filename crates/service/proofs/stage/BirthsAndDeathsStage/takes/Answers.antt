use Rattle.std.proofs.Common.{◌≡◌, ℕ, false, ⊎_elim, refl}
use Rattle.law.specs.Calls.{call_number}
use Rattle.law.specs.Promise.{births_and_deaths}
use Rattle.wire.specs.Bytes.{call_of}
use Rattle.wire.specs.declared.Request.{Request}
use Rattle.wire.specs.declared.Request.TheVariants.{Born, Wed, Parted, Dies, EstateOf}
use Rattle.service.proofs.stage.BirthsAndDeathsStage.takes.Goals as goal

other_calls : (q : Request) → ((m d : ℕ) → q ≡ Born m d → ⊥) → ((a : ℕ) → q ≡ Dies a → ⊥) → false ≡ births_and_deaths (call_number (call_of q))
unfolding call_number
other_calls (Born m d) birth death = absurd (birth m d refl)
other_calls (Wed a b) birth death = refl
other_calls (Parted a) birth death = refl
other_calls (Dies a) birth death = absurd (death a refl)
other_calls (EstateOf a) birth death = refl

pub returns-in_default : goal.returns-in_default
returns-in_default c = other_calls c.args.request.now c.in_default.not-Born c.in_default.not-Dies

pub returns-in-Born : goal.returns-in-Born
unfolding call_number
returns-in-Born c = ⊎_elim (λ e. rw e.2 refl) (λ e. rw e.1 refl) c.in-Born.is

pub returns-in-Born-2 : goal.returns-in-Born-2
unfolding call_number
returns-in-Born-2 c = ⊎_elim (λ e. rw e.2 refl) (λ e. rw e.1 refl) c.in-Born.is
