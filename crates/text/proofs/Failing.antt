-- A result that is a line's fault, or want of memory. Assumes nothing.
use Rattle.std.proofs.Common.{◌≡◌, Err, Result, sym, ap, ◌∙◌, subst}
use Rattle.text.specs.declared.Fault.{Fault}
use Rattle.text.specs.declared.Failure.{Failure}
use Rattle.text.specs.declared.Failure.TheVariants.{Line}
use Rattle.text.specs.Outcomes.{Told}

module _ {X Y : Type 0} (g : X → Y) (m : Result X Failure) (r : Result Y Fault) where
  pub told_line : (e : Fault) → ((x : Failure) × (m ≡ Err x) × (x ≡ Line e)) → Err e ≡ r → Told g m r
  told_line e p q = subst (λ (x : Result X Failure). Told g x r) (sym (p.1 ∙ ap Err p.2)) q
