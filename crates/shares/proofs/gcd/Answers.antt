-- Each step keeps the greatest common divisor, and the last has it. Assumes nothing.
use Rattle.std.proofs.Common.{sym, ap, ◌∙◌, arith}
use Rattle.law.specs.Calls.{gcd}
use Rattle.theory.proofs.Multiples.{gcd_step, gcd_zero}
use Rattle.shares.proofs.gcd.Goals as goal

pub loop-y-preserved : goal.loop-y-preserved
loop-y-preserved c = sym (gcd_step c.loop-y.x c.loop-y.y (omega arith)) ∙ c.loop-y.invariant

pub returns : goal.returns
returns c =
    record { value = sym (gcd_zero c.loop-y.x) ∙ (ap (gcd c.loop-y.x) (sym c.loop-y-test.false) ∙ c.loop-y.invariant) }
