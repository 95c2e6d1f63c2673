use Rattle.living.proofs.+raise.Given as goal

abbrev pub decreases-raise : goal.decreases-raise
decreases-raise l = l.steps
