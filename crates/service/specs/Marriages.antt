-- Who may wed. Assumes nothing: these are definitions.
use Rattle.std.specs.Prelude.{ℕ, Bool, not, ◌&&◌, ◌==◌}
use Rattle.law.specs.Family.{Person}

-- two different persons who live and have no spouse, given their numbers and themselves
abbrev pub may_wed : ℕ → Person → ℕ → Person → Bool
may_wed a p b q = not (a == b) && ((p.lives && q.lives) && (p.spouse == 0 && q.spouse == 0))
