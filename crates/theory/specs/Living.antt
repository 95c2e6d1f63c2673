-- Which lines live, with nobody as the decedent. Assumes nothing: these are definitions.
use Rattle.std.specs.Prelude.{◌≡◌, ℕ, ◌<◌, Bool, ◌||◌, List, length}
use Rattle.law.specs.Family.{person, Family, children, some_of, line_lives, living_lines}
use Rattle.theory.specs.Families.{Ranked}

-- Past the last person stands nobody, so that nobody is the decedent here.
abbrev pub alive : Family → ℕ → Bool
alive f p = line_lives f (length f) p

-- the children of p whose lines live
abbrev pub lines_below : Family → ℕ → ℕ → List ℕ
lines_below f d p = living_lines f d (children f p)

-- Only one set of persons is such that somebody is in it exactly if they live or a child of theirs is in it: those whose lines live.
unfoldable pub LivingLinesAreOneSet : Type 0
LivingLinesAreOneSet =
    (f : Family) (rk : ℕ → ℕ) (T : ℕ → Bool) → Ranked f rk → ((p : ℕ) → p < length f → T p ≡ ((person f p).lives || some_of T (children f p))) →
    (p : ℕ) → p < length f → T p ≡ alive f p
