-- The lines that an estate begins with, put into memory as parts. Assumes nothing: these are definitions.
use Rattle.std.specs.Prelude.{◌≡◌, ℕ, ◌+◌, List, ◌++◌, length}
use Rattle.law.specs.Family.{Family, Part}
use Rattle.descent.specs.Going.{with_parts}

-- Starts were put behind parts, and how many there are then is said.
pub record PutBehind (n : ℕ) (f : Family) (spare rest : List ℕ) (ps row : List Part) (later : List ℕ) (r : ℕ) : Type 0 where
  pub words : later ≡ with_parts n f (ps ++ row) spare rest
  pub next : r ≡ length ps + length row
