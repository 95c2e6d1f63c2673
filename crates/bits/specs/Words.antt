-- The bits of a word of 32, by their place: tested, inserted, removed. Assumes nothing.
use Rattle.std.specs.Prelude.{ℕ, ◌-◌, ◌/◌, ◌%◌, ◌^◌, Bool, ◌==◌, bit_and, bit_or}

unfoldable pub tested : ℕ → ℕ → Bool
tested w k = w / 2 ^ k % 2 == 1

unfoldable pub inserted : ℕ → ℕ → ℕ
inserted w k = bit_or w (2 ^ k)

unfoldable pub removed : ℕ → ℕ → ℕ
removed w k = bit_and w (2 ^ 32 - 1 - 2 ^ k)
