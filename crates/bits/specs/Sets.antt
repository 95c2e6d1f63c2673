-- Sets of numbers, and the words whose bits say who is a member. Assumes nothing.
use Rattle.std.specs.Prelude.{ℕ, zero, suc, ◌+◌, ◌-◌, ◌*◌, ◌/◌, ◌%◌, Bool, true, false, cond, List, map, filter, ◌==◌, slice_index}
use Rattle.std.specs.List.{range_with_len}
use Rattle.bits.specs.Words.{tested}

abbrev pub with_member : (ℕ → Bool) → ℕ → ℕ → Bool
with_member s p q = cond (q == p) true (s q)

abbrev pub without_member : (ℕ → Bool) → ℕ → ℕ → Bool
without_member s p q = cond (q == p) false (s q)

abbrev pub no_member : ℕ → Bool
no_member q = false

-- k bits for the numbers from a on, the lowest first
unfoldable pub packed : (ℕ → Bool) → ℕ → ℕ → ℕ
packed s a zero = 0
packed s a (suc k) = cond (s a) 1 0 + 2 * packed s (suc a) k

-- word i of a set: its bit k is member 32 * i + k
unfoldable pub word_of : (ℕ → Bool) → ℕ → ℕ
word_of s i = packed s (32 * i) 32

-- the first m words of a set
unfoldable pub bit_row : ℕ → (ℕ → Bool) → List ℕ
bit_row m s = map (word_of s) (range_with_len 0 m)

-- whether p is a member of the set whose words lie in a row from a place on
abbrev pub member_in : List ℕ → ℕ → ℕ → Bool
member_in row at p = tested (slice_index row (at + p / 32)) (p % 32)

-- the members from one number up to another, in their order
unfoldable pub members : (ℕ → Bool) → ℕ → ℕ → List ℕ
members s from end = filter s (range_with_len from (end - from))
