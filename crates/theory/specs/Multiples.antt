-- Numbers that divide others, and the least that all parts divide. Assumes nothing: these are definitions.
use Rattle.std.specs.Prelude.{◌≡◌, ℕ, ◌*◌, ◌/◌, ◌<◌, ◌≤◌, true, ◌≢◌, List}
use Rattle.law.specs.Family.{Part}
use Rattle.law.specs.Calls.{gcd, common_multiple, divides_all}

abbrev pub Divides : ℕ → ℕ → Type 0
Divides k n = (z : ℕ) × (n ≡ k * z)

-- nothing but 1 divides both
abbrev pub Coprime : ℕ → ℕ → Type 0
Coprime a b = (k x y : ℕ) → a ≡ k * x → b ≡ k * y → k ≡ 1

-- the least number that both divide
abbrev pub lcm : ℕ → ℕ → ℕ
lcm a b = a / gcd a b * b

-- common_multiple ps 1 is the least number that all parts divide, or that number is not below 2 to the 32nd.
unfoldable pub LeastMultiple : Type 0
LeastMultiple =
    (ps : List Part) →
    (common_multiple ps 1 ≢ 0 →
    (divides_all (common_multiple ps 1) ps ≡ true) × (common_multiple ps 1 < 4294967296) × ((n : ℕ) → divides_all n ps ≡ true → Divides (common_multiple ps 1) n))
    × (common_multiple ps 1 ≡ 0 → (n : ℕ) → 0 < n → divides_all n ps ≡ true → 4294967296 ≤ n)
