-- The shares that parts come to: heirs by number, in lowest terms. Assumes nothing: these are definitions.
use Rattle.std.specs.Prelude.{ℕ, suc, ◌/◌, max, ◌≢◌, List, [], ◌∷◌, map, filter, nat_lt}
use Rattle.std.specs.List.{range_with_len}
use Rattle.law.specs.Family.{Part}
use Rattle.law.specs.Calls.{Share, gcd, common_multiple, pieces, as_parts}

-- k of n pieces, in lowest terms
abbrev pub lowest_share : ℕ → ℕ → ℕ → Share
lowest_share n k w = record { who = w; up = k / gcd k n; down = n / gcd k n }

-- the shares of those among the m persons from a on who have pieces, by number, where g says how many of n
abbrev pub shares_from : ℕ → (ℕ → ℕ) → ℕ → ℕ → List Share
shares_from n g a m = map (λ w. lowest_share n (g w) w) (filter (λ w. nat_lt 0 (g w)) (range_with_len a m))

-- one more than the greatest number of an heir
unfoldable pub above : List Part → ℕ
above [] = 0
above (p ∷ ps) = max (suc p.who) (above ps)

-- the shares of parts, as pieces of the least number that all parts divide
abbrev pub shares_of : List Part → List Share
shares_of ps = shares_from (common_multiple ps 1) (pieces (common_multiple ps 1) ps) 0 (above ps)

-- There is an answer wherever that number is below 2 to the 32nd.
unfoldable pub SharesExist : Type 0
SharesExist = (ps : List Part) → common_multiple ps 1 ≢ 0 → as_parts ps (shares_of ps)
