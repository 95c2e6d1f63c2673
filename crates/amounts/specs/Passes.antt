-- Passes over persons who are below one another, along a listing of them, with a row of numbers in which each person has a place.
-- `below` gives for each person those among whom what comes to them is divided: none for whoever has it themself. Assumes nothing: these are definitions.
use Rattle.std.specs.Prelude.{◌≡◌, ℕ, zero, suc, ◌+◌, ◌*◌, ◌/◌, Bool, true, false, cond, List, [], ◌∷◌, map, length, sum_by, nat_eq, nat_le, nat_lt, slice_index, slice_set}
use Rattle.std.specs.List.{AllByRecursion}
use Rattle.law.specs.Family.{some_of, Part}
use Rattle.law.specs.Calls.{common_multiple}

-- whether somebody is in a list
abbrev pub is_in : ℕ → List ℕ → Bool
is_in p ps = some_of (λ q. nat_eq p q) ps

-- several are listed, one after the other
unfoldable pub all_listed : (ℕ → List ℕ → List ℕ) → List ℕ → List ℕ → List ℕ
all_listed g [] out = out
all_listed g (c ∷ cs) out = all_listed g cs (g c out)

-- Somebody is put in front of a list when all below them are in it, so that they come before those; whoever is in it already is passed over.
-- The first number bounds the steps down.
unfoldable pub listed_in : ℕ → (ℕ → List ℕ) → ℕ → List ℕ → List ℕ
listed_in zero below p out = out
listed_in (suc n) below p out = cond (is_in p out) out (p ∷ all_listed (λ c o. listed_in n below c o) (below p) out)

-- these persons and all below them
abbrev pub listed : ℕ → (ℕ → List ℕ) → List ℕ → List ℕ
listed n below ps = all_listed (λ p o. listed_in n below p o) ps []

-- each is there once, and before all who are below them
unfoldable pub InDescentOrder : (ℕ → List ℕ) → List ℕ → Type 0
InDescentOrder below [] = Unit {0}
InDescentOrder below (q ∷ qs) = (is_in q qs ≡ false) × AllByRecursion (λ c. is_in c qs ≡ true) (below q) × InDescentOrder below qs

-- Upward: from the last of a list to the first, each one's number is worked out from the numbers of those below them.
unfoldable pub filled_up : (List ℕ → List ℕ → ℕ) → (ℕ → List ℕ) → List ℕ → List ℕ → List ℕ
filled_up step below [] row = row
filled_up step below (q ∷ qs) row = slice_set (filled_up step below qs row) q (step (below q) (filled_up step below qs row))

-- how many parts, where more than 4,096 are 4,097
abbrev pub few : ℕ → ℕ
few k = cond (nat_le k 4096) k 4097

-- the number of parts of a line: one for whoever has it themself, else those of all lines below together
unfoldable pub count_step : List ℕ → List ℕ → ℕ
count_step [] row = 1
count_step (c ∷ cs) row = few (sum_by (λ p. slice_index row p) (c ∷ cs))

-- a number, where one that isn't below 2 to the 32nd is 0
abbrev pub word_or_zero : ℕ → ℕ
word_or_zero n = cond (nat_lt n 4294967296) n 0

-- persons with their numbers in a row, as parts
abbrev pub numbered : List ℕ → List ℕ → List Part
numbered row ps = map (λ p. record { who = p; by = slice_index row p }) ps

-- the least multiple of a line: 1 for whoever has it themself, else k times the least common multiple of those of the k lines below; 0 once it isn't below 2 to the 32nd
unfoldable pub multiple_step : List ℕ → List ℕ → ℕ
multiple_step [] row = 1
multiple_step (c ∷ cs) row = word_or_zero (suc (length cs) * common_multiple (numbered row (c ∷ cs)) 1)

-- so many pieces more for each of several
unfoldable pub added_each : List ℕ → ℕ → List ℕ → List ℕ
added_each [] more row = row
added_each (c ∷ cs) more row = added_each cs more (slice_set row c (slice_index row c + more))

-- whoever has others below hands on all their pieces, equally
unfoldable pub handed_on : List ℕ → ℕ → List ℕ → List ℕ
handed_on [] q row = row
handed_on (c ∷ cs) q row = added_each (c ∷ cs) (slice_index row q / suc (length cs)) (slice_set row q 0)

-- Downward: from the first of a list to the last, each hands on.
unfoldable pub handed_down : (ℕ → List ℕ) → List ℕ → List ℕ → List ℕ
handed_down below [] row = row
handed_down below (q ∷ qs) row = handed_down below qs (handed_on (below q) q row)

-- the pieces that lines begin with: so many times one by the line's number of n pieces
unfoldable pub started : ℕ → ℕ → List Part → List ℕ → List ℕ
started times n [] row = row
started times n (s ∷ ss) row = started times n ss (slice_set row s.who (slice_index row s.who + times * (n / s.by)))

-- the places of several are 0 again
unfoldable pub cleared : List ℕ → List ℕ → List ℕ
cleared [] row = row
cleared (q ∷ qs) row = cleared qs (slice_set row q 0)

-- how many parts the lines that an estate begins with have together, by a row of numbers of parts
abbrev pub starts_count : List ℕ → List Part → ℕ
starts_count counts ss = sum_by (λ (s : Part). slice_index counts s.who) ss

-- the least multiple of each line that an estate begins with, times its number, by a row of multiples; 0 once it isn't below 2 to the 32nd
abbrev pub starts_numbers : List ℕ → List Part → List Part
starts_numbers multiples ss = map (λ (s : Part). record { who = s.who; by = word_or_zero (s.by * slice_index multiples s.who) }) ss
