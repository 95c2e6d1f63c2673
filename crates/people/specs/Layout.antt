-- How a register lies in lent words. Assumes nothing: these are definitions.
use Rattle.std.specs.Prelude.{◌≡◌, ℕ, ◌+◌, ◌-◌, ◌*◌, ◌<◌, ◌≤◌, Bool, true, cond, not, ◌&&◌, ◌||◌, List, [], ◌∷◌, ◌++◌, map, length, take, drop, replicate, ◌==◌, nat_le, nat_lt, slice_index}
use Rattle.std.specs.List.{range_with_len}
use Rattle.law.specs.Family.{Person, Family, person}
use Rattle.rows.specs.Tables.{table}
use Rattle.bits.specs.Sets.{bit_row}
use Rattle.theory.specs.Living.{alive}
use Rattle.children.specs.Links.{link_row, next_place}

-- how many words a register for n persons asks for: 64 bytes for each, and 98,304 more
abbrev pub words_asked : ℕ → ℕ
words_asked n = 24576 + 16 * n

-- the words to work in: those behind the header of two words, the tables of persons and of links, and 128 words of bits
abbrev pub work_words : ℕ → ℕ
work_words n = 24446 + 8 * n

-- a person in four words: mother, father, 1 if they live, spouse
abbrev pub person_words : Person → List ℕ
person_words p = p.mother ∷ (p.father ∷ (cond p.lives 1 0 ∷ (p.spouse ∷ [])))

-- the person that four words from a place on hold
abbrev pub person_at : List ℕ → ℕ → Person
person_at ws i = record { mother = slice_index ws i; father = slice_index ws (i + 1); lives = not (slice_index ws (i + 2) == 0); spouse = slice_index ws (i + 3) }

abbrev pub person_row : Family → ℕ → List ℕ
person_row f p = person_words (person f p)

-- Memory with a limit of n persons, k of them there: the header, a table of persons, a table of the links to their children, the set of those whose lines live as bits,
-- words to work in, and what lies behind.
unfoldable pub laid : ℕ → ℕ → (ℕ → List ℕ) → (ℕ → List ℕ) → (ℕ → Bool) → List ℕ → List ℕ → List ℕ
laid n k persons links lives work rest = n ∷ (k ∷ (table n persons ++ (table n links ++ (bit_row 128 lives ++ (work ++ rest)))))

-- the memory of a family while a call works in it
abbrev pub working : ℕ → Family → List ℕ → List ℕ → List ℕ
working n f work rest = laid n (length f) (person_row f) (link_row f) (alive f) work rest

-- the memory of a family between calls: every word of it but the rest is a function of the limit and the family
abbrev pub image : ℕ → Family → List ℕ → List ℕ
image n f rest = working n f (replicate (work_words n) 0) rest

-- what words say: the limit, the number of persons, the persons, and what lies behind the register
abbrev pub limit_in : List ℕ → ℕ
limit_in ws = slice_index ws 0

abbrev pub count_in : List ℕ → ℕ
count_in ws = slice_index ws 1

-- the words of the links
abbrev pub links_in : List ℕ → List ℕ
links_in ws = take (4 * limit_in ws) (drop (2 + 4 * limit_in ws) ws)

-- the link from a parent's child to the next
abbrev pub next_link : List ℕ → ℕ → ℕ → ℕ
next_link ws parent child = slice_index (links_in ws) (next_place child ((person_at ws (2 + 4 * child)).mother == parent + 1))

unfoldable pub family_in : List ℕ → Family
family_in ws = map (λ p. person_at ws (2 + 4 * p)) (range_with_len 0 (count_in ws))

abbrev pub rest_in : List ℕ → List ℕ
rest_in ws = drop (words_asked (limit_in ws)) ws

-- parents whom person p may have: each unknown or of a smaller number, and not the same
abbrev pub parents_fit : ℕ → ℕ → ℕ → Bool
parents_fit p m d = nat_le m p && (nat_le d p && (m == 0 || not (m == d)))

-- a spouse whom p may have among n persons: none, or another of them, whose own spouse is p
abbrev pub spouse_fits : ℕ → ℕ → ℕ → ℕ → Bool
spouse_fits n p s back = s == 0 || (nat_lt (s - 1) n && (not (s - 1 == p) && back == p + 1))

abbrev pub person_fits : Family → ℕ → Bool
person_fits f p =
    parents_fit p (person f p).mother (person f p).father && spouse_fits (length f) p (person f p).spouse (person f ((person f p).spouse - 1)).spouse

abbrev pub Valid : Family → Type 0
Valid f = (p : ℕ) → p < length f → person_fits f p ≡ true

-- words whose header fits them: what a call needs to be safe
abbrev pub Roomy : List ℕ → Type 0
Roomy ws = (words_asked (limit_in ws) ≤ length ws) × (count_in ws ≤ limit_in ws) × (limit_in ws ≤ 4096)

-- words that are the memory of a valid family
abbrev pub Sound : List ℕ → Type 0
Sound ws = (ws ≡ image (limit_in ws) (family_in ws) (rest_in ws)) × Roomy ws × Valid (family_in ws)
