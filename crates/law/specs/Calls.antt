-- Calls on a register of families, what turns a call away, and what may be answered. Assumes nothing: these are definitions.
use Rattle.std.specs.Prelude.{◌≡◌, ℕ, zero, suc, ◌+◌, ◌-◌, ◌*◌, ◌/◌, ◌%◌, ◌<◌, Bool, true, false, cond, not, ◌&&◌, ◌||◌, List, [], ◌∷◌, ◌++◌, length, ◌==◌, nat_le, nat_lt, slice_set}
use Rattle.law.specs.Family.{Person, person, Family, Part, estate}

pub data Call : Type 0 where
  born : ℕ → ℕ → Call  -- mother and father, each 0 or one more than a number
  wed : ℕ → ℕ → Call
  parted : ℕ → Call
  dies : ℕ → Call
  estate_of : ℕ → Call  -- of somebody, as if they had died now
  unreadable : ℕ → Call  -- bytes that are no call, and the place of the first that doesn't fit

-- an heir's share: up by down of the estate
pub record Share : Type 0 where
  pub who : ℕ
  pub up : ℕ
  pub down : ℕ

pub data Answer : Type 0 where
  refused : ℕ → ℕ → Answer  -- a refusal's number, and its place
  number : ℕ → Answer
  shares : List Share → Answer

-- the calls that a register takes, by their numbers, and how many persons it has room for
pub record Limits : Type 0 where
  pub calls_can : ℕ → Bool
  pub persons : ℕ

unfoldable pub call_number : Call → ℕ
call_number (born m f) = 0
call_number (wed a b) = 1
call_number (parted a) = 2
call_number (dies a) = 3
call_number (estate_of a) = 4
call_number (unreadable n) = 255

abbrev pub there : Family → ℕ → Bool
there f p = nat_lt p (length f)

abbrev pub unmarried : Family → ℕ → Bool
unmarried f p = (person f p).spouse == 0

-- the greatest common divisor by Euclid's steps, of which as many as b are enough
unfoldable pub gcd_in : ℕ → ℕ → ℕ → ℕ
gcd_in zero a b = a
gcd_in (suc n) a zero = a
gcd_in (suc n) a (suc b) = gcd_in n (suc b) (a % suc b)

abbrev pub gcd : ℕ → ℕ → ℕ
gcd a b = gcd_in (suc b) a b

-- the least common multiple of n and the numbers of all parts; 0 once it isn't below 2 to the 32nd
unfoldable pub common_multiple : List Part → ℕ → ℕ
common_multiple [] n = n
common_multiple (p ∷ ps) n = cond (nat_lt ((n / gcd n p.by) * p.by) 4294967296) (common_multiple ps ((n / gcd n p.by) * p.by)) 0

-- The number of the refusal that applies to a call that the register takes, 0 where none does:
-- 1 the bytes are no call; 4 somebody is not there, or the mother is the father; 5 marriage or death don't allow it; 6 beyond a limit.
unfoldable pub refusal_of : Limits → Family → Call → ℕ
refusal_of l f (born m d) = cond (nat_le m (length f) && (nat_le d (length f) && (m == 0 || not (m == d)))) (cond (nat_lt (length f) l.persons) 0 6) 4
refusal_of l f (wed a b) =
    cond (there f a && there f b) (cond (not (a == b) && (((person f a).lives && (person f b).lives) && (unmarried f a && unmarried f b))) 0 5) 4
refusal_of l f (parted a) = cond (there f a) (cond (unmarried f a) 5 0) 4
refusal_of l f (dies a) = cond (there f a) (cond (person f a).lives 0 5) 4
refusal_of l f (estate_of a) = cond (there f a) (cond (nat_le (length (estate f a)) 4096 && not (common_multiple (estate f a) 1 == 0)) 0 6) 4
refusal_of l f (unreadable n) = 1

-- The first refusal that applies to any call, 0 where none does: 2 is for calls that the register doesn't take.
abbrev pub refusal : Limits → Family → Call → ℕ
refusal l f c = cond (call_number c == 255 || l.calls_can (call_number c)) (refusal_of l f c) 2

-- the place of a refusal
unfoldable pub place : Call → ℕ
place (unreadable k) = k
place (born m f) = 0
place (wed a b) = 0
place (parted a) = 0
place (dies a) = 0
place (estate_of a) = 0

-- what a call that is taken makes of the family
abbrev pub newborn : ℕ → ℕ → Person
newborn m d = record { mother = m; father = d; lives = true; spouse = 0 }

abbrev pub with_spouse : Person → ℕ → Person
with_spouse p s = record { mother = p.mother; father = p.father; lives = p.lives; spouse = s }

abbrev pub dead : Person → Person
dead p = record { mother = p.mother; father = p.father; lives = false; spouse = p.spouse }

unfoldable pub changed : Family → Call → Family
changed f (born m d) = f ++ (newborn m d ∷ [])
changed f (wed a b) = slice_set (slice_set f a (with_spouse (person f a) (suc b))) b (with_spouse (person f b) (suc a))
changed f (parted a) = slice_set (slice_set f a (with_spouse (person f a) 0)) ((person f a).spouse - 1) (with_spouse (person f ((person f a).spouse - 1)) 0)
changed f (dies a) = slice_set f a (dead (person f a))
changed f (estate_of a) = f
changed f (unreadable n) = f

-- the family after any call: a call that is turned away changes nothing
abbrev pub after : Limits → Family → Call → Family
after l f c = cond (refusal l f c == 0) (changed f c) f

-- If the estate is n pieces, for an n that the number of each part divides: how many somebody has, and all together.
unfoldable pub divides_all : ℕ → List Part → Bool
divides_all n [] = true
divides_all n (p ∷ ps) = n % p.by == 0 && divides_all n ps

unfoldable pub pieces : ℕ → List Part → ℕ → ℕ
pieces n [] w = 0
pieces n (p ∷ ps) w = cond (p.who == w) (n / p.by) 0 + pieces n ps w

unfoldable pub all_pieces : ℕ → List Part → ℕ
all_pieces n [] = 0
all_pieces n (p ∷ ps) = n / p.by + all_pieces n ps

-- heirs by number, each once, none with nothing
unfoldable pub in_order : List Share → Bool
in_order [] = true
in_order (s ∷ []) = nat_lt 0 s.up && nat_lt 0 s.down
in_order (s ∷ (t ∷ ts)) = (nat_lt 0 s.up && (nat_lt 0 s.down && nat_lt s.who t.who)) && in_order (t ∷ ts)

-- the share of somebody, which is nothing for whom no share names
unfoldable pub share_of : List Share → ℕ → Share
share_of [] w = record { who = w; up = 0; down = 1 }
share_of (s ∷ ss) w = cond (s.who == w) s (share_of ss w)

abbrev pub lowest : Share → Type 0
lowest s = (k a b : ℕ) → s.up ≡ k * a → s.down ≡ k * b → k ≡ 1

-- Shares that are as the parts are: in order, in lowest terms, and for everybody exactly what all their parts come to.
abbrev pub as_parts : List Part → List Share → Type 0
as_parts ps ss =
    (in_order ss ≡ true) × ((w : ℕ) → lowest (share_of ss w))
    × ((n w : ℕ) → 0 < n → divides_all n ps ≡ true → (share_of ss w).up * n ≡ pieces n ps w * (share_of ss w).down)

-- what may be answered to a call that is taken
unfoldable pub may_say : Family → Call → Answer → Type 0
may_say f (born m d) a = a ≡ number (length f)
may_say f (wed x y) a = a ≡ number x
may_say f (parted x) a = a ≡ number ((person f x).spouse - 1)
may_say f (dies x) a = a ≡ number x
may_say f (estate_of x) a = (ss : List Share) × (a ≡ shares ss) × as_parts (estate f x) ss
may_say f (unreadable n) a = ⊥

-- what may be answered to any call: a call that is turned away is answered by its refusal
unfoldable pub right_if : Bool → Limits → Family → Call → Answer → Type 0
right_if true l f c a = may_say f c a
right_if false l f c a = a ≡ refused (refusal l f c) (place c)

abbrev pub right : Limits → Family → Call → Answer → Type 0
right l f c a = right_if (refusal l f c == 0) l f c a
