-- How the set of persons whose lines live is kept as somebody begins or ceases to live. Assumes nothing: these are definitions.
use Rattle.std.specs.Prelude.{ℕ, zero, suc, Bool, false, cond, not, ◌&&◌, ◌||◌, length}
use Rattle.law.specs.Family.{person, Family, children, some_of}
use Rattle.bits.specs.Sets.{with_member, without_member}

-- p lives, or a child of p is in the set
abbrev pub supported : Family → (ℕ → Bool) → ℕ → Bool
supported f s p = (person f p).lives || some_of s (children f p)

-- somebody in the set, given as 0 or one more than a number, whom nothing keeps there any more
abbrev pub unsupported : Family → (ℕ → Bool) → ℕ → Bool
unsupported f s zero = false
unsupported f s (suc p) = s p && not (supported f s p)

-- The set with somebody, given likewise, and all forebears, stopping at those who are in it. The first number bounds the steps up.
unfoldable pub raised : ℕ → Family → ℕ → (ℕ → Bool) → ℕ → Bool
raised zero f link s = s
raised (suc n) f zero s = s
raised (suc n) f (suc p) s = cond (s p) s (raised n f (person f p).father (raised n f (person f p).mother (with_member s p)))

-- the set without somebody, given likewise, and then without whom g takes out for them
abbrev pub taken_out : (ℕ → (ℕ → Bool) → ℕ → Bool) → ℕ → (ℕ → Bool) → ℕ → Bool
taken_out g zero s = s
taken_out g (suc p) s = g p (without_member s p)

-- the set without the first parent of p whom nothing keeps in it
abbrev pub parent_out : (ℕ → (ℕ → Bool) → ℕ → Bool) → Family → ℕ → (ℕ → Bool) → ℕ → Bool
parent_out g f p s =
    cond (unsupported f s (person f p).mother) (taken_out g (person f p).mother s)
    (cond (unsupported f s (person f p).father) (taken_out g (person f p).father s) s)

-- The set after p was taken out of it: without p's parents, and theirs, as far as nothing keeps them. The first number bounds the steps up.
unfoldable pub lowered : ℕ → Family → ℕ → (ℕ → Bool) → ℕ → Bool
lowered zero f p s = s
lowered (suc n) f p s = parent_out (λ q t. lowered n f q t) f p (parent_out (λ q t. lowered n f q t) f p s)

-- so many of p's parents looked at
unfoldable pub parents_out : ℕ → ℕ → Family → ℕ → (ℕ → Bool) → ℕ → Bool
parents_out zero n f p s = s
parents_out (suc turn) n f p s = parent_out (λ q t. lowered n f q t) f p (parents_out turn n f p s)

-- the set after somebody began to live, and after they ceased to
abbrev pub begun : Family → ℕ → (ℕ → Bool) → ℕ → Bool
begun f p s = raised (length f) f (suc p) s

abbrev pub ended : Family → ℕ → (ℕ → Bool) → ℕ → Bool
ended f p s = cond (unsupported f s (suc p)) (lowered (length f) f p (without_member s p)) s
