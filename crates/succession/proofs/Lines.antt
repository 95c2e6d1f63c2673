-- Forebears, given as 0 or one more than a number: how many lines live, and whose parents are there. Assumes nothing.
use Rattle.std.proofs.Common.{◌≡◌, ℕ, zero, suc, ◌+◌, ◌<◌, Bool, true, false, cond, [], ◌∷◌, ◌++◌, length, Some, None, filter, Option, sym, refl, ap, ◌∙◌, ⊎_elim, arith, ◌≤◌, ◌⊎◌, MatchOption}
use Rattle.std.specs.Int.{from_bool}
use Rattle.std.proofs.lemmas.List.{length-append}
use Rattle.std.proofs.lemmas.List.Elements.{filter-append}
use Rattle.law.specs.Family.{Family, known}
use Rattle.living.specs.Places.{ParentsThere}
use Rattle.succession.specs.Orders.{line_in, parents_at}

-- what a test says of somebody, given as 0 or one more than a number, where it is asked only of those within the limit
pub tested :
    (s : ℕ → Bool) (limit link : ℕ) (o : Option ℕ) (r : Bool) {P : ℕ → Type 0} → link ≤ limit → MatchOption o ((link ≡ 0) ⊎ (limit < link)) (λ p. (link ≡ suc p) × (p < limit)) →
    MatchOption o (r ≡ false) P → ((p : ℕ) → P p → r ≡ s p) → r ≡ line_in s link
tested s limit link None r le met said says = said ∙ sym (ap (λ z. line_in s z) (⊎_elim (λ z. z) (λ z. absurd (omega arith)) met))
tested s limit link (Some p) r le met said says = says p said ∙ sym (ap (λ z. line_in s z) met.0)

-- one forebear, given as 0 or one more than a number
pub at_most_one : (b : Bool) → from_bool b ≤ 1
at_most_one true = omega arith
at_most_one false = omega arith

length-known : (s : ℕ → Bool) (link : ℕ) → length (filter s (known link)) ≡ from_bool (line_in s link)
unfolding known
length-known s zero = refl
length-known s (suc p) = go (s p)
  where
    go : (b : Bool) → length (cond b (p ∷ []) []) ≡ from_bool b
    go true = refl
    go false = refl

pub length-forebears : (s : ℕ → Bool) (a b : ℕ) → length (filter s (known a ++ known b)) ≡ from_bool (line_in s a) + from_bool (line_in s b)
length-forebears s a b =
    ap length (filter-append s (known a) (known b)) ∙ length-append (filter s (known a)) (filter s (known b)) ∙ (λ i. length-known s a i + length-known s b i)

-- somebody's parents are there
pub parents_within : (f : Family) (n link : ℕ) → ParentsThere f n → ((parents_at f link).mother ≤ n) × ((parents_at f link).father ≤ n)
parents_within f n zero there = (omega arith, omega arith)
parents_within f n (suc p) there = there p
