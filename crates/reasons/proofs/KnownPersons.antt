-- Persons given as 0 or one more than a number. Assumes nothing.
use Rattle.std.proofs.Common.{◌≡◌, ℕ, zero, suc, ◌-◌, ◌≤◌, Bool, [], ◌∷◌, ◌++◌, filter, Option, Some, None, SomeIff, sym, refl, ap, ◌∙◌, arith}
use Rattle.std.specs.List.{flat_map, filter_map}
use Rattle.std.proofs.lemmas.List.{append-nil}
use Rattle.law.specs.Family.{Family, known, parents}
use Rattle.reasons.specs.Estates.{side_in}

pub known_none : (k : ℕ) → k ≡ 0 → known k ≡ []
unfolding known
known_none k e = ap known e

pub known_some : (k : ℕ) → (k ≡ 0 → ⊥) → known k ≡ (k - 1) ∷ []
unfolding known
known_some zero h = absurd (h refl)
known_some (suc p) h = ap (λ q. q ∷ []) (let e : p ≡ suc p - 1 = omega arith in e)

-- the number of somebody given so, if there is somebody
abbrev pub linked : ℕ → Option ℕ
linked zero = None
linked (suc p) = Some p

pub linked_is : (k : ℕ) (r : Option ℕ) → SomeIff r (1 ≤ k) (k - 1) → r ≡ linked k
linked_is zero None h = refl
linked_is zero (Some x) h = absurd (let l = h.0 in omega arith)
linked_is (suc p) None h = absurd (h (omega arith))
linked_is (suc p) (Some x) h = ap Some (let e = h.1 in let z : x ≡ p = omega arith in z)

-- two parents
pub known_both : (m k : ℕ) → filter_map linked (m ∷ k ∷ []) ≡ known m ++ known k
unfolding known
known_both zero zero = refl
known_both zero (suc k) = refl
known_both (suc m) zero = refl
known_both (suc m) (suc k) = refl

module _ (s : ℕ → Bool) where
  pub side_none : (f : Family) (k : ℕ) → k ≡ 0 → side_in s f k ≡ []
  side_none f k e = ap (flat_map (λ p. filter s (parents f p))) (known_none k e)

  pub side_some : (f : Family) (k w : ℕ) → 1 ≤ k → w ≡ k - 1 → side_in s f k ≡ filter s (parents f w)
  side_some f k w h e =
      ap (flat_map (λ p. filter s (parents f p))) (known_some k (λ z. omega arith)) ∙ append-nil (filter s (parents f (k - 1))) ∙ ap (λ (p : ℕ). filter s (parents f p)) (sym e)
