-- The children of somebody who are in a set: those of all persons who are their child and in it. Assumes nothing.
use Rattle.std.proofs.Common.{◌≡◌, ℕ, zero, suc, ◌+◌, Bool, true, false, cond, ◌&&◌, ◌||◌, List, ◌∷◌, length, filter, sym, refl, ap, ◌∙◌, arith}
use Rattle.std.specs.List.{range_with_len, list_any}
use Rattle.law.specs.Family.{Family, is_child, children_in, children, some_of}

module _ (s : ℕ → Bool) (f : Family) (p : ℕ) where
  abbrev pub child_in : ℕ → Bool
  child_in q = is_child f p q && s q

  some_from : (n c : ℕ) → some_of s (children_in f p n c) ≡ list_any child_in (range_with_len c n)
  unfolding some_of children_in
  some_from zero c = refl
  some_from (suc n) c =
      go (is_child f p c) (children_in f p n (suc c))
      ∙ ap (λ (t : Bool). child_in c || t) (some_from n (suc c) ∙ ap (λ (k : ℕ). list_any child_in (range_with_len k n)) (let e : suc c ≡ c + 1 = omega arith in e))
    where
      go : (t : Bool) (cs : List ℕ) → some_of s (cond t (c ∷ cs) cs) ≡ ((t && s c) || some_of s cs)
      go true cs = refl
      go false cs = refl

  kept_from : (n c : ℕ) → filter s (children_in f p n c) ≡ filter child_in (range_with_len c n)
  unfolding children_in
  kept_from zero c = refl
  kept_from (suc n) c =
      go (is_child f p c) (children_in f p n (suc c))
      ∙ ap (λ (xs : List ℕ). cond (child_in c) (c ∷ xs) xs) (kept_from n (suc c) ∙ ap (λ (k : ℕ). filter child_in (range_with_len k n)) (let e : suc c ≡ c + 1 = omega arith in e))
    where
      go : (t : Bool) (cs : List ℕ) → filter s (cond t (c ∷ cs) cs) ≡ cond (t && s c) (c ∷ filter s cs) (filter s cs)
      go true cs = refl
      go false cs = refl

  pub some_all : (n : ℕ) → length f ≡ n → list_any child_in (range_with_len 0 n) ≡ some_of s (children f p)
  some_all n e = ap (λ (k : ℕ). list_any child_in (range_with_len 0 k)) (sym e) ∙ sym (some_from (length f) 0)

  pub kept_all : (n : ℕ) → length f ≡ n → filter child_in (range_with_len 0 n) ≡ filter s (children f p)
  kept_all n e = ap (λ (k : ℕ). filter child_in (range_with_len 0 k)) (sym e) ∙ sym (kept_from (length f) 0)
