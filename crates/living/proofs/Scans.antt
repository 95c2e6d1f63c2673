-- Walking along somebody's children: whether one is in the set, and that all were met. Assumes nothing.
use Rattle.std.proofs.Common.{◌≡◌, ℕ, suc, ◌-◌, ◌<◌, ◌≤◌, Bool, ◌||◌, ◌⊎◌, List, [], ◌∷◌, length, drop, refl, ap, ⊎_elim, arith}
use Rattle.std.specs.List.{list_any}
use Rattle.law.specs.Family.{Family, children, some_of}
use Rattle.children.specs.Links.{first_of}
use Rattle.children.proofs.Children.{length-children}
use Rattle.children.proofs.Walks.{walk_child, walk_end}

-- a child in the set, by the word of the library
pub some_any : (s : ℕ → Bool) (cs : List ℕ) → list_any s cs ≡ some_of s cs
unfolding some_of
some_any s [] = refl
some_any s (c ∷ cs) = ap (λ b. s c || b) (some_any s cs)

-- all children were met: the links led to nobody more, or there were as many turns as persons
pub walk_all :
    (f : Family) (p i n link : ℕ) → length f ≤ n → link ≡ first_of (drop i (children f p)) → (length f ≤ i) ⊎ ((link ≡ 0) ⊎ (n < link)) → length (children f p) ≤ i
walk_all f p i n link room inv end =
    ⊎_elim (λ (h : length f ≤ i). let l = length-children f p in omega arith)
    (λ (h : (link ≡ 0) ⊎ (n < link)).
    ⊎_elim (λ (z : link ≡ 0). walk_end f p i link inv z)
    (λ (z : n < link). let d : link ≡ suc (link - 1) = omega arith in let w = (walk_child f p i link (link - 1) inv d).2 in absurd (omega arith)) h)
    end
