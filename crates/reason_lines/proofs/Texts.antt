-- Text that is appended, one piece after the other. Assumes nothing.
use Rattle.std.proofs.Common.{◌≡◌, ℕ, ◌+◌, ◌<◌, ◌≤◌, List, [], ◌∷◌, ◌++◌, map, length, get_or, take, sym, refl, ap, ◌∙◌}
use Rattle.std.specs.List.{flat_map}
use Rattle.std.proofs.lemmas.List.{append_assoc, append-nil, take_more, take_all}
use Rattle.theory.proofs.Lists.{joined_append}

-- two pieces
pub two : (a b c p q : List ℕ) → b ≡ a ++ p → c ≡ b ++ q → c ≡ a ++ (p ++ q)
two a b c p q e h = h ∙ ap (λ x. x ++ q) e ∙ append_assoc a p q

-- a row of pieces: one more, and all
module _ {X : Type 0} (g : X → List ℕ) where
  pub row_more : (xs : List X) (i : ℕ) (x d : X) (entry before after : List ℕ) → i < length xs → x ≡ get_or xs i d → before ≡ entry ++ flat_map g (take i xs) → after ≡ before ++ g x →
      after ≡ entry ++ flat_map g (take (i + 1) xs)
  row_more xs i x d entry before after h e b a =
      two entry before after (flat_map g (take i xs)) (g x) b a
      ∙ ap (λ r. entry ++ r)
      (sym
      (ap (flat_map g) (take_more xs i d h ∙ ap (λ y. take i xs ++ (y ∷ [])) (sym e)) ∙ joined_append g (take i xs) (x ∷ []) ∙ ap (λ r. flat_map g (take i xs) ++ r) (append-nil (g x))))

  pub row_all : (xs : List X) (i : ℕ) (entry after : List ℕ) → length xs ≤ i → after ≡ entry ++ flat_map g (take i xs) → after ≡ entry ++ flat_map g xs
  row_all xs i entry after h a = a ∙ ap (λ r. entry ++ flat_map g r) (take_all i xs h)

pub joined_map : {X Y : Type 0} (g : Y → List ℕ) (k : X → Y) (xs : List X) → flat_map g (map k xs) ≡ flat_map (λ x. g (k x)) xs
joined_map g k [] = refl
joined_map g k (x ∷ xs) = ap (λ r. g (k x) ++ r) (joined_map g k xs)
