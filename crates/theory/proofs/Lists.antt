-- Laws of some_of, joined and kept-by over rows of numbers and parts. Assumes nothing.
use Rattle.std.proofs.Common.{◌≡◌, ℕ, suc, ◌<◌, Bool, true, false, cond, not, ◌||◌, eqb, List, [], ◌∷◌, ◌++◌, length, filter, sym, refl, ap, ◌∙◌, ap₂, arith}
use Rattle.std.specs.List.{flat_map, AllByRecursion}
use Rattle.std.proofs.lemmas.List.{append_assoc}
use Rattle.std.proofs.ByRecursion.{All-append}
use Rattle.std.proofs.lemmas.Bool.{eqb-false, ne_eqb, not-true, not_from_false, or_parts, or_from, or_left, cond-false, cond_both}
use Rattle.law.specs.Family.{some_of}

-- two tests that are passed together
pub same_test : (a b : Bool) → (a ≡ true → b ≡ true) → (b ≡ true → a ≡ true) → a ≡ b
same_test true b p q = sym (p refl)
same_test false true p q = q refl
same_test false false p q = refl

-- what holds of each
pub all_any : {X : Type 0} (P : X → Type 0) → ((x : X) → P x) → (xs : List X) → AllByRecursion P xs
all_any P h [] = tt
all_any P h (x ∷ xs) = (h x, all_any P h xs)

pub all_both : {X : Type 0} (P Q R : X → Type 0) → ((x : X) → P x → Q x → R x) → (xs : List X) → AllByRecursion P xs → AllByRecursion Q xs → AllByRecursion R xs
all_both P Q R h [] a b = tt
all_both P Q R h (x ∷ xs) a b = (h x a.0 b.0, all_both P Q R h xs a.1 b.1)

pub all_one : {X : Type 0} (P : Type 0) (xs : List X) → 0 < length xs → AllByRecursion (λ (x : X). P) xs → P
all_one P [] l a = absurd (omega arith)
all_one P (x ∷ xs) l a = a.0

-- a test that is passed by some of a row
pub some_cong : (g h : ℕ → Bool) (cs : List ℕ) → AllByRecursion (λ c. g c ≡ h c) cs → some_of g cs ≡ some_of h cs
unfolding some_of
some_cong g h [] a = refl
some_cong g h (c ∷ cs) a = ap₂ (λ (x y : Bool). x || y) a.0 (some_cong g h cs a.1)

pub some_none : (g : ℕ → Bool) (cs : List ℕ) → AllByRecursion (λ c. g c ≡ false) cs → some_of g cs ≡ false
unfolding some_of
some_none g [] a = refl
some_none g (c ∷ cs) a = or_from (g c) (some_of g cs) a.0 (some_none g cs a.1)

pub some_append : (g : ℕ → Bool) (xs ys : List ℕ) → some_of g (xs ++ ys) ≡ (some_of g xs || some_of g ys)
unfolding some_of
some_append g [] ys = refl
some_append g (x ∷ xs) ys = ap (λ (z : Bool). g x || z) (some_append g xs ys) ∙ assoc (g x)
  where
    assoc : (a : Bool) → (a || (some_of g xs || some_of g ys)) ≡ ((a || some_of g xs) || some_of g ys)
    assoc true = refl
    assoc false = refl

-- what is kept by tests
pub kept_cong : {X : Type 0} (p q : X → Bool) (xs : List X) → AllByRecursion (λ x. p x ≡ q x) xs → filter p xs ≡ filter q xs
kept_cong p q [] a = refl
kept_cong {X} p q (x ∷ xs) a = ap₂ (λ (b : Bool) (ys : List X). cond b (x ∷ ys) ys) a.0 (kept_cong p q xs a.1)

pub kept_some : (g : ℕ → Bool) (cs : List ℕ) → not (eqb (length (filter g cs)) 0) ≡ some_of g cs
unfolding some_of
kept_some g [] = refl
kept_some g (c ∷ cs) =
    cond_both (g c) (c ∷ filter g cs) (filter g cs) (λ (ws : List ℕ). not (eqb (length ws) 0) ≡ (g c || some_of g cs))
    (λ e. not_from_false (eqb (suc (length (filter g cs))) 0) (ne_eqb (suc (length (filter g cs))) 0 (λ z. omega arith)) ∙ sym (or_left (g c) (some_of g cs) e))
    (λ e. kept_some g cs ∙ ap (λ (z : Bool). z || some_of g cs) (sym e))

pub kept_empty : (g : ℕ → Bool) (cs : List ℕ) → some_of g cs ≡ false → filter g cs ≡ []
unfolding some_of
kept_empty g [] e = refl
kept_empty g (c ∷ cs) e = let r = or_parts (g c) (some_of g cs) e in cond-false (g c) (c ∷ filter g cs) (filter g cs) r.0 ∙ kept_empty g cs r.1

pub kept_positive : {X : Type 0} (ws : List X) → not (eqb (length ws) 0) ≡ true → 0 < length ws
kept_positive ws e = let z = eqb-false (length ws) 0 (not-true (eqb (length ws) 0) e) in omega arith

-- rows one after the other
module _ {X A : Type 0} where
  pub joined_cong : (g h : X → List A) (xs : List X) → AllByRecursion (λ x. g x ≡ h x) xs → flat_map g xs ≡ flat_map h xs
  joined_cong g h [] a = refl
  joined_cong g h (x ∷ xs) a = ap₂ (λ (y z : List A). y ++ z) a.0 (joined_cong g h xs a.1)

  pub joined_none : (g : X → List A) (xs : List X) → AllByRecursion (λ x. g x ≡ []) xs → flat_map g xs ≡ []
  joined_none g [] a = refl
  joined_none g (x ∷ xs) a = ap₂ (λ (y z : List A). y ++ z) a.0 (joined_none g xs a.1)

  pub joined_all : (P : A → Type 0) (g : X → List A) (xs : List X) → AllByRecursion (λ x. AllByRecursion P (g x)) xs → AllByRecursion P (flat_map g xs)
  joined_all P g [] a = tt
  joined_all P g (x ∷ xs) a = All-append P (g x) (flat_map g xs) a.0 (joined_all P g xs a.1)

  pub joined_append : (g : X → List A) (xs ys : List X) → flat_map g (xs ++ ys) ≡ flat_map g xs ++ flat_map g ys
  joined_append g [] ys = refl
  joined_append g (x ∷ xs) ys = ap (λ (z : List A). g x ++ z) (joined_append g xs ys) ∙ sym (append_assoc (g x) (flat_map g xs) (flat_map g ys))

pub joined_joined : {X Y A : Type 0} (h : Y → List A) (g : X → List Y) (xs : List X) → flat_map h (flat_map g xs) ≡ flat_map (λ x. flat_map h (g x)) xs
joined_joined h g [] = refl
joined_joined {X} {Y} {A} h g (x ∷ xs) = joined_append h (g x) (flat_map g xs) ∙ ap (λ (z : List A). flat_map h (g x) ++ z) (joined_joined h g xs)
