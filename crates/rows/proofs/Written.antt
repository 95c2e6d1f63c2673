-- Laws of what is written over a row. Assumes nothing.
use Rattle.std.proofs.Common.{◌≡◌, ℕ, zero, suc, ◌+◌, ◌<◌, ◌≤◌, List, [], ◌∷◌, ◌++◌, length, get_or, take, drop, set, sym, refl, ap, ◌∙◌, add-suc, suc-add, zero-add, arith}
use borrow.Rule.Slice.PartMut.{put_mid}
use Rattle.std.proofs.lemmas.List.{get_or_append_left, get_or-take, length-take-le, take-append-drop, take_all, drop_all, append-nil, length-append}
use Rattle.rows.specs.Written.{written}

-- what is written over a row
pub written_none : {X : Type 0} (a : ℕ) (xs : List X) → written a [] xs ≡ xs
unfolding written
written_none a [] = refl
written_none zero (x ∷ xs) = refl
written_none (suc a) (x ∷ xs) = ap (λ r. x ∷ r) (written_none a xs)

pub written_append : {X : Type 0} (a : ℕ) (ys zs xs : List X) → written (a + length ys) zs (written a ys xs) ≡ written a (ys ++ zs) xs
unfolding written
written_append a ys zs [] = refl
written_append zero [] zs (x ∷ xs) = refl
written_append zero (y ∷ ys) zs (x ∷ xs) = rw add-suc (ap (λ r. y ∷ r) (written_append zero ys zs xs))
written_append (suc a) ys zs (x ∷ xs) = rw suc-add (ap (λ r. x ∷ r) (written_append a ys zs xs))

pub written_full : {X : Type 0} (a : ℕ) (ys zs xs : List X) → length xs ≤ a + length ys → written a (ys ++ zs) xs ≡ written a ys xs
unfolding written
written_full a ys zs [] h = refl
written_full zero [] zs (x ∷ xs) h = absurd (omega arith)
written_full zero (y ∷ ys) zs (x ∷ xs) h = ap (λ r. y ∷ r) (written_full zero ys zs xs (omega arith))
written_full (suc a) ys zs (x ∷ xs) h = ap (λ r. x ∷ r) (written_full a ys zs xs (omega arith))

pub length-written : {X : Type 0} (a : ℕ) (ys xs : List X) → length (written a ys xs) ≡ length xs
unfolding written
length-written a ys [] = refl
length-written zero [] (x ∷ xs) = refl
length-written zero (y ∷ ys) (x ∷ xs) = ap suc (length-written zero ys xs)
length-written (suc a) ys (x ∷ xs) = ap suc (length-written a ys xs)

pub set_written : {X : Type 0} (a : ℕ) (y : X) (xs : List X) → set xs a y ≡ written a (y ∷ []) xs
unfolding written
set_written a y [] = refl
set_written zero y (x ∷ xs) = ap (λ r. y ∷ r) (sym (written_none zero xs))
set_written (suc a) y (x ∷ xs) = ap (λ r. x ∷ r) (set_written a y xs)

pub written_past : {X : Type 0} (a : ℕ) (ys xs : List X) → length xs ≤ a → written a ys xs ≡ xs
unfolding written
written_past a ys [] h = refl
written_past zero ys (x ∷ xs) h = absurd (omega arith)
written_past (suc a) ys (x ∷ xs) h = ap (λ r. x ∷ r) (written_past a ys xs (omega arith))

-- as many as there are
pub written_whole : {X : Type 0} (ys xs : List X) → length ys ≡ length xs → written 0 ys xs ≡ ys
unfolding written
written_whole [] [] h = refl
written_whole (y ∷ ys) [] h = absurd (omega arith)
written_whole [] (x ∷ xs) h = absurd (omega arith)
written_whole (y ∷ ys) (x ∷ xs) h = ap (λ r. y ∷ r) (written_whole ys xs (omega arith))

-- written in the front of a row
pub written_front : {X : Type 0} (k b : ℕ) (ys xs : List X) → b + length ys ≤ k → written b ys (take k xs) ++ drop k xs ≡ written b ys xs
unfolding written
written_front zero zero [] xs h = sym (written_none 0 xs)
written_front zero zero (y ∷ ys) xs h = absurd (omega arith)
written_front zero (suc b) ys xs h = absurd (omega arith)
written_front (suc k) b ys [] h = refl
written_front (suc k) zero [] (x ∷ xs) h = ap (λ r. x ∷ r) (take-append-drop k xs)
written_front (suc k) zero (y ∷ ys) (x ∷ xs) h = ap (λ r. y ∷ r) (written_front k zero ys xs (omega arith))
written_front (suc k) (suc b) ys (x ∷ xs) h = ap (λ r. x ∷ r) (written_front k b ys xs (omega arith))

-- a part from a on that another function has written over: what fits in it, or what reaches the end
pub part_written : {X : Type 0} (a k b : ℕ) (ys xs : List X) → a ≤ length xs → b + length ys ≤ k → put_mid a k xs (written b ys (take k (drop a xs))) ≡ written (a + b) ys xs
unfolding written
part_written zero k b ys xs g h = rw (zero-add b) (written_front k b ys xs h)
part_written (suc a) k b ys [] g h = absurd (omega arith)
part_written (suc a) k b ys (x ∷ xs) g h = rw (suc-add a b) (ap (λ r. x ∷ r) (part_written a k b ys xs (omega arith) h))

pub rest_written : {X : Type 0} (a k b : ℕ) (ys xs : List X) → a + k ≡ length xs → put_mid a k xs (written b ys (take k (drop a xs))) ≡ written (a + b) ys xs
unfolding written
rest_written zero k b ys xs h =
    rw (zero-add b, take_all k xs (omega arith), drop_all k xs (omega arith), append-nil)
rest_written (suc a) k b ys [] h = absurd (omega arith)
rest_written (suc a) k b ys (x ∷ xs) h = rw (suc-add a b) (ap (λ r. x ∷ r) (rest_written a k b ys xs (omega arith)))

-- a whole part put in
pub put_written : {X : Type 0} (a k : ℕ) (ys xs : List X) → a + k ≤ length xs → length ys ≡ k → put_mid a k xs ys ≡ written a ys xs
unfolding written
put_written zero zero [] xs g h = sym (written_none 0 xs)
put_written zero zero (y ∷ ys) xs g h = absurd (omega arith)
put_written zero (suc k) [] xs g h = absurd (omega arith)
put_written zero (suc k) (y ∷ ys) [] g h = absurd (omega arith)
put_written zero (suc k) (y ∷ ys) (x ∷ xs) g h = ap (λ r. y ∷ r) (put_written zero k ys xs (omega arith) (omega arith))
put_written (suc a) k ys [] g h = absurd (omega arith)
put_written (suc a) k ys (x ∷ xs) g h = ap (λ r. x ∷ r) (put_written a k ys xs (omega arith) h)

-- one more at the end
pub written_push : {X : Type 0} (a i : ℕ) (ys xs : List X) (y : X) → a + length ys ≡ i → set (written a ys xs) i y ≡ written a (ys ++ (y ∷ [])) xs
written_push a i ys xs y e = rw (← e, set_written (a + length ys) y (written a ys xs)) (written_append a ys (y ∷ []) xs)

-- a turn that writes, a turn that doesn't, and one that finds no room
pub went : {X : Type 0} (at next : ℕ) (R S T parts after W : List X) (total : ℕ) → R ≡ S ++ T → after ≡ written at S parts → next ≡ at + length S → at + length S ≤ length parts
    → written at R parts ≡ W → at + length R ≡ total → (written next T after ≡ W) × (next + length T ≡ total) × (next ≤ length after)
went at next R S T parts after W total e a n h i j = (
  rw (a, n) (written_append at S T parts ∙ (ap (λ r. written at r parts) (sym e) ∙ i)),
  omega (arith, ap length e, length-append S T),
  omega (arith, ap length a, length-written at S parts),
)

pub stayed : {X : Type 0} (at next : ℕ) (R T parts after W : List X) (total : ℕ) → R ≡ T → after ≡ parts → next ≡ at → at ≤ length parts
    → written at R parts ≡ W → at + length R ≡ total → (written next T after ≡ W) × (next + length T ≡ total) × (next ≤ length after)
stayed at next R T parts after W total e a n h i j = (rw (a, n, ← e) i, rw (n, ← e) j, rw (a, n) h)

pub stopped : {X : Type 0} (at : ℕ) (R S T parts after W : List X) (total : ℕ) → R ≡ S ++ T → after ≡ written at S parts → length parts < at + length S
    → written at R parts ≡ W → at + length R ≡ total → (after ≡ W) × (length parts < total)
stopped at R S T parts after W total e a h i j = (
  a ∙ (sym (written_full at S T parts (omega arith)) ∙ (ap (λ r. written at r parts) (sym e) ∙ i)),
  omega (arith, ap length e, length-append S T),
)

-- what lies before, and behind what was written
pub get_or-written_before : {X : Type 0} (a i : ℕ) (ys xs : List X) (d : X) → i < a → get_or (written a ys xs) i d ≡ get_or xs i d
unfolding written
get_or-written_before a i ys [] d h = refl
get_or-written_before zero i ys (x ∷ xs) d h = absurd (omega arith)
get_or-written_before (suc a) zero ys (x ∷ xs) d h = refl
get_or-written_before (suc a) (suc i) ys (x ∷ xs) d h = get_or-written_before a i ys xs d (omega arith)

pub get_or-put_before : {X : Type 0} (a k i : ℕ) (xs ys : List X) (d : X) → i < a → a ≤ length xs → get_or (put_mid a k xs ys) i d ≡ get_or xs i d
get_or-put_before a k i xs ys d h l =
    get_or_append_left (take a xs) (ys ++ drop k (drop a xs)) d i (omega (arith, length-take-le a xs l)) ∙ get_or-take a xs i d h

pub length-put : {X : Type 0} (a k : ℕ) (xs ys : List X) → a + k ≤ length xs → length ys ≡ k → length (put_mid a k xs ys) ≡ length xs
length-put a k xs ys h l = ap length (put_written a k ys xs h l) ∙ length-written a ys xs
