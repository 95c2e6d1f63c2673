-- Words in a row of bytes, and what is before and behind them. Assumes nothing.
use Rattle.std.proofs.Common.{◌≡◌, ℕ, zero, suc, ◌+◌, ◌<◌, ◌≤◌, Bool, true, false, eqb, List, [], ◌∷◌, ◌++◌, length, take, drop, Some, None, Option, sym, refl, ap, ◌∙◌, zero-add, arith}
use Rattle.std.proofs.lemmas.List.{append_assoc, length-append}
use Rattle.std.proofs.lemmas.Bool.{and_parts, eqb-true, eq-eqb, and_from, cond-true, cond-false}
use Rattle.std.specs.Option.{option_map}
use Rattle.lines.specs.Words.{begins, StandsNowhere, StandsFirst, Halves, after_all, cut}

-- two tests that hold together are the same
pub same_test : (r s : Bool) → (r ≡ true → s ≡ true) → (s ≡ true → r ≡ true) → r ≡ s
same_test true s f g = sym (f refl)
same_test false true f g = g refl
same_test false false f g = refl

pub begins_true : (w s : List ℕ) → begins w s ≡ true → s ≡ w ++ drop (length w) s
begins_true [] s e = refl
begins_true (x ∷ w) [] e = absurd (let z : false ≡ true = e in grind arith)
begins_true (x ∷ w) (b ∷ s) e =
    let p = and_parts (eqb x b) (begins w s) e in
    (λ i. sym (eqb-true x b p.0) i ∷ begins_true w s p.1 i)

pub begins_self : (w rest : List ℕ) → begins w (w ++ rest) ≡ true
begins_self [] rest = refl
begins_self (x ∷ w) rest = and_from (eqb x x) (begins w (w ++ rest)) (eq-eqb x x refl) (begins_self w rest)

-- as the standard library tells it
pub begins_is : (s p : List ℕ) (r : Bool) → (r ≡ true → s ≡ p ++ drop (length p) s) × ((rest : List ℕ) → s ≡ p ++ rest → r ≡ true) → r ≡ begins p s
begins_is s p r h =
    same_test r (begins p s) (λ e. ap (begins p) (h.0 e) ∙ begins_self p (drop (length p) s)) (λ e. h.1 (drop (length p) s) (begins_true p s e))

pub begins_long : (w s : List ℕ) → begins w s ≡ true → length w ≤ length s
begins_long w s e = omega (arith, ap length (begins_true w s e), length-append w (drop (length w) s))

pub mapped_after : (xs ys : List ℕ) (o : Option Halves) → option_map (after_all xs) (option_map (after_all ys) o) ≡ option_map (after_all (xs ++ ys)) o
mapped_after xs ys None = refl
mapped_after xs ys (Some h) = ap (λ (bs : List ℕ). Some (record { before = bs; behind = h.behind })) (sym (append_assoc xs ys h.before))

pub cut_other : (w bs : List ℕ) (b : ℕ) → begins w (b ∷ bs) ≡ false → cut w (b ∷ bs) ≡ option_map (after_all (b ∷ [])) (cut w bs)
unfolding cut
cut_other w bs b e = cond-false (begins w (b ∷ bs)) (Some (record { before = []; behind = drop (length w) (b ∷ bs) })) (option_map (after_all (b ∷ [])) (cut w bs)) e

pub cut_here : (w bs : List ℕ) → 0 < length bs → begins w bs ≡ true → cut w bs ≡ Some (record { before = []; behind = drop (length w) bs })
unfolding cut
cut_here w [] h e = absurd (omega arith)
cut_here w (b ∷ bs) h e = cond-true (begins w (b ∷ bs)) (Some (record { before = []; behind = drop (length w) (b ∷ bs) })) (option_map (after_all (b ∷ [])) (cut w bs)) e

-- a word that stands nowhere
pub cut_nowhere : (w bs : List ℕ) → StandsNowhere w bs → None ≡ cut w bs
unfolding cut
cut_nowhere w [] f = refl
cut_nowhere w (b ∷ bs) f =
    ap (option_map (after_all (b ∷ []))) (cut_nowhere w bs (λ k h. f (suc k) (omega arith))) ∙ sym (cut_other w bs b (f 0 (omega arith)))

-- a word at its first place
pub cut_first : (w bs : List ℕ) (at : ℕ) → StandsFirst w bs at → Some (record { before = take at bs; behind = drop (at + length w) bs }) ≡ cut w bs
cut_first w [] at h = absurd (omega (arith, h.inside))
cut_first w (b ∷ bs) zero h =
    ap (λ (n : ℕ). Some (record { before = []; behind = drop n (b ∷ bs) })) (zero-add (length w)) ∙ sym (cut_here w (b ∷ bs) (omega arith) h.here)
cut_first w (b ∷ bs) (suc at) h =
    let rest : StandsFirst w bs at = record { inside = omega (arith, h.inside); here = h.here; before = λ k l. h.before (suc k) (omega arith) } in
    let n : suc at + length w ≡ suc (at + length w) = omega arith in
    ap (λ (n : ℕ). Some (record { before = b ∷ take at bs; behind = drop n (b ∷ bs) })) n
    ∙ (ap (option_map (after_all (b ∷ []))) (cut_first w bs at rest) ∙ sym (cut_other w bs b (h.before 0 (omega arith))))
