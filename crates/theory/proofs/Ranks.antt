-- Numbers of any size that grow from parent to child make a rank; so does a change of one person's parents to others who are not of their line. Assumes nothing.
use Rattle.std.proofs.Common.{◌≡◌, ℕ, zero, suc, ◌+◌, ◌<◌, ◌≤◌, Bool, true, false, cond, ltb, ◌≢◌, length, sym, ap, ◌∙◌, subst, ⊎_elim, arith}
use Rattle.std.proofs.lemmas.Bool.{cases_eq, cases_Bool, ltb-true, lt-ltb, le-ltb, cond-true, cond-false, cond_both}
use Rattle.law.specs.Family.{Family, is_child}
use Rattle.theory.specs.Families.{Ranked}

-- how many of the first n have a number below x
unfoldable pub how_many_below : (ℕ → ℕ) → ℕ → ℕ → ℕ
how_many_below h zero x = 0
how_many_below h (suc n) x = cond (ltb (h n) x) 1 0 + how_many_below h n x

one_grows : (a x y : ℕ) → x ≤ y → cond (ltb a x) 1 0 ≤ cond (ltb a y) 1 0
one_grows a x y l =
    cond_both (ltb a x) 1 0 (λ (k : ℕ). k ≤ cond (ltb a y) 1 0)
    (λ e. let h = ltb-true a x e in rw (cond-true {A = ℕ} (ltb a y) 1 0 (lt-ltb a y (omega arith))) (omega arith)) (λ _. omega arith)

below_grows : (h : ℕ → ℕ) (n x y : ℕ) → x ≤ y → how_many_below h n x ≤ how_many_below h n y
unfolding how_many_below
below_grows h zero x y l = omega arith
below_grows h (suc n) x y l = let a = one_grows (h n) x y l in let b = below_grows h n x y l in omega arith

below_more : (h : ℕ → ℕ) (n p y : ℕ) → p < n → h p < y → how_many_below h n (h p) < how_many_below h n y
unfolding how_many_below
below_more h zero p y l k = absurd (omega arith)
below_more h (suc n) p y l k =
    ⊎_elim
    (λ (e : p ≡ n).
    let q : h n ≡ h p = ap h (sym e) in
    let c = below_grows h n (h p) y (omega arith) in
    rw (cond-false {A = ℕ} (ltb (h n) (h p)) 1 0 (le-ltb (h n) (h p) (omega arith)), cond-true {A = ℕ} (ltb (h n) y) 1 0 (lt-ltb (h n) y (omega arith))) (omega arith))
    (λ (e : p ≡ n → ⊥). let a = one_grows (h n) (h p) y (omega arith) in let b = below_more h n p y (omega arith) k in omega arith) (cases_eq p n)

below_most : (h : ℕ → ℕ) (n x : ℕ) → how_many_below h n x ≤ n
unfolding how_many_below
below_most h zero x = omega arith
below_most h (suc n) x =
    let b = below_most h n x in
    cond_both (ltb (h n) x) 1 0 (λ (k : ℕ). k + how_many_below h n x ≤ suc n) (λ _. omega arith) (λ _. omega arith)

-- numbers that grow from parent to child
pub growing_ranked : (f : Family) (h : ℕ → ℕ) → ((p c : ℕ) → is_child f p c ≡ true → h p < h c) → ((p c : ℕ) → is_child f p c ≡ true → p < length f)
    → Ranked f (λ p. how_many_below h (length f) (h p))
growing_ranked f h up here = record {
  up = λ p c k. below_more h (length f) p (h c) (here p c k) (up p c k);
  within = λ p l. let a = below_more h (length f) p (suc (h p)) l (omega arith) in let b = below_most h (length f) (suc (h p)) in omega arith;
  here = here;
}

-- other parents for c, none of c's line: D holds of c and of all below c
pub adopted_ranked : (f g : Family) (rk : ℕ → ℕ) (D : ℕ → Bool) (c : ℕ) → Ranked f rk → length g ≡ length f
    → ((p x : ℕ) → is_child g p x ≡ true → p < length g) → ((p x : ℕ) → x ≢ c → is_child g p x ≡ true → is_child f p x ≡ true)
    → ((p : ℕ) → is_child g p c ≡ true → D p ≡ false) → D c ≡ true → ((p x : ℕ) → is_child f p x ≡ true → D p ≡ true → D x ≡ true)
    → Ranked g (λ p. how_many_below (λ q. cond (D q) (length f) 0 + rk q) (length g) (cond (D p) (length f) 0 + rk p))
adopted_ranked f g rk D c r size here same new own down = growing_ranked g (λ q. cond (D q) (length f) 0 + rk q) up here
  where
    up : (p x : ℕ) → is_child g p x ≡ true → cond (D p) (length f) 0 + rk p < cond (D x) (length f) 0 + rk x
    up p x k =
        ⊎_elim
        (λ (e : x ≡ c).
        let dp : D p ≡ false = new p (subst (λ (z : ℕ). is_child g p z ≡ true) e k) in
        let dx : D x ≡ true = ap D e ∙ own in
        let l : rk p < length f = r.within p (let z = here p x k in omega arith) in
        rw (dp, dx) (omega arith))
        (λ (n : x ≡ c → ⊥).
        let h = same p x n k in
        let l = r.up p x h in
        ⊎_elim (λ (e : D p ≡ true). rw (e, down p x h e) (omega arith)) (λ (e : D p ≡ false). rw e (omega arith)) (cases_Bool (D p)))
        (cases_eq x c)
