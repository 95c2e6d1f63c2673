-- Births and deaths keep the set of the lines that live. Assumes nothing.
use Rattle.std.proofs.Common.{◌≡◌, ℕ, suc, ◌<◌, ◌≤◌, true, false, ◌||◌, eqb, ◌≢◌, [], ◌∷◌, ◌++◌, length, set, sym, refl, ap, ◌∙◌, inl, inr, ⊎_elim, arith}
use Rattle.std.proofs.lemmas.List.{length_push, length-set, get_or_push, get_or_append_left, get_or-set_same, get_or-set_other}
use Rattle.std.proofs.lemmas.Bool.{cases_eq, cases_lt, both_ways}
use Rattle.law.specs.Family.{Person, person, Family, nobody, is_child, some_of}
use Rattle.theory.specs.Families.{Ranked, SameParents}
use Rattle.theory.specs.Living.{alive}
use Rattle.theory.proofs.Families.{past_nobody, child_there, child_same, parents_set, ranked_same, person_push}
use Rattle.theory.proofs.Children.{children_same}
use Rattle.theory.proofs.Living.{alive_past, alive_law, alive_self, alive_parent, alive_cases, alive_one_set}
use Rattle.living.specs.Marks.{begun, ended}
use Rattle.living.proofs.Raising.{support_lives, support_child, support_cases, begun_alive}
use Rattle.living.proofs.Lowering.{ended_alive}

-- somebody begins to live: who lived lives, who has a child has it, and nobody has a new child but c, or had none before that lives
module _ {f g : Family} {rk rk' : ℕ → ℕ} (s : Ranked f rk) (t : Ranked g rk') (c : ℕ) (lives : (person g c).lives ≡ true) (size : length f ≤ length g) (there : c < length g)
    (other : (p : ℕ) → p ≢ c → (person g p).lives ≡ (person f p).lives) (more : (p x : ℕ) → is_child f p x ≡ true → is_child g p x ≡ true)
    (same : (p x : ℕ) → alive f x ≡ true → is_child g p x ≡ true → is_child f p x ≡ true) where
  pub begins : (q : ℕ) → begun g c (λ p. alive f p) q ≡ alive g q
  begins =
      begun_alive t c (λ p. alive f p) there lives
      (λ q l h.
      ⊎_elim
      (λ (v : (person f q).lives ≡ true).
      inr (support_lives g (λ p. alive f p) q (⊎_elim (λ (e : q ≡ c). ap (λ i. (person g i).lives) e ∙ lives) (λ (n : q ≡ c → ⊥). other q n ∙ v) (cases_eq q c))))
      (λ (a : (x : ℕ) × (is_child f q x ≡ true) × (alive f x ≡ true)). inr (support_child g (λ p. alive f p) q a.0 (more q a.0 a.1) a.2))
      (alive_cases s q h))
      (λ q l h.
      ⊎_elim
      (λ (v : (person g q).lives ≡ true).
      ⊎_elim (λ (e : q ≡ c). inl e) (λ (n : q ≡ c → ⊥). inr (alive_self s q (sym (other q n) ∙ v))) (cases_eq q c))
      (λ (a : (x : ℕ) × (is_child g q x ≡ true) × (alive f x ≡ true)). inr (alive_parent s q a.0 (same q a.0 a.2 a.1) a.2))
      (support_cases g (λ p. alive f p) q h))
      (λ q l. alive_past s q (omega arith))

-- a birth
pub birth_kept : {f : Family} {rk rk' : ℕ → ℕ} (x : Person) → Ranked f rk → Ranked (f ++ x ∷ []) rk' → x.lives ≡ true → (q : ℕ) →
    begun (f ++ x ∷ []) (length f) (λ p. alive f p) q ≡ alive (f ++ x ∷ []) q
birth_kept {f} x s t v =
    begins s t (length f) (ap (λ (z : Person). z.lives) (get_or_push f x nobody (length f) refl) ∙ v) (omega (arith, length_push f x)) (omega (arith, length_push f x)) other more same
  where
    g : Family
    g = f ++ x ∷ []

    old : (c : ℕ) → c < length f → person g c ≡ person f c
    old c l = get_or_append_left f (x ∷ []) nobody c l

    other : (p : ℕ) → p ≢ length f → (person g p).lives ≡ (person f p).lives
    other p n =
        person_push f x p (λ (z : Person). z.lives ≡ (person f p).lives) (λ _. refl) (λ e. absurd (n e)) (λ l. sym (ap (λ (z : Person). z.lives) (past_nobody f p (omega arith))))

    more : (p c : ℕ) → is_child f p c ≡ true → is_child g p c ≡ true
    more p c k = ap (λ (z : Person). eqb z.mother (suc p) || eqb z.father (suc p)) (old c (child_there f p c k)) ∙ k

    same : (p c : ℕ) → alive f c ≡ true → is_child g p c ≡ true → is_child f p c ≡ true
    same p c a k =
        let l = child_there g p c k in
        ⊎_elim (λ (e : c ≡ length f). absurd (both_ways _ (alive_past s c (omega arith)) a))
        (λ (n : c ≡ length f → ⊥). ap (λ (z : Person). eqb z.mother (suc p) || eqb z.father (suc p)) (sym (old c (omega (arith, length_push f x)))) ∙ k)
        (cases_eq c (length f))

-- somebody comes to life again
pub revival_kept : {f : Family} {rk : ℕ → ℕ} (a : ℕ) (x : Person) → Ranked f rk → a < length f → x.mother ≡ (person f a).mother → x.father ≡ (person f a).father →
    x.lives ≡ true → (q : ℕ) → begun (set f a x) a (λ p. alive f p) q ≡ alive (set f a x) q
revival_kept {f} {rk} a x s l m d v =
    let u = parents_set f a x m d in
    begins s (ranked_same f (set f a x) rk u s) a (ap (λ (z : Person). z.lives) (get_or-set_same f a x nobody l) ∙ v) (omega (arith, length-set f a x)) (omega (arith, length-set f a x))
    (λ p n. ap (λ (z : Person). z.lives) (get_or-set_other f a p x nobody n)) (λ p c k. child_same f (set f a x) u p c ∙ k) (λ p c _ k. sym (child_same f (set f a x) u p c) ∙ k)

-- somebody dies
pub death_kept : {f : Family} {rk : ℕ → ℕ} (a : ℕ) (x : Person) → Ranked f rk → a < length f → x.mother ≡ (person f a).mother → x.father ≡ (person f a).father →
    x.lives ≡ false → (q : ℕ) → ended (set f a x) a (λ p. alive f p) q ≡ alive (set f a x) q
death_kept {f} {rk} a x s l m d v =
    ended_alive t a (λ p. alive f p) (omega (arith, length-set f a x))
    (λ q h e.
    ⊎_elim
    (λ (y : (person f q).lives ≡ true).
    ⊎_elim (λ (z : q ≡ a). inl z) (λ (n : q ≡ a → ⊥). inr (support_lives g (λ p. alive f p) q (other q n ∙ y))) (cases_eq q a))
    (λ (y : (c : ℕ) × (is_child f q c ≡ true) × (alive f c ≡ true)). inr (support_child g (λ p. alive f p) q y.0 (child_same f g u q y.0 ∙ y.1) y.2))
    (alive_cases s q e))
    (λ q h e.
    ⊎_elim
    (λ (y : (person g q).lives ≡ true).
    ⊎_elim (λ (z : q ≡ a). absurd (both_ways _ (ap (λ i. (person g i).lives) z ∙ ap (λ (w : Person). w.lives) (get_or-set_same f a x nobody l) ∙ v) y))
    (λ (n : q ≡ a → ⊥). inr (alive_self s q (sym (other q n) ∙ y))) (cases_eq q a))
    (λ (y : (c : ℕ) × (is_child g q c ≡ true) × (alive f c ≡ true)). inr (alive_parent s q y.0 (sym (child_same f g u q y.0) ∙ y.1) y.2))
    (support_cases g (λ p. alive f p) q e))
    (λ q h. alive_past s q (omega (arith, length-set f a x)))
  where
    g : Family
    g = set f a x

    u : SameParents f g
    u = parents_set f a x m d

    t : Ranked g rk
    t = ranked_same f g rk u s

    other : (p : ℕ) → p ≢ a → (person g p).lives ≡ (person f p).lives
    other p n = ap (λ (z : Person). z.lives) (get_or-set_other f a p x nobody n)

-- where nobody's parents or life change, the same lines live
pub same_lines : {f g : Family} {rk : ℕ → ℕ} → Ranked f rk → SameParents f g → ((p : ℕ) → (person g p).lives ≡ (person f p).lives) → (q : ℕ) → alive g q ≡ alive f q
same_lines {f} {g} {rk} s u life q =
    ⊎_elim
    (λ (l : q < length f).
    sym (alive_one_set (ranked_same f g rk u s) (λ p. alive f p)
    (λ p h. alive_law s p ∙ (λ i. sym (life p) i || some_of (λ c. alive f c) (sym (children_same f g u p) i))) q (let z = u.size in omega arith)))
    (λ (l : length f ≤ q). alive_past (ranked_same f g rk u s) q (let z = u.size in omega arith) ∙ sym (alive_past s q l))
    (cases_lt q (length f))
