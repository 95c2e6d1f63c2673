-- Whose line lives, with nobody as the decedent: the one set that lives by itself, and how births and deaths change it. Assumes nothing.
use Rattle.std.proofs.Common.{◌≡◌, ℕ, ◌*◌, ◌<◌, ◌≤◌, Bool, true, false, ◌||◌, ◌≢◌, ◌⊎◌, [], ◌∷◌, ◌++◌, length, set, sym, refl, ap, ◌∙◌, subst, inl, inr, ⊎_elim, arith}
use Rattle.std.specs.List.{flat_map}
use Rattle.std.proofs.lemmas.List.{length_push, get_or_push, get_or-set_same, get_or-set_other}
use Rattle.std.proofs.ByRecursion.{All-weaker}
use Rattle.std.proofs.lemmas.Bool.{cases_eq, or_cases, or_from, or_left, or_right}
use Rattle.law.specs.Family.{Person, person, Family, nobody, is_child, children, some_of, line_parts}
use Rattle.law.specs.Promise.{OfLine}
use Rattle.theory.specs.Families.{Ranked, SameParents}
use Rattle.theory.specs.Living.{alive, lines_below, LivingLinesAreOneSet}
use Rattle.theory.proofs.Lists.{some_cong, some_none}
use Rattle.theory.proofs.Families.{past_nobody, lives_there, child_there, child_same, parents_set, ranked_same, person_push}
use Rattle.theory.proofs.Children.{children_child, some_child, child_of_some, child_old, child_more}
use Rattle.theory.proofs.Lines.{line_here, line_step, ascend, stands_dead, descend, line_lives_other, line_lives_past, parts_standing, parts_divided, lives_alike}

module _ {f : Family} {rk : ℕ → ℕ} (s : Ranked f rk) where
  pub alive_past : (p : ℕ) → length f ≤ p → alive f p ≡ false
  alive_past p l = line_lives_past s (length f) p l

  -- a line lives if the person does, or a child's line
  pub alive_law : (p : ℕ) → alive f p ≡ ((person f p).lives || some_of (λ c. alive f c) (children f p))
  alive_law p =
      ⊎_elim
      (λ (e : p ≡ length f).
      alive_past p (omega arith)
      ∙ sym (or_from (person f p).lives (some_of (λ c. alive f c) (children f p)) (ap (λ (x : Person). x.lives) (past_nobody f p (omega arith)))
      (some_none (λ c. alive f c) (children f p)
      (All-weaker (λ c. is_child f p c ≡ true) (λ c. alive f c ≡ false) (λ c k. absurd (let z = s.here p c k in omega arith)) (children f p) (children_child f p)))))
      (λ (n : p ≡ length f → ⊥). line_lives_other s (length f) p n) (cases_eq p (length f))

  pub alive_self : (p : ℕ) → (person f p).lives ≡ true → alive f p ≡ true
  alive_self p v = alive_law p ∙ or_left (person f p).lives (some_of (λ c. alive f c) (children f p)) v

  -- the parts of a line: of the person who lives, or of the children's lines that live
  pub parts_lives : (p b : ℕ) → (person f p).lives ≡ true → line_parts f (length f) p b ≡ record { who = p; by = b } ∷ []
  parts_lives p b v = parts_standing s (length f) p b (λ e. let l = lives_there f p v in omega arith) v

  pub parts_dead : (p b : ℕ) → (person f p).lives ≡ false
      → line_parts f (length f) p b ≡ flat_map (λ c. line_parts f (length f) c (b * length (lines_below f (length f) p))) (lines_below f (length f) p)
  parts_dead p b v = parts_divided s (length f) p b (stands_dead f (length f) p v)

  -- a forebear's line lives with a descendant's
  pub alive_parent : (p c : ℕ) → is_child f p c ≡ true → alive f c ≡ true → alive f p ≡ true
  alive_parent p c k v = alive_law p ∙ or_right (person f p).lives (some_of (λ x. alive f x) (children f p)) (some_child f (λ x. alive f x) p c k v)

  pub alive_forebear : (p w : ℕ) → OfLine f p w → alive f w ≡ true → alive f p ≡ true
  alive_forebear p w h v = ascend f (λ q. alive f q ≡ true) alive_parent p w h v

  -- a line lives by the person or by a child
  pub alive_cases : (p : ℕ) → alive f p ≡ true → ((person f p).lives ≡ true) ⊎ ((c : ℕ) × (is_child f p c ≡ true) × (alive f c ≡ true))
  alive_cases p v =
      ⊎_elim (λ h. inl h) (λ h. inr (child_of_some f (λ c. alive f c) p h))
      (or_cases (person f p).lives (some_of (λ c. alive f c) (children f p)) (sym (alive_law p) ∙ v))

  -- the one set that holds who lives and who has a child in it
  pub alive_one_set : (T : ℕ → Bool) → ((p : ℕ) → p < length f → T p ≡ ((person f p).lives || some_of T (children f p))) → (p : ℕ) → p < length f → T p ≡ alive f p
  alive_one_set T h = descend s (λ p. p < length f → T p ≡ alive f p) step
    where
      step : (p : ℕ) → ((c : ℕ) → is_child f p c ≡ true → c < length f → T c ≡ alive f c) → p < length f → T p ≡ alive f p
      step p ih l =
          h p l
          ∙ (ap (λ (x : Bool). (person f p).lives || x)
          (some_cong T (λ c. alive f c) (children f p)
          (All-weaker (λ c. is_child f p c ≡ true) (λ c. T c ≡ alive f c) (λ c k. ih c k (child_there f p c k)) (children f p) (children_child f p)))
          ∙ sym (alive_law p))

  -- it is within every set that holds who lives and, with a child, the parent; and every set is within it in which each lives or has a child
  pub alive_within : (T : ℕ → Bool) → ((p : ℕ) → (person f p).lives ≡ true → T p ≡ true) → ((p c : ℕ) → is_child f p c ≡ true → T c ≡ true → T p ≡ true)
      → (p : ℕ) → alive f p ≡ true → T p ≡ true
  alive_within T here up =
      descend s (λ p. alive f p ≡ true → T p ≡ true)
      (λ p ih v.
      ⊎_elim (λ (h : (person f p).lives ≡ true). here p h)
      (λ (h : (c : ℕ) × (is_child f p c ≡ true) × (alive f c ≡ true)). up p h.0 h.1 (ih h.0 h.1 h.2)) (alive_cases p v))

  pub within_alive : (T : ℕ → Bool) → ((p : ℕ) → T p ≡ true → ((person f p).lives ≡ true) ⊎ ((c : ℕ) × (is_child f p c ≡ true) × (T c ≡ true)))
      → (p : ℕ) → T p ≡ true → alive f p ≡ true
  within_alive T by =
      descend s (λ p. T p ≡ true → alive f p ≡ true)
      (λ p ih v.
      ⊎_elim (λ (h : (person f p).lives ≡ true). alive_self p h)
      (λ (h : (c : ℕ) × (is_child f p c ≡ true) × (T c ≡ true)). alive_parent p h.0 h.1 (ih h.0 h.1 h.2)) (by p v))

-- where the same persons live, with the same parents, the same lines do: weddings and partings change nothing
pub alive_same : {f g : Family} {rk : ℕ → ℕ} → Ranked f rk → SameParents f g → ((p : ℕ) → (person g p).lives ≡ (person f p).lives) → (p : ℕ) → alive g p ≡ alive f p
alive_same {f} {g} {rk} s u v p = lives_alike s u (length f) (length g) (λ q. Unit {0}) (λ q c k h. tt) at p tt
  where
    at : (q : ℕ) → Unit {0} → ((q ≢ length f) × (q ≢ length g) × ((person g q).lives ≡ (person f q).lives)) ⊎ (alive g q ≡ alive f q)
    at q _ =
        ⊎_elim
        (λ (e : q ≡ length f). inr (line_lives_past (ranked_same f g rk u s) (length g) q (omega (arith, u.size)) ∙ sym (line_lives_past s (length f) q (omega arith))))
        (λ (n : q ≡ length f → ⊥). inl (n, (λ e. n (e ∙ u.size)), v q)) (cases_eq q (length f))

pub living_lines_are_one_set : LivingLinesAreOneSet
unfolding LivingLinesAreOneSet
living_lines_are_one_set f rk T s h p l = alive_one_set s T h p l

-- where c begins to live, just their own line and those of their forebears begin to live
module _ {f g : Family} {rk rk' : ℕ → ℕ} (s : Ranked f rk) (t : Ranked g rk') (c : ℕ) (lives : (person g c).lives ≡ true)
    (other : (p : ℕ) → p ≢ c → (person g p).lives ≡ (person f p).lives) (more : (p x : ℕ) → is_child f p x ≡ true → is_child g p x ≡ true)
    (same : (p x : ℕ) → x ≢ c → is_child g p x ≡ true → is_child f p x ≡ true) where
  begins_only : (p : ℕ) → alive g p ≡ true → (alive f p ≡ true) ⊎ OfLine g p c
  begins_only = descend t (λ p. alive g p ≡ true → (alive f p ≡ true) ⊎ OfLine g p c) step
    where
      step : (p : ℕ) → ((x : ℕ) → is_child g p x ≡ true → alive g x ≡ true → (alive f x ≡ true) ⊎ OfLine g x c) → alive g p ≡ true
          → (alive f p ≡ true) ⊎ OfLine g p c
      step p ih v =
          ⊎_elim (λ (e : p ≡ c). inr (subst (λ (z : ℕ). OfLine g z c) (sym e) (line_here g c)))
          (λ (n : p ≡ c → ⊥).
          ⊎_elim (λ (h : (person g p).lives ≡ true). inl (alive_self s p (sym (other p n) ∙ h)))
          (λ (h : (x : ℕ) × (is_child g p x ≡ true) × (alive g x ≡ true)).
          ⊎_elim (λ (e : h.0 ≡ c). inr (line_step g p h.0 c h.1 (subst (λ (z : ℕ). OfLine g z c) (sym e) (line_here g c))))
          (λ (m : h.0 ≡ c → ⊥).
          ⊎_elim (λ (a : alive f h.0 ≡ true). inl (alive_parent s p h.0 (same p h.0 m h.1) a))
          (λ (a : OfLine g h.0 c). inr (line_step g p h.0 c h.1 a)) (ih h.0 h.1 h.2))
          (cases_eq h.0 c))
          (alive_cases t p v))
          (cases_eq p c)

  begins_old : (p : ℕ) → alive f p ≡ true → alive g p ≡ true
  begins_old = descend s (λ p. alive f p ≡ true → alive g p ≡ true) step
    where
      step : (p : ℕ) → ((x : ℕ) → is_child f p x ≡ true → alive f x ≡ true → alive g x ≡ true) → alive f p ≡ true → alive g p ≡ true
      step p ih v =
          ⊎_elim
          (λ (h : (person f p).lives ≡ true).
          ⊎_elim (λ (e : p ≡ c). alive_self t p (ap (λ (z : ℕ). (person g z).lives) e ∙ lives)) (λ (n : p ≡ c → ⊥). alive_self t p (other p n ∙ h)) (cases_eq p c))
          (λ (h : (x : ℕ) × (is_child f p x ≡ true) × (alive f x ≡ true)). alive_parent t p h.0 (more p h.0 h.1) (ih h.0 h.1 h.2)) (alive_cases s p v)

  pub alive_begins : (p : ℕ) → (alive g p ≡ true → (alive f p ≡ true) ⊎ OfLine g p c) × ((alive f p ≡ true) ⊎ OfLine g p c → alive g p ≡ true)
  alive_begins p = (begins_only p, λ h. ⊎_elim (λ (a : alive f p ≡ true). begins_old p a) (λ (a : OfLine g p c). alive_forebear t p c a (alive_self t c lives)) h)

-- a birth
pub alive_push : {f : Family} {rk rk' : ℕ → ℕ} (x : Person) → Ranked f rk → Ranked (f ++ x ∷ []) rk' → x.lives ≡ true → (p : ℕ)
    → (alive (f ++ x ∷ []) p ≡ true → (alive f p ≡ true) ⊎ OfLine (f ++ x ∷ []) p (length f)) × ((alive f p ≡ true) ⊎ OfLine (f ++ x ∷ []) p (length f) → alive (f ++ x ∷ []) p ≡ true)
alive_push {f} x s t v = alive_begins s t (length f) (ap (λ (z : Person). z.lives) (get_or_push f x nobody (length f) refl) ∙ v) other (child_more f x) same
  where
    g : Family
    g = f ++ x ∷ []

    other : (p : ℕ) → p ≢ length f → (person g p).lives ≡ (person f p).lives
    other p n =
        person_push f x p (λ (z : Person). z.lives ≡ (person f p).lives) (λ _. refl) (λ e. absurd (n e)) (λ l. sym (ap (λ (z : Person). z.lives) (past_nobody f p (omega arith))))

    same : (p c : ℕ) → c ≢ length f → is_child g p c ≡ true → is_child f p c ≡ true
    same p c n k = let l = child_there g p c k in sym (child_old f x p c (omega (arith, length_push f x))) ∙ k

-- somebody comes to life
pub alive_again : {f : Family} {rk : ℕ → ℕ} (a : ℕ) (x : Person) → Ranked f rk → a < length f → x.mother ≡ (person f a).mother → x.father ≡ (person f a).father
    → x.lives ≡ true → (p : ℕ) → (alive (set f a x) p ≡ true → (alive f p ≡ true) ⊎ OfLine (set f a x) p a) × ((alive f p ≡ true) ⊎ OfLine (set f a x) p a → alive (set f a x) p ≡ true)
alive_again {f} {rk} a x s l m d v =
    let u = parents_set f a x m d in
    alive_begins s (ranked_same f (set f a x) rk u s) a (ap (λ (z : Person). z.lives) (get_or-set_same f a x nobody l) ∙ v)
    (λ p n. ap (λ (z : Person). z.lives) (get_or-set_other f a p x nobody n)) (λ p c k. child_same f (set f a x) u p c ∙ k) (λ p c _ k. sym (child_same f (set f a x) u p c) ∙ k)

-- somebody who lives dies
pub alive_dies : {f : Family} {rk : ℕ → ℕ} (a : ℕ) (x : Person) → Ranked f rk → (person f a).lives ≡ true → x.mother ≡ (person f a).mother → x.father ≡ (person f a).father
    → (p : ℕ) → (alive f p ≡ true → (alive (set f a x) p ≡ true) ⊎ OfLine f p a) × ((alive (set f a x) p ≡ true) ⊎ OfLine f p a → alive f p ≡ true)
alive_dies {f} {rk} a x s v m d =
    let u = parents_set f a x m d in
    alive_begins (ranked_same f (set f a x) rk u s) s a v (λ p n. ap (λ (z : Person). z.lives) (sym (get_or-set_other f a p x nobody n)))
    (λ p c k. sym (child_same f (set f a x) u p c) ∙ k) (λ p c _ k. child_same f (set f a x) u p c ∙ k)
