-- Where somebody ceases to live, the set without those whom nothing keeps in it is that of the lines that live. Assumes nothing.
use Rattle.std.proofs.Common.{◌≡◌, ℕ, zero, suc, ◌<◌, ◌≤◌, Bool, true, false, cond, not, ◌⊎◌, length, sym, refl, ap, ◌∙◌, subst, inl, inr, ⊎_elim, arith}
use Rattle.std.proofs.lemmas.Bool.{cases_eq, cases_Bool, cond-true, cond-false, and_parts, and_cases, and_left, not-true, not-false, both_ways, eq-eqb}
use Rattle.law.specs.Family.{person, Family, is_child}
use Rattle.theory.specs.Families.{Ranked}
use Rattle.theory.specs.Living.{alive}
use Rattle.theory.proofs.Families.{mother_child, father_child, parent_cases}
use Rattle.bits.specs.Sets.{without_member}
use Rattle.bits.proofs.Sets.{without_same, without_other}
use Rattle.living.specs.Marks.{supported, unsupported, taken_out, parent_out, lowered, ended}
use Rattle.living.proofs.Raising.{Within, support_cases, support_lives, support_child, support_more, Kept, Full, none, kept_full_alive}

pub within_without : (s : ℕ → Bool) (p : ℕ) → Within (without_member s p) s
within_without s p q h =
    ⊎_elim (λ (e : q ≡ p). absurd (both_ways _ (cond-true _ _ _ (eq-eqb q p e)) h)) (λ (n : q ≡ p → ⊥). sym (without_other s p q n) ∙ h) (cases_eq q p)

module _ {f : Family} {rk : ℕ → ℕ} (ranked : Ranked f rk) where
  -- Everybody in the set is kept there, but for those that X exempts; everybody whom something would keep is in it; nobody came in, and nobody past the end changed.
  pub record Lowered (s t : ℕ → Bool) (X : ℕ → Type 0) : Type 0 where
    pub less : Within t s
    pub kept : Kept f t X
    pub full : Full f t none
    pub past : (q : ℕ) → length f ≤ q → t q ≡ s q

  -- nothing keeps p in s, so p can go: of those who remain, only p's parents may lose what keeps them
  out_kept : (s : ℕ → Bool) (p : ℕ) (X : ℕ → Type 0) → Kept f s (λ q. X q ⊎ (q ≡ p)) → Kept f (without_member s p) (λ q. X q ⊎ (is_child f q p ≡ true))
  out_kept s p X kept q l h =
      let t = without_member s p in
      ⊎_elim (λ (e : q ≡ p). absurd (both_ways _ (cond-true _ _ _ (eq-eqb q p e)) h))
      (λ (ne : q ≡ p → ⊥).
      ⊎_elim (λ (x : X q ⊎ (q ≡ p)). ⊎_elim (λ y. inl (inl y)) (λ (y : q ≡ p). absurd (ne y)) x)
      (λ (x : supported f s q ≡ true).
      ⊎_elim (λ v. inr (support_lives f t q v))
      (λ (a : (c : ℕ) × (is_child f q c ≡ true) × (s c ≡ true)).
      ⊎_elim (λ (e : a.0 ≡ p). inl (inr (ap (λ r. is_child f q r) (sym e) ∙ a.1)))
      (λ (m : a.0 ≡ p → ⊥). inr (support_child f t q a.0 a.1 (without_other s p a.0 m ∙ a.2)))
      (cases_eq a.0 p))
      (support_cases f s q x))
      (kept q l (within_without s p q h)))
      (cases_eq q p)

  out_full : (s : ℕ → Bool) (p : ℕ) → supported f s p ≡ false → Full f s none → Full f (without_member s p) none
  out_full s p bare full q l h =
      let x : supported f s q ≡ true = support_more f (without_member s p) s q (within_without s p) h in
      ⊎_elim (λ (e : q ≡ p). absurd (both_ways _ bare (ap (λ r. supported f s r) (sym e) ∙ x)))
      (λ (ne : q ≡ p → ⊥). ⊎_elim (λ (z : ⊥). absurd z) (λ z. inr (without_other s p q ne ∙ z)) (full q l x))
      (cases_eq q p)

  Lowers : ℕ → ℕ → (ℕ → Bool) → (ℕ → Type 0) → Type 0
  Lowers n p s X = rk p < n → Kept f s (λ q. X q ⊎ (is_child f q p ≡ true)) → Full f s none → Lowered s (lowered n f p s) X

  -- somebody whom nothing keeps, given as one more than a number
  one_out :
      (n p : ℕ) (s : ℕ → Bool) (X : ℕ → Type 0) → ((r : ℕ) (t : ℕ → Bool) (Y : ℕ → Type 0) → Lowers n r t Y) → rk p < n → p < length f → unsupported f s (suc p) ≡ true →
      Kept f s (λ q. X q ⊎ (q ≡ p)) → Full f s none → Lowered s (taken_out (λ q t. lowered n f q t) (suc p) s) X × (taken_out (λ q t. lowered n f q t) (suc p) s p ≡ false)
  unfolding Lowers
  one_out n p s X lower small there un kept full =
      let bare = not-true (supported f s p) (and_parts (s p) (not (supported f s p)) un).1 in
      let t = without_member s p in
      let r = lower p t X small (out_kept s p X kept) (out_full s p bare full) in (
        record {
          less = λ q h. within_without s p q (r.less q h);
          kept = r.kept;
          full = r.full;
          past = λ q l. r.past q l ∙ without_other s p q (λ e. omega arith);
        },
        ⊎_elim (λ h. absurd (both_ways _ (without_same s p) (r.less p h))) (λ h. h) (cases_Bool (lowered n f p t p)),
      )

  -- somebody who is not unsupported is out of the set, or kept in it
  settled : (s : ℕ → Bool) (p : ℕ) → unsupported f s (suc p) ≡ false → s p ≡ true → supported f s p ≡ true
  settled s p un h =
      ⊎_elim (λ x. absurd (both_ways _ x h)) (λ x. not-false (supported f s p) x) (and_cases (s p) (not (supported f s p)) un)

  -- one of p's parents, the first whom nothing keeps: the mother
  module _ (n p : ℕ) (lower : (r : ℕ) (t : ℕ → Bool) (Y : ℕ → Type 0) → Lowers n r t Y) (small : rk p < suc n) where
    m : ℕ
    m = (person f p).mother

    d : ℕ
    d = (person f p).father

    out : ℕ → (ℕ → Bool) → ℕ → Bool
    out q t = lowered n f q t

    after_one : (ℕ → Bool) → ℕ → Bool
    after_one s = parent_out out f p s

    parent_there : (q : ℕ) → is_child f q p ≡ true → (rk q < n) × (q < length f)
    parent_there q c = let up = ranked.up q p c in (omega arith, ranked.here q p c)

    gone : (s : ℕ → Bool) (X : ℕ → Type 0) (link : ℕ) → unsupported f s link ≡ true → ((q : ℕ) → link ≡ suc q → is_child f q p ≡ true) →
        Kept f s (λ q. X q ⊎ (link ≡ suc q)) → Full f s none → Lowered s (taken_out out link s) X × ((q : ℕ) → link ≡ suc q → taken_out out link s q ≡ false)
    unfolding out
    gone s X zero un child kept full = absurd (both_ways false refl un)
    gone s X (suc q) un child kept full =
        let at = parent_there q (child q refl) in
        let r =
        one_out n q s X lower at.0 at.1 un
        (λ i l h. ⊎_elim (λ (x : X i ⊎ (suc q ≡ suc i)). ⊎_elim (λ y. inl (inl y)) (λ y. inl (inr (omega arith))) x) (λ x. inr x) (kept i l h)) full in
        (r.0, λ i e. let w : i ≡ q = omega arith in ap (taken_out out (suc q) s) w ∙ r.1)

    -- a parent who is not unsupported needs no exemption
    no_exemption : (s : ℕ → Bool) (X : ℕ → Type 0) (link : ℕ) → unsupported f s link ≡ false → Kept f s (λ q. X q ⊎ (link ≡ suc q)) → Kept f s X
    no_exemption s X zero un kept q l h = ⊎_elim (λ (x : X q ⊎ (0 ≡ suc q)). ⊎_elim (λ y. inl y) (λ y. absurd (omega arith)) x) (λ x. inr x) (kept q l h)
    no_exemption s X (suc i) un kept q l h =
        ⊎_elim
        (λ (x : X q ⊎ (suc i ≡ suc q)).
        ⊎_elim (λ y. inl y) (λ y. let w : q ≡ i = omega arith in inr (subst (λ j. supported f s j ≡ true) (sym w) (settled s i un (ap s (sym w) ∙ h)))) x)
        (λ x. inr x) (kept q l h)

    mother_step : (s : ℕ → Bool) (X : ℕ → Type 0) → unsupported f s m ≡ true → Kept f s (λ q. X q ⊎ (m ≡ suc q)) → Full f s none →
        Lowered s (after_one s) X × ((q : ℕ) → m ≡ suc q → after_one s q ≡ false)
    unfolding after_one m d
    mother_step s X un kept full =
        let r = gone s X m un (λ q e. mother_child f q p e) kept full in
        let same : after_one s ≡ taken_out out m s = cond-true (unsupported f s m) (taken_out out m s) (cond (unsupported f s d) (taken_out out d s) s) un in
        (subst (λ t. Lowered s t X) (sym same) r.0, λ q e. ap (λ t. t q) same ∙ r.1 q e)

    father_step : (s : ℕ → Bool) (X : ℕ → Type 0) → unsupported f s m ≡ false → Kept f s (λ q. X q ⊎ (d ≡ suc q)) → Full f s none → Lowered s (after_one s) X
    unfolding after_one m d
    father_step s X un kept full =
        subst (λ t. Lowered s t X) (sym (cond-false (unsupported f s m) (taken_out out m s) (cond (unsupported f s d) (taken_out out d s) s) un))
        (⊎_elim
        (λ u. subst (λ t. Lowered s t X) (sym (cond-true (unsupported f s d) (taken_out out d s) s u)) (gone s X d u (λ q e. father_child f q p e) kept full).0)
        (λ u.
        subst (λ t. Lowered s t X) (sym (cond-false (unsupported f s d) (taken_out out d s) s u))
        (record { less = λ q h. h; kept = no_exemption s X d u kept; full = full; past = λ q l. refl }))
        (cases_Bool (unsupported f s d)))

    any_step : (s : ℕ → Bool) (X : ℕ → Type 0) → Kept f s X → Full f s none → Lowered s (after_one s) X
    any_step s X kept full =
        ⊎_elim (λ u. (mother_step s X u (λ q l h. ⊎_elim (λ x. inl (inl x)) (λ x. inr x) (kept q l h)) full).0)
        (λ u. father_step s X u (λ q l h. ⊎_elim (λ x. inl (inl x)) (λ x. inr x) (kept q l h)) full) (cases_Bool (unsupported f s m))

    -- one who is out is not unsupported
    out_supported : (t : ℕ → Bool) (link : ℕ) → ((q : ℕ) → link ≡ suc q → t q ≡ false) → unsupported f t link ≡ false
    out_supported t zero h = refl
    out_supported t (suc q) h = and_left (t q) (not (supported f t q)) (h q refl)

    both_steps : (s : ℕ → Bool) (X : ℕ → Type 0) → Kept f s (λ q. X q ⊎ (is_child f q p ≡ true)) → Full f s none → Lowered s (after_one (after_one s)) X
    unfolding m d
    both_steps s X kept full =
        let both : Kept f s (λ q. (X q ⊎ (d ≡ suc q)) ⊎ (m ≡ suc q)) =
        λ q l h. ⊎_elim (λ (x : X q ⊎ (is_child f q p ≡ true)).
        ⊎_elim (λ y. inl (inl (inl y))) (λ y. ⊎_elim (λ z. inl (inr z)) (λ z. inl (inl (inr z))) (parent_cases f q p y)) x)
        (λ x. inr x) (kept q l h) in
        ⊎_elim
        (λ u.
        let a = mother_step s (λ q. X q ⊎ (d ≡ suc q)) u both full in
        let b = father_step (after_one s) X (out_supported (after_one s) m a.1) a.0.kept a.0.full in
        chained s (after_one s) (after_one (after_one s)) (λ q. X q ⊎ (d ≡ suc q)) X a.0 b)
        (λ u.
        let a = father_step s X u (no_exemption s (λ q. X q ⊎ (d ≡ suc q)) m u both) full in
        chained s (after_one s) (after_one (after_one s)) X X a (any_step (after_one s) X a.kept a.full))
        (cases_Bool (unsupported f s m))
      where
        chained : (s t u : ℕ → Bool) (X Y : ℕ → Type 0) → Lowered s t X → Lowered t u Y → Lowered s u Y
        chained s t u X Y a b =
            record { less = λ q h. a.less q (b.less q h); kept = b.kept; full = b.full; past = λ q l. b.past q l ∙ a.past q l }

  lowered_right : (n p : ℕ) (s : ℕ → Bool) (X : ℕ → Type 0) → Lowers n p s X
  unfolding lowered Lowers after_one out
  lowered_right zero p s X small kept full = absurd (omega arith)
  lowered_right (suc n) p s X small kept full = both_steps n p (λ r t Y. lowered_right n r t Y) small s X kept full

  -- the set of the lines that live, where c ceases to live
  pub ended_alive :
      (c : ℕ) (s : ℕ → Bool) → c < length f → Kept f s (λ q. q ≡ c) → Full f s none → ((q : ℕ) → length f ≤ q → s q ≡ false) → (q : ℕ) → ended f c s q ≡ alive f q
  unfolding Lowers
  ended_alive c s l kept full past =
      let r : Lowered s (ended f c s) none =
      ⊎_elim
      (λ u.
      subst (λ t. Lowered s t none) (sym (cond-true (unsupported f s (suc c)) (lowered (length f) f c (without_member s c)) s u))
      (one_out (length f) c s none (λ r t Y. lowered_right (length f) r t Y) (ranked.within c l) l u
      (λ q h a. ⊎_elim (λ x. inl (inr x)) (λ x. inr x) (kept q h a)) full).0)
      (λ u.
      subst (λ t. Lowered s t none) (sym (cond-false (unsupported f s (suc c)) (lowered (length f) f c (without_member s c)) s u))
      (record {
        less = λ q h. h;
        kept = λ q h a. ⊎_elim (λ (x : q ≡ c). inr (subst (λ j. supported f s j ≡ true) (sym x) (settled s c u (ap s (sym x) ∙ a)))) (λ x. inr x) (kept q h a);
        full = full;
        past = λ q h. refl;
      }))
      (cases_Bool (unsupported f s (suc c))) in
      kept_full_alive (ended f c s) ranked r.kept r.full (λ q h. r.past q h ∙ past q h)
