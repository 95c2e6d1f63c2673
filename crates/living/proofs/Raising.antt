-- Where somebody begins to live, the set with them and their forebears is that of the lines that live. Assumes nothing.
use Rattle.std.proofs.Common.{◌≡◌, ℕ, zero, suc, ◌<◌, ◌≤◌, Bool, true, false, ◌⊎◌, length, sym, refl, ap, ◌∙◌, subst, inl, inr, ⊎_elim, arith}
use Rattle.std.proofs.lemmas.Bool.{cases_eq, cases_lt, cases_Bool, cond-true, cond-false, or_cases, or_left, or_right, eq-eqb}
use Rattle.law.specs.Family.{person, Family, is_child, children, some_of}
use Rattle.theory.specs.Families.{Ranked}
use Rattle.theory.specs.Living.{alive}
use Rattle.theory.proofs.Families.{mother_child, father_child, parent_cases}
use Rattle.theory.proofs.Children.{some_child, child_of_some}
use Rattle.theory.proofs.Living.{alive_one_set, alive_past}
use Rattle.bits.specs.Sets.{with_member}
use Rattle.bits.proofs.Sets.{with_same, with_other}
use Rattle.living.specs.Marks.{supported, raised, begun}

-- one set within another
abbrev pub Within : (ℕ → Bool) → (ℕ → Bool) → Type 0
Within s t = (q : ℕ) → s q ≡ true → t q ≡ true

pub within_with : (s : ℕ → Bool) (p : ℕ) → Within s (with_member s p)
within_with s p q h = ⊎_elim (λ (e : q ≡ p). cond-true _ _ _ (eq-eqb q p e)) (λ (n : q ≡ p → ⊥). with_other s p q n ∙ h) (cases_eq q p)

-- why somebody is kept in a set: they live, or a child is in it
pub support_cases : (f : Family) (s : ℕ → Bool) (q : ℕ) → supported f s q ≡ true → ((person f q).lives ≡ true) ⊎ ((c : ℕ) × (is_child f q c ≡ true) × (s c ≡ true))
support_cases f s q h = ⊎_elim (λ a. inl a) (λ a. inr (child_of_some f s q a)) (or_cases (person f q).lives (some_of s (children f q)) h)

pub support_lives : (f : Family) (s : ℕ → Bool) (q : ℕ) → (person f q).lives ≡ true → supported f s q ≡ true
support_lives f s q h = or_left (person f q).lives (some_of s (children f q)) h

pub support_child : (f : Family) (s : ℕ → Bool) (q c : ℕ) → is_child f q c ≡ true → s c ≡ true → supported f s q ≡ true
support_child f s q c k h = or_right (person f q).lives (some_of s (children f q)) (some_child f s q c k h)

pub support_more : (f : Family) (s t : ℕ → Bool) (q : ℕ) → Within s t → supported f s q ≡ true → supported f t q ≡ true
support_more f s t q w h =
    ⊎_elim (λ a. support_lives f t q a) (λ (a : (c : ℕ) × (is_child f q c ≡ true) × (s c ≡ true)). support_child f t q a.0 a.1 (w a.0 a.2)) (support_cases f s q h)

-- Everybody in the set is kept there, but for those that X exempts; everybody whom something would keep in it is in it, but for those that X exempts.
abbrev pub Kept : Family → (ℕ → Bool) → (ℕ → Type 0) → Type 0
Kept f s X = (q : ℕ) → q < length f → s q ≡ true → X q ⊎ (supported f s q ≡ true)

abbrev pub Full : Family → (ℕ → Bool) → (ℕ → Type 0) → Type 0
Full f s X = (q : ℕ) → q < length f → supported f s q ≡ true → X q ⊎ (s q ≡ true)

abbrev pub none : ℕ → Type 0
none q = ⊥

-- a set that is both without exemption, and has nobody past the end, is that of the lines that live
same_tests : (x y : Bool) → (x ≡ true → y ≡ true) → (y ≡ true → x ≡ true) → x ≡ y
same_tests true y a b = sym (a refl)
same_tests false true a b = b refl
same_tests false false a b = refl

pub kept_full_alive : {f : Family} {rk : ℕ → ℕ} (s : ℕ → Bool) → Ranked f rk → Kept f s none → Full f s none → ((q : ℕ) → length f ≤ q → s q ≡ false) → (q : ℕ) → s q ≡ alive f q
kept_full_alive {f} s ranked kept full past q =
    ⊎_elim
    (λ (l : q < length f).
    alive_one_set ranked s
    (λ p h. same_tests (s p) (supported f s p)
    (λ a. ⊎_elim (λ (x : ⊥). absurd x) (λ x. x) (kept p h a)) (λ a. ⊎_elim (λ (x : ⊥). absurd x) (λ x. x) (full p h a)))
    q l)
    (λ (l : length f ≤ q). past q l ∙ sym (alive_past ranked q l))
    (cases_lt q (length f))

module _ {f : Family} {rk : ℕ → ℕ} (ranked : Ranked f rk) where
  pub record Raised (s t : ℕ → Bool) (X : ℕ → Type 0) (link : ℕ) : Type 0 where
    pub more : Within s t
    pub kept : Kept f t none
    pub full : Full f t X
    pub there : (p : ℕ) → link ≡ suc p → t p ≡ true
    pub past : (q : ℕ) → length f ≤ q → t q ≡ s q

  -- what somebody, given as 0 or one more than a number, needs to be raised
  Raises : ℕ → ℕ → (ℕ → Bool) → (ℕ → Type 0) → Type 0
  Raises n link s X =
      ((p : ℕ) → link ≡ suc p → (rk p < n) × (p < length f) × (supported f s p ≡ true)) → Kept f s none → Full f s (λ q. X q ⊎ (link ≡ suc q)) → Raised s (raised n f link s) X link

  raise_step :
      (n p : ℕ) (s : ℕ → Bool) (X : ℕ → Type 0) → ((link : ℕ) (t : ℕ → Bool) (Y : ℕ → Type 0) → Raises n link t Y) →
      ((r : ℕ) → suc p ≡ suc r → (rk r < suc n) × (r < length f) × (supported f s r ≡ true)) → Kept f s none → Full f s (λ q. X q ⊎ (suc p ≡ suc q)) →
      Raised s (raised n f (person f p).father (raised n f (person f p).mother (with_member s p))) X (suc p)
  unfolding Raises
  raise_step n p s X raise at kept full = joined
    where
      m : ℕ
      m = (person f p).mother

      d : ℕ
      d = (person f p).father

      u : ℕ → Bool
      u = with_member s p

      kept_u : Kept f u none
      kept_u q l h =
          ⊎_elim (λ (e : q ≡ p). inr (support_more f s u q (within_with s p) (ap (λ r. supported f s r) e ∙ (at p refl).2)))
          (λ (ne : q ≡ p → ⊥).
          ⊎_elim (λ (x : ⊥). absurd x) (λ x. inr (support_more f s u q (within_with s p) x)) (kept q l (sym (with_other s p q ne) ∙ h)))
          (cases_eq q p)

      full_u : Full f u (λ q. (X q ⊎ (d ≡ suc q)) ⊎ (m ≡ suc q))
      full_u q l h =
          ⊎_elim (λ (v : (person f q).lives ≡ true). old q l (support_lives f s q v))
          (λ (a : (c : ℕ) × (is_child f q c ≡ true) × (u c ≡ true)).
          ⊎_elim
          (λ (e : a.0 ≡ p).
          ⊎_elim (λ (x : m ≡ suc q). inl (inr x)) (λ (x : d ≡ suc q). inl (inl (inr x))) (parent_cases f q p (ap (λ r. is_child f q r) (sym e) ∙ a.1)))
          (λ (ne : a.0 ≡ p → ⊥). old q l (support_child f s q a.0 a.1 (sym (with_other s p a.0 ne) ∙ a.2)))
          (cases_eq a.0 p))
          (support_cases f u q h)
        where
          old : (q : ℕ) → q < length f → supported f s q ≡ true → ((X q ⊎ (d ≡ suc q)) ⊎ (m ≡ suc q)) ⊎ (u q ≡ true)
          old q l h =
              ⊎_elim (λ (x : X q ⊎ (suc p ≡ suc q)).
              ⊎_elim (λ y. inl (inl (inl y))) (λ (y : suc p ≡ suc q). inr (let z : q ≡ p = omega arith in ap u z ∙ with_same s p)) x)
              (λ x. inr (within_with s p q x)) (full q l h)

      up : (q : ℕ) (t : ℕ → Bool) → is_child f q p ≡ true → t p ≡ true → (rk q < n) × (q < length f) × (supported f t q ≡ true)
      up q t k h = let r = ranked.up q p k in let a = at p refl in (omega arith, ranked.here q p k, support_child f t q p k h)

      first : Raised u (raised n f m u) (λ q. X q ⊎ (d ≡ suc q)) m
      first = raise m u (λ q. X q ⊎ (d ≡ suc q)) (λ q e. up q u (mother_child f q p e) (with_same s p)) kept_u full_u

      second : Raised (raised n f m u) (raised n f d (raised n f m u)) X d
      second =
          raise d (raised n f m u) X (λ q e. up q (raised n f m u) (father_child f q p e) (first.more p (with_same s p))) first.kept first.full

      joined : Raised s (raised n f d (raised n f m u)) X (suc p)
      joined =
          record {
            more = λ q h. second.more q (first.more q (within_with s p q h));
            kept = second.kept;
            full = second.full;
            there = λ r e. let z : r ≡ p = omega arith in ap (raised n f d (raised n f m u)) z ∙ second.more p (first.more p (with_same s p));
            past =
                λ q l. second.past q l ∙ first.past q l ∙ with_other s p q (λ e. let a = at p refl in omega arith);
          }

  raised_right : (n link : ℕ) (s : ℕ → Bool) (X : ℕ → Type 0) → Raises n link s X
  unfolding raised Raises
  raised_right n zero s X at kept full =
      subst (λ t. Raised s t X 0) (sym (stays n))
      (record {
        more = λ q h. h;
        kept = kept;
        full = λ q l h. ⊎_elim (λ (x : X q ⊎ (0 ≡ suc q)). ⊎_elim (λ y. inl y) (λ (y : 0 ≡ suc q). absurd (omega arith)) x) (λ x. inr x) (full q l h);
        there = λ p e. absurd (omega arith);
        past = λ q l. refl;
      })
    where
      stays : (k : ℕ) → raised k f zero s ≡ s
      stays zero = refl
      stays (suc k) = refl
  raised_right zero (suc p) s X at kept full = let h = at p refl in absurd (omega arith)
  raised_right (suc n) (suc p) s X at kept full =
      elim (cases_Bool (s p)) [
        | inl e ↦
            subst (λ t. Raised s t X (suc p)) (sym (cond-true (s p) s (raised n f (person f p).father (raised n f (person f p).mother (with_member s p))) e))
            (record {
              more = λ q h. h;
              kept = kept;
              full =
                  λ q l h. ⊎_elim (λ (x : X q ⊎ (suc p ≡ suc q)). ⊎_elim (λ y. inl y) (λ (y : suc p ≡ suc q). inr (let z : p ≡ q = omega arith in ap s (sym z) ∙ e)) x) (λ x. inr x) (full q l h);
              there = λ r d. let z : p ≡ r = omega arith in ap s (sym z) ∙ e;
              past = λ q l. refl;
            })
        | inr e ↦
            subst (λ t. Raised s t X (suc p)) (sym (cond-false (s p) s (raised n f (person f p).father (raised n f (person f p).mother (with_member s p))) e))
            (raise_step n p s X (λ link t Y. raised_right n link t Y) at kept full)
      ]

  -- the set of the lines that live, where c begins to live
  pub begun_alive :
      (c : ℕ) (s : ℕ → Bool) → c < length f → (person f c).lives ≡ true → Kept f s none → Full f s (λ q. q ≡ c) → ((q : ℕ) → length f ≤ q → s q ≡ false) →
      (q : ℕ) → begun f c s q ≡ alive f q
  unfolding Raises
  begun_alive c s l v kept full past =
      let r =
      raised_right (length f) (suc c) s none
      (λ p e. let z : p ≡ c = omega arith in (subst (λ i. rk i < length f) (sym z) (ranked.within c l), omega arith, subst (λ i. supported f s i ≡ true) (sym z) (support_lives f s c v))) kept
      (λ q h a. ⊎_elim (λ (x : q ≡ c). inl (inr (ap suc (sym x)))) (λ x. inr x) (full q h a)) in
      kept_full_alive (begun f c s) ranked r.kept r.full (λ q h. r.past q h ∙ past q h)
