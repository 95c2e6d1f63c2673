-- Every family that calls lead to is well-formed: each change keeps it so. Assumes nothing.
use Rattle.std.proofs.Common.{◌≡◌, ℕ, suc, ◌-◌, ◌<◌, ◌≤◌, true, cond, ◌||◌, eqb, ◌≢◌, ◌⊎◌, List, [], ◌∷◌, ◌++◌, length, set, sym, refl, ap, ◌∙◌, subst, ap₂, inl, inr, ⊎_elim, arith}
use Rattle.std.proofs.lemmas.List.{get_or_append_left, get_or_push, get_or_past, length_push, get_or-set_same, get_or-set_other, length-set, set_past}
use Rattle.std.proofs.lemmas.Bool.{both_ways, cases_lt, cases_order, cases_eq, or_cases, or_left, or_right, eqb-true, eq-eqb, ne_eqb, cond-true, cond-false, cond_both}
use Rattle.law.specs.Family.{Person, person, Family, nobody, is_child}
use Rattle.law.specs.Calls.{Call, born, wed, parted, dies, estate_of, unreadable, Limits, refusal_of, refusal, newborn, with_spouse, dead, changed, after}
use Rattle.law.specs.Promise.{ran, Reached}
use Rattle.theory.specs.Families.{Ranked, WellFormed, ParentsFirst, SameParents, ReachedWellFormed}
use Rattle.theory.proofs.Refusals.{by_rules, born_taken, wed_taken, parted_taken}

abbrev Mutual : Family → Type 0
Mutual f = (p q : ℕ) → (person f p).spouse ≡ suc q → (q < length f) × ((person f q).spouse ≡ suc p) × (p ≢ q)

-- past the last stands nobody, who has no spouse and no parents, and does not live
pub past_nobody : (f : Family) (p : ℕ) → length f ≤ p → person f p ≡ nobody
past_nobody f p l = get_or_past f p nobody l

pub married_there : (f : Family) (p q : ℕ) → (person f p).spouse ≡ suc q → p < length f
married_there f p q e =
    ⊎_elim (λ (l : p < length f). l) (λ (l : length f ≤ p). absurd (let z : 0 ≡ suc q = sym (ap (λ (x : Person). x.spouse) (past_nobody f p l)) ∙ e in omega arith))
    (cases_lt p (length f))

pub lives_there : (f : Family) (p : ℕ) → (person f p).lives ≡ true → p < length f
lives_there f p v =
    ⊎_elim (λ (l : p < length f). l) (λ (l : length f ≤ p). absurd (both_ways (person f p).lives (ap (λ (x : Person). x.lives) (past_nobody f p l)) v))
    (cases_lt p (length f))

-- p is the mother or the father of c
pub parent_cases : (f : Family) (p c : ℕ) → is_child f p c ≡ true → ((person f c).mother ≡ suc p) ⊎ ((person f c).father ≡ suc p)
parent_cases f p c h =
    ⊎_elim (λ e. inl (eqb-true (person f c).mother (suc p) e)) (λ e. inr (eqb-true (person f c).father (suc p) e))
    (or_cases (eqb (person f c).mother (suc p)) (eqb (person f c).father (suc p)) h)

pub mother_child : (f : Family) (p c : ℕ) → (person f c).mother ≡ suc p → is_child f p c ≡ true
mother_child f p c e = or_left (eqb (person f c).mother (suc p)) (eqb (person f c).father (suc p)) (eq-eqb (person f c).mother (suc p) e)

pub father_child : (f : Family) (p c : ℕ) → (person f c).father ≡ suc p → is_child f p c ≡ true
father_child f p c e = or_right (eqb (person f c).mother (suc p)) (eqb (person f c).father (suc p)) (eq-eqb (person f c).father (suc p) e)

pub child_there : (f : Family) (p c : ℕ) → is_child f p c ≡ true → c < length f
child_there f p c h =
    ⊎_elim (λ (l : c < length f). l)
    (λ (l : length f ≤ c).
    let n = past_nobody f c l in
    absurd
    (⊎_elim (λ e. let z : 0 ≡ suc p = sym (ap (λ (x : Person). x.mother) n) ∙ e in omega arith)
    (λ e. let z : 0 ≡ suc p = sym (ap (λ (x : Person). x.father) n) ∙ e in omega arith) (parent_cases f p c h)))
    (cases_lt c (length f))

-- somebody of a family with one more, and of a family in which one is changed
pub person_push : (f : Family) (x : Person) (c : ℕ) (P : Person → Type 0) → (c < length f → P (person f c)) → (c ≡ length f → P x) → (length f < c → P nobody)
    → P (person (f ++ x ∷ []) c)
person_push f x c P old new past =
    ⊎_elim (λ (e : c ≡ length f). rw (get_or_push f x nobody c (sym e)) (new e))
    (⊎_elim (λ (l : c < length f). rw (get_or_append_left f (x ∷ []) nobody c l) (old l))
    (λ (l : length f < c). rw (get_or_past (f ++ x ∷ []) c nobody (omega (arith, length_push f x))) (past l)))
    (cases_order c (length f))

pub person_set : (f : Family) (a : ℕ) (x : Person) (c : ℕ) (P : Person → Type 0) → a < length f → (c ≡ a → P x) → (c ≢ a → P (person f c)) → P (person (set f a x) c)
person_set f a x c P l here other =
    ⊎_elim (λ (e : c ≡ a). subst (λ (z : ℕ). P (person (set f a x) z)) (sym e) (rw (get_or-set_same f a x nobody l) (here e)))
    (λ (n : c ≡ a → ⊥). rw (get_or-set_other f a c x nobody n) (other n)) (cases_eq c a)

-- what is the same of the one who is changed is the same of everybody
pub same_set : {A : Type 0} (k : Person → A) (f : Family) (a : ℕ) (x : Person) (c : ℕ) → k x ≡ k (person f a) → k (person (set f a x) c) ≡ k (person f c)
same_set k f a x c e =
    ⊎_elim
    (λ (l : a < length f).
    person_set f a x c (λ (z : Person). k z ≡ k (person f c)) l (λ q. e ∙ ap (λ (n : ℕ). k (person f n)) (sym q)) (λ _. refl))
    (λ (l : length f ≤ a). ap (λ (h : Family). k (person h c)) (set_past f a x l)) (cases_lt a (length f))

pub same_two : {A : Type 0} (k : Person → A) (f : Family) (a b : ℕ) (x y : Person) (c : ℕ) → k x ≡ k (person f a) → k y ≡ k (person f b)
    → k (person (set (set f a x) b y) c) ≡ k (person f c)
same_two k f a b x y c p q = same_set k (set f a x) b y c (q ∙ sym (same_set k f a x b p)) ∙ same_set k f a x c p

-- families with the same parents
pub parents_set : (f : Family) (a : ℕ) (x : Person) → x.mother ≡ (person f a).mother → x.father ≡ (person f a).father → SameParents f (set f a x)
parents_set f a x m d = record {
  size = length-set f a x;
  mother = λ c. same_set (λ (z : Person). z.mother) f a x c m;
  father = λ c. same_set (λ (z : Person). z.father) f a x c d;
}

pub parents_two : (f : Family) (a b : ℕ) (x y : Person) → x.mother ≡ (person f a).mother → x.father ≡ (person f a).father → y.mother ≡ (person f b).mother
    → y.father ≡ (person f b).father → SameParents f (set (set f a x) b y)
parents_two f a b x y ma da mb db = record {
  size = length-set (set f a x) b y ∙ length-set f a x;
  mother = λ c. same_two (λ (z : Person). z.mother) f a b x y c ma mb;
  father = λ c. same_two (λ (z : Person). z.father) f a b x y c da db;
}

pub child_same : (f g : Family) → SameParents f g → (p c : ℕ) → is_child g p c ≡ is_child f p c
child_same f g s p c = ap₂ (λ (x y : ℕ). eqb x (suc p) || eqb y (suc p)) (s.mother c) (s.father c)

pub ranked_same : (f g : Family) (rk : ℕ → ℕ) → SameParents f g → Ranked f rk → Ranked g rk
ranked_same f g rk s r = record {
  up = λ p c k. r.up p c (sym (child_same f g s p c) ∙ k);
  within = λ p l. let z = r.within p (omega (arith, s.size)) in omega (arith, s.size);
  here = λ p c k. let z = r.here p c (sym (child_same f g s p c) ∙ k) in omega (arith, s.size);
}

pub first_same : (f g : Family) → SameParents f g → ParentsFirst f → ParentsFirst g
first_same f g s h = record { before = λ c. let b = h.before c in (omega (arith, s.mother c), omega (arith, s.father c)) }

-- the number is a rank where parents are born before
pub number_ranked : (f : Family) → ParentsFirst f → Ranked f (λ p. p)
number_ranked f h = record { up = later; within = λ p l. l; here = λ p c k. let a = later p c k in let b = child_there f p c k in omega arith }
  where
    later : (p c : ℕ) → is_child f p c ≡ true → p < c
    later p c k = let b = h.before c in ⊎_elim (λ e. omega arith) (λ e. omega arith) (parent_cases f p c k)

-- one more person, whose parents are there: they have the highest rank
module _ (f : Family) (x : Person) (m : x.mother ≤ length f) (d : x.father ≤ length f) where
  pub first_push : ParentsFirst f → ParentsFirst (f ++ x ∷ [])
  first_push h = record {
    before = λ c.
        person_push f x c (λ (y : Person). (y.mother ≤ c) × (y.father ≤ c)) (λ _. h.before c) (λ e. (omega arith, omega arith)) (λ _. (omega arith, omega arith));
  }

  parent_old : (p : ℕ) → (eqb x.mother (suc p) || eqb x.father (suc p)) ≡ true → p < length f
  parent_old p k =
      ⊎_elim (λ e. let z = eqb-true x.mother (suc p) e in omega arith) (λ e. let z = eqb-true x.father (suc p) e in omega arith)
      (or_cases (eqb x.mother (suc p)) (eqb x.father (suc p)) k)

  pub parent_push : (rk : ℕ → ℕ) → Ranked f rk → (p c : ℕ) → is_child (f ++ x ∷ []) p c ≡ true → (p < length f) × ((c ≡ length f) ⊎ ((c < length f) × (is_child f p c ≡ true)))
  parent_push rk r p c =
      person_push f x c
      (λ (y : Person). (eqb y.mother (suc p) || eqb y.father (suc p)) ≡ true → (p < length f) × ((c ≡ length f) ⊎ ((c < length f) × (is_child f p c ≡ true))))
      (λ l k. (r.here p c k, inr (l, k))) (λ e k. (parent_old p k, inl e))
      (λ _ k. absurd (⊎_elim (λ e. let z = eqb-true 0 (suc p) e in omega arith) (λ e. let z = eqb-true 0 (suc p) e in omega arith) (or_cases (eqb 0 (suc p)) (eqb 0 (suc p)) k)))

  rank_push : (ℕ → ℕ) → ℕ → ℕ
  rank_push rk p = cond (eqb p (length f)) (length f) (rk p)

  rank_old : (rk : ℕ → ℕ) (p : ℕ) → p < length f → rank_push rk p ≡ rk p
  unfolding rank_push
  rank_old rk p l = cond-false (eqb p (length f)) (length f) (rk p) (ne_eqb p (length f) (λ e. omega arith))

  rank_new : (rk : ℕ → ℕ) (p : ℕ) → p ≡ length f → rank_push rk p ≡ length f
  unfolding rank_push
  rank_new rk p e = cond-true (eqb p (length f)) (length f) (rk p) (eq-eqb p (length f) e)

  ranked_push : (rk : ℕ → ℕ) → Ranked f rk → Ranked (f ++ x ∷ []) (rank_push rk)
  ranked_push rk r = record {
    up = λ p c k.
        let t = parent_push rk r p c k in
        let a = rank_old rk p t.0 in
        let w = r.within p t.0 in
        ⊎_elim (λ (e : c ≡ length f). omega (arith, rank_new rk c e))
        (λ (e : (c < length f) × (is_child f p c ≡ true)). omega (arith, rank_old rk c e.0, r.up p c e.1)) t.1;
    within = λ p l.
        ⊎_elim (λ (e : p ≡ length f). omega (arith, rank_new rk p e, length_push f x))
        (λ (n : p ≡ length f → ⊥).
        let q : p < length f = omega (arith, length_push f x) in
        omega (arith, rank_old rk p q, r.within p q, length_push f x)) (cases_eq p (length f));
    here = λ p c k. let t = parent_push rk r p c k in omega (arith, length_push f x);
  }

  pub push_ranked : (rk : ℕ → ℕ) → Ranked f rk → (rk' : ℕ → ℕ) × Ranked (f ++ x ∷ []) rk'
  push_ranked rk r = (rank_push rk, ranked_push rk r)

  pub push_well_formed : x.spouse ≡ 0 → WellFormed f → WellFormed (f ++ x ∷ [])
  push_well_formed n w = record { rank = rank_push w.rank; ranked = ranked_push w.rank w.ranked; spouses = mutual_push }
    where
      mutual_push : Mutual (f ++ x ∷ [])
      mutual_push p q =
          person_push f x p
          (λ (y : Person). y.spouse ≡ suc q → (q < length (f ++ x ∷ [])) × ((person (f ++ x ∷ []) q).spouse ≡ suc p) × (p ≢ q))
          (λ _ e.
          let r = w.spouses p q e in
          (omega (arith, length_push f x), rw (get_or_append_left f (x ∷ []) nobody q r.0) r.1, r.2))
          (λ _ e. absurd (omega arith)) (λ _ e. absurd (omega arith))

pub born_well_formed : (f : Family) (m d : ℕ) → m ≤ length f → d ≤ length f → WellFormed f → WellFormed (f ++ newborn m d ∷ [])
born_well_formed f m d a b w = push_well_formed f (newborn m d) a b refl w

-- one changed, with the same parents and spouse: a death, or coming to life again
pub set_well_formed : (f : Family) (a : ℕ) (x : Person) → x.mother ≡ (person f a).mother → x.father ≡ (person f a).father → x.spouse ≡ (person f a).spouse
    → WellFormed f → WellFormed (set f a x)
set_well_formed f a x m d s w =
    record { rank = w.rank; ranked = ranked_same f (set f a x) w.rank (parents_set f a x m d) w.ranked; spouses = mutual_set }
  where
    same : (c : ℕ) → (person (set f a x) c).spouse ≡ (person f c).spouse
    same c = same_set (λ (z : Person). z.spouse) f a x c s

    mutual_set : Mutual (set f a x)
    mutual_set p q e = let r = w.spouses p q (sym (same p) ∙ e) in (omega (arith, length-set f a x), same q ∙ r.1, r.2)

pub dies_well_formed : (f : Family) (a : ℕ) → WellFormed f → WellFormed (set f a (dead (person f a)))
dies_well_formed f a w = set_well_formed f a (dead (person f a)) refl refl refl w

-- two changed: what is said of each
person_two : (f : Family) (a b : ℕ) (x y : Person) (c : ℕ) (P : Person → Type 0) → a < length f → b < length f → (c ≡ b → P y) → (c ≢ b → c ≡ a → P x)
    → (c ≢ b → c ≢ a → P (person f c)) → P (person (set (set f a x) b y) c)
person_two f a b x y c P la lb hb ha ho = person_set (set f a x) b y c P (rw (length-set f a x) lb) hb (λ nb. person_set f a x c P la (ha nb) (ho nb))

pub wed_well_formed : (f : Family) (a b : ℕ) → a < length f → b < length f → a ≢ b → (person f a).spouse ≡ 0 → (person f b).spouse ≡ 0 → WellFormed f
    → WellFormed (set (set f a (with_spouse (person f a) (suc b))) b (with_spouse (person f b) (suc a)))
wed_well_formed f a b la lb ab sa sb w =
    record { rank = w.rank; ranked = ranked_same f g w.rank (parents_two f a b x y refl refl refl refl) w.ranked; spouses = mutual_wed }
  where
    x : Person
    x = with_spouse (person f a) (suc b)

    y : Person
    y = with_spouse (person f b) (suc a)

    g : Family
    g = set (set f a x) b y

    size : length g ≡ length f
    size = length-set (set f a x) b y ∙ length-set f a x

    mutual_wed : Mutual g
    mutual_wed p q =
        person_two f a b x y p (λ (z : Person). z.spouse ≡ suc q → (q < length g) × ((person g q).spouse ≡ suc p) × (p ≢ q)) la lb
        (λ pb e. (
          omega (arith, size),
          person_two f a b x y q (λ (z : Person). z.spouse ≡ suc p) la lb (λ qb. absurd (omega arith)) (λ _ _. omega arith) (λ _ qa. absurd (omega arith)),
          omega arith,
        ))
        (λ _ pa e. (
          omega (arith, size),
          person_two f a b x y q (λ (z : Person). z.spouse ≡ suc p) la lb (λ qb. omega arith) (λ qb _. absurd (omega arith)) (λ qb _. absurd (omega arith)),
          omega arith,
        ))
        (λ pb pa e.
        let r = w.spouses p q e in (
          omega (arith, size),
          person_two f a b x y q (λ (z : Person). z.spouse ≡ suc p) la lb
              (λ qb. absurd (let z : (person f q).spouse ≡ 0 = ap (λ (k : ℕ). (person f k).spouse) qb ∙ sb in omega (arith, r.1)))
              (λ _ qa. absurd (let z : (person f q).spouse ≡ 0 = ap (λ (k : ℕ). (person f k).spouse) qa ∙ sa in omega (arith, r.1))) (λ _ _. r.1),
          r.2,
        ))

pub parted_well_formed : (f : Family) (a : ℕ) → a < length f → (person f a).spouse ≢ 0 → WellFormed f
    → WellFormed (set (set f a (with_spouse (person f a) 0)) ((person f a).spouse - 1) (with_spouse (person f ((person f a).spouse - 1)) 0))
parted_well_formed f a la sa w =
    record { rank = w.rank; ranked = ranked_same f g w.rank (parents_two f a b x y refl refl refl refl) w.ranked; spouses = mutual_parted }
  where
    b : ℕ
    b = (person f a).spouse - 1

    m : (b < length f) × ((person f b).spouse ≡ suc a) × (a ≢ b)
    m = w.spouses a b (omega arith)

    x : Person
    x = with_spouse (person f a) 0

    y : Person
    y = with_spouse (person f b) 0

    g : Family
    g = set (set f a x) b y

    size : length g ≡ length f
    size = length-set (set f a x) b y ∙ length-set f a x

    mutual_parted : Mutual g
    mutual_parted p q =
        person_two f a b x y p (λ (z : Person). z.spouse ≡ suc q → (q < length g) × ((person g q).spouse ≡ suc p) × (p ≢ q)) la m.0
        (λ pb e. absurd (omega arith)) (λ _ pa e. absurd (omega arith))
        (λ pb pa e.
        let r = w.spouses p q e in (
          omega (arith, size),
          person_two f a b x y q (λ (z : Person). z.spouse ≡ suc p) la m.0
              (λ qb. absurd (pa (let z : suc a ≡ suc p = sym m.1 ∙ (ap (λ (k : ℕ). (person f k).spouse) (sym qb) ∙ r.1) in omega arith)))
              (λ _ qa. absurd (pb (let z : (person f a).spouse ≡ suc p = ap (λ (k : ℕ). (person f k).spouse) (sym qa) ∙ r.1 in omega arith))) (λ _ _. r.1),
          r.2,
        ))

-- each call, and every list of calls
changed_well_formed : (l : Limits) (f : Family) (c : Call) → refusal_of l f c ≡ 0 → WellFormed f × ParentsFirst f → WellFormed (changed f c) × ParentsFirst (changed f c)
unfolding changed
changed_well_formed l f (born m d) e (w, h) =
    let t = born_taken l f m d e in
    (born_well_formed f m d t.0 t.1 w, first_push f (newborn m d) t.0 t.1 h)
changed_well_formed l f (wed a b) e (w, h) =
    let t = wed_taken l f a b e in (
      wed_well_formed f a b t.0 t.1 t.2 t.3 t.4 w,
      first_same f (set (set f a (with_spouse (person f a) (suc b))) b (with_spouse (person f b) (suc a)))
          (parents_two f a b (with_spouse (person f a) (suc b)) (with_spouse (person f b) (suc a)) refl refl refl refl) h,
    )
changed_well_formed l f (parted a) e (w, h) =
    let t = parted_taken l f a e in
    let b = (person f a).spouse - 1 in (
      parted_well_formed f a t.0 t.1 w,
      first_same f (set (set f a (with_spouse (person f a) 0)) b (with_spouse (person f b) 0))
          (parents_two f a b (with_spouse (person f a) 0) (with_spouse (person f b) 0) refl refl refl refl) h,
    )
changed_well_formed l f (dies a) e (w, h) = (dies_well_formed f a w, first_same f (set f a (dead (person f a))) (parents_set f a (dead (person f a)) refl refl) h)
changed_well_formed l f (estate_of a) e s = s
changed_well_formed l f (unreadable n) e s = s

pub after_well_formed : (l : Limits) (f : Family) (c : Call) → WellFormed f × ParentsFirst f → WellFormed (after l f c) × ParentsFirst (after l f c)
after_well_formed l f c s =
    cond_both (eqb (refusal l f c) 0) (changed f c) f (λ (g : Family). WellFormed g × ParentsFirst g)
    (λ e. changed_well_formed l f c (by_rules l f c (eqb-true (refusal l f c) 0 e)) s) (λ _. s)

ran_well_formed : (l : Limits) (f : Family) (cs : List Call) → WellFormed f × ParentsFirst f → WellFormed (ran l f cs) × ParentsFirst (ran l f cs)
unfolding ran
ran_well_formed l f [] s = s
ran_well_formed l f (c ∷ cs) s = ran_well_formed l (after l f c) cs (after_well_formed l f c s)

nobody_first : ParentsFirst []
nobody_first = record { before = λ c. (omega arith, omega arith) }

pub nobody_well_formed : WellFormed []
nobody_well_formed = record { rank = λ p. p; ranked = number_ranked [] nobody_first; spouses = λ p q e. absurd (omega arith) }

pub well_formed_reached : (l : Limits) (f : Family) → Reached l f → WellFormed f
well_formed_reached l f r = subst WellFormed r.1 (ran_well_formed l [] r.0 (nobody_well_formed, nobody_first)).0

pub first_reached : (l : Limits) (f : Family) → Reached l f → ParentsFirst f
first_reached l f r = subst ParentsFirst r.1 (ran_well_formed l [] r.0 (nobody_well_formed, nobody_first)).1

pub reached_well_formed : ReachedWellFormed
unfolding ReachedWellFormed
reached_well_formed l f r = (well_formed_reached l f r, first_reached l f r)
