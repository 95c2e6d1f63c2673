-- Validity is kept by every change of a family. Assumes nothing.
use Rattle.std.proofs.Common.{◌≡◌, ℕ, zero, suc, ◌+◌, ◌-◌, ◌<◌, ◌≤◌, true, not, ◌&&◌, ◌||◌, eqb, ltb, leb, ◌≢◌, [], ◌∷◌, ◌++◌, length, set, sym, refl, ap, ◌∙◌, subst, ⊎_elim, add-one, arith}
use Rattle.std.proofs.lemmas.Bool.{and_parts, and_from, or_cases, or_left, or_right, ltb-true, lt-ltb, leb-true, le-leb, eqb-true, eqb-false, eq-eqb, ne_eqb, not-true, cases_lt, cases_eq}
use Rattle.std.proofs.lemmas.List.{length_push, length-set, get_or_append_left, get_or_push, get_or-set_same, get_or-set_other}
use Rattle.law.specs.Family.{Person, Family, person, nobody}
use Rattle.law.specs.Calls.{newborn, dead, with_spouse}
use Rattle.theory.specs.Families.{Ranked, WellFormed, ParentsFirst}
use Rattle.theory.proofs.Families.{past_nobody, number_ranked, married_there, parents_two, first_same, wed_well_formed, parted_well_formed}
use Rattle.children.specs.Links.{TwoParents}
use Rattle.people.specs.Layout.{parents_fit, spouse_fits, Valid}

pub valid_none : Valid []
valid_none p h = absurd (omega arith)

-- a spouse still fits among more persons, if theirs is still the same
spouse_more : (n k p s b c : ℕ) → n ≤ k → (s - 1 < n → c ≡ b) → spouse_fits n p s b ≡ true → spouse_fits k p s c ≡ true
spouse_more n k p s b c le same e =
    ⊎_elim (λ z. or_left _ _ z)
    (λ z. let u = and_parts _ _ z in
    let lt : s - 1 < n = ltb-true (s - 1) n u.0 in
    let v : (not (eqb (s - 1) p) && eqb c (p + 1)) ≡ true = ap (λ x. not (eqb (s - 1) p) && eqb x (p + 1)) (same lt) ∙ u.1 in
    or_right (eqb s 0) _ (and_from _ _ (lt-ltb (s - 1) k (omega arith)) v))
    (or_cases (eqb s 0) _ e)

-- parents whom a child may have are not the same, unless unknown
pub apart_parents : (p m d : ℕ) → parents_fit p m d ≡ true → m ≡ d → m ≡ 0
apart_parents p m d u e =
    let v : (leb d p && (eqb m 0 || not (eqb m d))) ≡ true = (and_parts _ _ u).1 in
    ⊎_elim (λ z. eqb-true m 0 z) (λ z. absurd (eqb-false m d (not-true (eqb m d) z) e)) (or_cases (eqb m 0) (not (eqb m d)) (and_parts _ _ v).1)

pub valid_born : (f : Family) (m d : ℕ) → Valid f → parents_fit (length f) m d ≡ true → Valid (f ++ (newborn m d ∷ []))
valid_born f m d ok e p h =
    let q = newborn m d in
    let g = f ++ (q ∷ []) in
    let l = length_push f q in
    let left : (i : ℕ) → i < length f → person g i ≡ person f i = λ i b. get_or_append_left f (q ∷ []) nobody i b in
    ⊎_elim
    (λ lt.
    let u = and_parts _ _ (ok p lt) in
    let s = (person f p).spouse in
    subst (λ x. (parents_fit p x.mother x.father && spouse_fits (length g) p x.spouse (person g (x.spouse - 1)).spouse) ≡ true) (sym (left p lt))
    (and_from _ _ u.0
    (spouse_more (length f) (length g) p s (person f (s - 1)).spouse (person g (s - 1)).spouse (omega arith) (λ b. ap (λ x. x.spouse) (left (s - 1) b)) u.1)))
    (λ ge.
    let at : p ≡ length f = omega arith in
    let same : person g p ≡ q = get_or_push f q nobody p (sym at) in
    subst (λ x. (parents_fit p x.mother x.father && spouse_fits (length g) p x.spouse (person g (x.spouse - 1)).spouse) ≡ true) (sym same)
    (and_from _ _ (subst (λ k. parents_fit k m d ≡ true) (sym at) e) refl))
    (cases_lt p (length f))

-- two families of as many persons, each with the same parents and the same spouse
pub valid_same :
    (f g : Family) → length g ≡ length f → ((p : ℕ) → ((person g p).mother ≡ (person f p).mother) × ((person g p).father ≡ (person f p).father) × ((person g p).spouse ≡ (person f p).spouse)) → Valid f → Valid g
valid_same f g l same ok p lt =
    let w = same p in
    let s : (person g ((person g p).spouse - 1)).spouse ≡ (person f ((person f p).spouse - 1)).spouse =
    (same ((person g p).spouse - 1)).2 ∙ ap (λ x. (person f (x - 1)).spouse) w.2 in
    (λ i. parents_fit p (w.0 i) (w.1 i) && spouse_fits (l i) p (w.2 i) (s i)) ∙ ok p (omega arith)

-- somebody written over by one with the same parents and the same spouse
pub valid_set :
    (f : Family) (a : ℕ) (q : Person) → a < length f → q.mother ≡ (person f a).mother → q.father ≡ (person f a).father → q.spouse ≡ (person f a).spouse → Valid f → Valid (set f a q)
valid_set f a q h m d s ok =
    valid_same f (set f a q) (length-set f a q)
    (λ p. ⊎_elim
    (λ e.
    let x : person (set f a q) p ≡ q = ap (λ i. person (set f a q) i) e ∙ get_or-set_same f a q nobody h in
    let y = ap (λ i. person f i) (sym e) in
    (ap (λ r. r.mother) x ∙ m ∙ ap (λ r. r.mother) y, ap (λ r. r.father) x ∙ d ∙ ap (λ r. r.father) y, ap (λ r. r.spouse) x ∙ s ∙ ap (λ r. r.spouse) y))
    (λ n.
    let x : person (set f a q) p ≡ person f p = get_or-set_other f a p q nobody n in
    (ap (λ r. r.mother) x, ap (λ r. r.father) x, ap (λ r. r.spouse) x))
    (cases_eq p a))
    ok

pub valid_dies : (f : Family) (a : ℕ) → a < length f → Valid f → Valid (set f a (dead (person f a)))
valid_dies f a h ok = valid_set f a (dead (person f a)) h refl refl refl ok

-- what validity says of parents and spouses, of every number, since past the end stands nobody
valid_at : (f : Family) (p : ℕ) (P : Person → Type 0) → (p < length f → P (person f p)) → P nobody → P (person f p)
valid_at f p P here past =
    ⊎_elim (λ (l : p < length f). here l) (λ (l : length f ≤ p). subst P (sym (past_nobody f p l)) past) (cases_lt p (length f))

pub valid_first : (f : Family) → Valid f → ParentsFirst f
valid_first f ok =
    record {
      before = λ c. valid_at f c (λ q. (q.mother ≤ c) × (q.father ≤ c))
          (λ l. let u = and_parts _ _ (and_parts _ _ (ok c l)).0 in (leb-true _ c u.0, leb-true _ c (and_parts _ _ u.1).0))
          (omega arith, omega arith);
    }

pub valid_ranked : (f : Family) → Valid f → Ranked f (λ p. p)
valid_ranked f ok = number_ranked f (valid_first f ok)

pub valid_two : (f : Family) → Valid f → TwoParents f
valid_two f ok c =
    valid_at f c (λ q. q.mother ≡ q.father → q.mother ≡ 0)
    (λ l e.
    apart_parents c (person f c).mother (person f c).father (and_parts _ _ (ok c l)).0 e)
    (λ e. refl)

pub valid_there : (f : Family) (n : ℕ) → Valid f → length f ≤ n → (p : ℕ) → ((person f p).mother ≤ n) × ((person f p).father ≤ n)
valid_there f n ok room p =
    valid_at f p (λ q. (q.mother ≤ n) × (q.father ≤ n)) (λ l. let b = (valid_first f ok).before p in (omega arith, omega arith)) (omega arith, omega arith)

pub valid_well_formed : (f : Family) → Valid f → WellFormed f
valid_well_formed f ok =
    record {
      rank = λ p. p;
      ranked = valid_ranked f ok;
      spouses = λ p q e.
          let l = married_there f p q e in
          let s = (person f p).spouse in
          let back = (person f (s - 1)).spouse in
          let fits : spouse_fits (length f) p s back ≡ true = (and_parts _ _ (ok p l)).1 in
          let u : (ltb (s - 1) (length f) && (not (eqb (s - 1) p) && eqb back (p + 1))) ≡ true =
          ⊎_elim (λ z. absurd (let w = eqb-true s 0 z in omega arith)) (λ z. z) (or_cases (eqb s 0) _ fits) in
          let v : (not (eqb (s - 1) p) ≡ true) × (eqb back (p + 1) ≡ true) = and_parts _ _ (and_parts _ _ u).1 in
          let a : s - 1 ≡ q = omega arith in (
            subst (λ i. i < length f) a (ltb-true (s - 1) (length f) (and_parts _ _ u).0),
            ap (λ i. (person f i).spouse) (sym a) ∙ eqb-true back (p + 1) v.1 ∙ add-one p,
            λ z. eqb-false (s - 1) p (not-true _ v.0) (omega arith),
          );
    }

-- a family that is well-formed, in which parents come before their children and nobody has one parent twice, is valid
parents_apart : (m d : ℕ) → (m ≡ d → m ≡ 0) → (eqb m 0 || not (eqb m d)) ≡ true
parents_apart m d two =
    ⊎_elim (λ (e : m ≡ d). or_left _ _ (eq-eqb m 0 (two e))) (λ (n : m ≡ d → ⊥). or_right (eqb m 0) _ (ap not (ne_eqb m d n))) (cases_eq m d)

spouse_found : (n p s back : ℕ) → ((q : ℕ) → s ≡ suc q → (q < n) × (back ≡ suc p) × (p ≢ q)) → spouse_fits n p s back ≡ true
spouse_found n p zero back h = refl
spouse_found n p (suc q) back h =
    let w = h q refl in
    let at : suc q - 1 ≡ q = omega arith in
    or_right (eqb (suc q) 0) _
    (and_from _ _ (lt-ltb (suc q - 1) n (omega arith)) (and_from _ _ (ap not (ne_eqb (suc q - 1) p (λ z. w.2 (omega arith)))) (eq-eqb back (p + 1) (w.1 ∙ sym (add-one p)))))

pub valid_from : (f : Family) → WellFormed f → ParentsFirst f → TwoParents f → Valid f
valid_from f formed first two p h =
    let b = first.before p in
    and_from _ _ (and_from _ _ (le-leb _ p b.0) (and_from _ _ (le-leb _ p b.1) (parents_apart _ _ (two p))))
    (spouse_found (length f) p (person f p).spouse (person f ((person f p).spouse - 1)).spouse
    (λ q e.
    let w = formed.spouses p q e in
    let at : (person f p).spouse - 1 ≡ q = omega arith in
    (w.0, ap (λ i. (person f i).spouse) at ∙ w.1, w.2)))

-- two persons written over who have the same parents: two parents are still two
two_kept : (f : Family) (a b : ℕ) (x y : Person) → Valid f → x.mother ≡ (person f a).mother → x.father ≡ (person f a).father → y.mother ≡ (person f b).mother →
    y.father ≡ (person f b).father → ParentsFirst (set (set f a x) b y) × TwoParents (set (set f a x) b y)
two_kept f a b x y ok ma da mb db =
    let u = parents_two f a b x y ma da mb db in
    (first_same f (set (set f a x) b y) u (valid_first f ok), λ c e. u.mother c ∙ valid_two f ok c (sym (u.mother c) ∙ e ∙ u.father c))

pub valid_wed : (f : Family) (a b : ℕ) → a < length f → b < length f → a ≢ b → (person f a).spouse ≡ 0 → (person f b).spouse ≡ 0 → Valid f →
    Valid (set (set f a (with_spouse (person f a) (suc b))) b (with_spouse (person f b) (suc a)))
valid_wed f a b la lb ab sa sb ok =
    let x = with_spouse (person f a) (suc b) in
    let y = with_spouse (person f b) (suc a) in
    let kept = two_kept f a b x y ok refl refl refl refl in
    valid_from (set (set f a x) b y) (wed_well_formed f a b la lb ab sa sb (valid_well_formed f ok)) kept.0 kept.1

pub valid_parted : (f : Family) (a : ℕ) → a < length f → (person f a).spouse ≢ 0 → Valid f →
    Valid (set (set f a (with_spouse (person f a) 0)) ((person f a).spouse - 1) (with_spouse (person f ((person f a).spouse - 1)) 0))
valid_parted f a la sa ok =
    let b = (person f a).spouse - 1 in
    let x = with_spouse (person f a) 0 in
    let y = with_spouse (person f b) 0 in
    let kept = two_kept f a b x y ok refl refl refl refl in
    valid_from (set (set f a x) b y) (parted_well_formed f a la sa (valid_well_formed f ok)) kept.0 kept.1
