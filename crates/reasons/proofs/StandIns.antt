-- For each order and each spouse a family in which somebody who is dead, or stands for their own line, has them; so a promise over all families says what it says of an order
-- and a spouse. Assumes nothing.
use Rattle.std.proofs.Common.{◌≡◌, ℕ, suc, ◌+◌, ◌-◌, ◌<◌, ◌≤◌, Bool, true, false, cond, not, ◌&&◌, ◌||◌, eqb, ◌≢◌, ◌⊎◌, List, [], ◌∷◌, ◌++◌, length, get_or, replicate, filter, Some, None, Option, sym, refl, ap, ◌∙◌, inl, inr, ⊎_elim, arith}
use Rattle.std.proofs.lemmas.List.{get_or-append_right, get_or_append_left, get_or-replicate, length-append, length-replicate}
use Rattle.std.proofs.lemmas.Bool.{eqb-true, ne_eqb, eq-eqb, or_cases, cases_eq, cases_lt, cases_Bool, both_ways, cond-true, cond-false}
use Rattle.law.specs.Family.{Family, Person, person, nobody, is_child, parents, known, living_lines, side_lives}
use Rattle.theory.specs.Families.{Ranked}
use Rattle.theory.specs.Living.{alive}
use Rattle.theory.specs.Decedent.{kept_sides, kept_order}
use Rattle.theory.proofs.Families.{past_nobody}
use Rattle.theory.proofs.Living.{alive_self, alive_cases}
use Rattle.succession.specs.declared.Order.{Order}
use Rattle.succession.specs.declared.Order.TheVariants.{Children, Parents, Grandparents, Nobody}
use Rattle.succession.specs.Orders.{order_number, spouse_in}

abbrev spouse_person : Person
spouse_person = record { mother = 0; father = 0; lives = true; spouse = 0 }

abbrev decedent_person : ℕ → Bool → ℕ → Person
decedent_person mother lives link = record { mother = mother; father = 0; lives = lives; spouse = link }

abbrev dead_person : ℕ → Person
dead_person mother = record { mother = mother; father = 0; lives = false; spouse = 0 }

mother_is : (m p : ℕ) → (eqb m (suc p) || eqb 0 (suc p)) ≡ true → m ≡ suc p
mother_is m p k =
    ⊎_elim (λ (h : eqb m (suc p) ≡ true). eqb-true m (suc p) h) (λ (h : eqb 0 (suc p) ≡ true). absurd (let z : 0 ≡ suc p = eqb-true 0 (suc p) h in omega arith))
    (or_cases (eqb m (suc p)) (eqb 0 (suc p)) k)

-- Behind w persons of whom nothing is known: a spouse who lives, the decedent, and somebody dead. Each of the two has a mother among the others, or none that is known.
module _ (w mother above link : ℕ) (lives : Bool) where
  abbrev row : List Person
  row = spouse_person ∷ decedent_person mother lives link ∷ dead_person above ∷ []

  abbrev g : Family
  g = replicate w nobody ++ row

  size : length g ≡ w + 3
  size = length-append (replicate w nobody) row ∙ ap (λ (n : ℕ). n + 3) (length-replicate w nobody)

  at : (i p : ℕ) → p ≡ w + i → person g p ≡ person row i
  at i p e =
      get_or-append_right (replicate w nobody) row w p nobody (length-replicate w nobody) (omega arith)
      ∙ ap (λ (k : ℕ). get_or row k nobody) (let z : p - w ≡ i = omega arith in z)

  other : (p : ℕ) → p ≢ w → p ≢ w + 1 → p ≢ w + 2 → person g p ≡ nobody
  other p a b c =
      ⊎_elim
      (λ (l : p < w). get_or_append_left (replicate w nobody) row nobody p (let z = length-replicate w nobody in omega arith) ∙ get_or-replicate w p nobody nobody l)
      (λ (l : w ≤ p). past_nobody g p (let z = size in omega arith)) (cases_lt p w)

  child_by : (p c : ℕ) (q : Person) → person g c ≡ q → is_child g p c ≡ true → (eqb q.mother (suc p) || eqb q.father (suc p)) ≡ true
  child_by p c q e k = sym (ap (λ (x : Person). eqb x.mother (suc p) || eqb x.father (suc p)) e) ∙ k

  -- whose mother somebody is
  child_is : (p c : ℕ) → is_child g p c ≡ true → ((c ≡ w + 1) × (mother ≡ suc p)) ⊎ ((c ≡ w + 2) × (above ≡ suc p))
  child_is p c k =
      ⊎_elim (λ (e : c ≡ w + 1). inl (e, mother_is mother p (child_by p c (decedent_person mother lives link) (at 1 c e) k)))
      (λ (n : c ≡ w + 1 → ⊥).
      ⊎_elim (λ (e : c ≡ w + 2). inr (e, mother_is above p (child_by p c (dead_person above) (at 2 c e) k)))
      (λ (m : c ≡ w + 2 → ⊥).
      ⊎_elim (λ (e : c ≡ w). absurd (let z : 0 ≡ suc p = mother_is 0 p (child_by p c spouse_person (at 0 c (omega arith)) k) in omega arith))
      (λ (o : c ≡ w → ⊥). absurd (let z : 0 ≡ suc p = mother_is 0 p (child_by p c nobody (other c o n m) k) in omega arith)) (cases_eq c w)) (cases_eq c (w + 2)))
      (cases_eq c (w + 1))

  -- the spouse, the decedent's mother's mother at most; the dead; and the decedent, in this order
  abbrev rank : ℕ → ℕ
  rank p = cond (eqb p (w + 1)) 2 (cond (eqb p (w + 2)) 1 0)

  rank_decedent : (p : ℕ) → p ≡ w + 1 → rank p ≡ 2
  rank_decedent p e = cond-true (eqb p (w + 1)) 2 (cond (eqb p (w + 2)) 1 0) (eq-eqb p (w + 1) e)

  rank_dead : (p : ℕ) → p ≡ w + 2 → rank p ≡ 1
  rank_dead p e =
      cond-false (eqb p (w + 1)) 2 (cond (eqb p (w + 2)) 1 0) (ne_eqb p (w + 1) (λ z. omega arith)) ∙ cond-true (eqb p (w + 2)) 1 0 (eq-eqb p (w + 2) e)

  rank_spouse : (p : ℕ) → p ≡ w → rank p ≡ 0
  rank_spouse p e =
      cond-false (eqb p (w + 1)) 2 (cond (eqb p (w + 2)) 1 0) (ne_eqb p (w + 1) (λ z. omega arith)) ∙ cond-false (eqb p (w + 2)) 1 0 (ne_eqb p (w + 2) (λ z. omega arith))

  rank_most : (p : ℕ) → rank p ≤ 2
  rank_most p = go (eqb p (w + 1)) (eqb p (w + 2))
    where
      go : (x y : Bool) → cond x 2 (cond y 1 0) ≤ 2
      go true y = omega arith
      go false true = omega arith
      go false false = omega arith

  module _ (mothers : (p : ℕ) → mother ≡ suc p → (p ≡ w) ⊎ (p ≡ w + 2)) (above_is : (p : ℕ) → above ≡ suc p → p ≡ w) where
    ranked : Ranked g rank
    ranked = record {
      up = λ p c k.
          ⊎_elim
          (λ (h : (c ≡ w + 1) × (mother ≡ suc p)).
          ⊎_elim (λ (e : p ≡ w). omega (arith, rank_spouse p e, rank_decedent c h.0)) (λ (e : p ≡ w + 2). omega (arith, rank_dead p e, rank_decedent c h.0)) (mothers p h.1))
          (λ (h : (c ≡ w + 2) × (above ≡ suc p)). omega (arith, rank_spouse p (above_is p h.1), rank_dead c h.0)) (child_is p c k);
      within = λ p l. omega (arith, size, rank_most p);
      here = λ p c k.
          ⊎_elim
          (λ (h : (c ≡ w + 1) × (mother ≡ suc p)). ⊎_elim (λ (e : p ≡ w). omega (arith, size)) (λ (e : p ≡ w + 2). omega (arith, size)) (mothers p h.1))
          (λ (h : (c ≡ w + 2) × (above ≡ suc p)). omega (arith, size, above_is p h.1)) (child_is p c k);
    }

    spouse_alive : alive g w ≡ true
    spouse_alive = alive_self ranked w (ap (λ (x : Person). x.lives) (at 0 w (omega arith)))

    decedent_not : lives ≡ false → alive g (w + 1) ≡ false
    decedent_not e =
        ⊎_elim
        (λ (v : alive g (w + 1) ≡ true).
        absurd
        (⊎_elim (λ (l : (person g (w + 1)).lives ≡ true). both_ways lives e (sym (ap (λ (x : Person). x.lives) (at 1 (w + 1) refl)) ∙ l))
        (λ (t : (c : ℕ) × (is_child g (w + 1) c ≡ true) × (alive g c ≡ true)).
        ⊎_elim
        (λ (h : (t.0 ≡ w + 1) × (mother ≡ suc (w + 1))).
        ⊎_elim (λ (z : w + 1 ≡ w). let y : 1 ≤ 0 = omega arith in omega arith) (λ (z : w + 1 ≡ w + 2). let y : 1 ≤ 0 = omega arith in omega arith) (mothers (w + 1) h.1))
        (λ (h : (t.0 ≡ w + 2) × (above ≡ suc (w + 1))). let z = above_is (w + 1) h.1 in let y : 1 ≤ 0 = omega arith in omega arith) (child_is (w + 1) t.0 t.1))
        (alive_cases ranked (w + 1) v)))
        (λ (v : alive g (w + 1) ≡ false). v) (cases_Bool (alive g (w + 1)))

    dead_not : lives ≡ false → alive g (w + 2) ≡ false
    dead_not e =
        ⊎_elim
        (λ (v : alive g (w + 2) ≡ true).
        absurd
        (⊎_elim (λ (l : (person g (w + 2)).lives ≡ true). both_ways (person g (w + 2)).lives (ap (λ (x : Person). x.lives) (at 2 (w + 2) refl)) l)
        (λ (t : (c : ℕ) × (is_child g (w + 2) c ≡ true) × (alive g c ≡ true)).
        ⊎_elim (λ (h : (t.0 ≡ w + 1) × (mother ≡ suc (w + 2))). both_ways (alive g t.0) (ap (alive g) h.0 ∙ decedent_not e) t.2)
        (λ (h : (t.0 ≡ w + 2) × (above ≡ suc (w + 2))). let z = above_is (w + 2) h.1 in let y : 1 ≤ 0 = omega arith in omega arith) (child_is (w + 2) t.0 t.1))
        (alive_cases ranked (w + 2) v)))
        (λ (v : alive g (w + 2) ≡ false). v) (cases_Bool (alive g (w + 2)))

    -- which order inherits
    abbrev nearest : Bool → List ℕ → List ℕ → ℕ
    nearest a ps sides = cond a 1 (cond (not (eqb (length (living_lines g (length g) ps)) 0)) 2 (cond (not (eqb (length sides) 0)) 3 4))

    first_nearest : lives ≡ true → kept_order g (w + 1) ≡ 1
    first_nearest e =
        ap (λ (a : Bool). nearest a (parents g (w + 1)) (kept_sides g (w + 1))) (alive_self ranked (w + 1) (ap (λ (x : Person). x.lives) (at 1 (w + 1) refl) ∙ e))

    parents_by : parents g (w + 1) ≡ known mother ++ known 0
    parents_by = ap (λ (x : Person). known x.mother ++ known x.father) (at 1 (w + 1) refl)

    parents_above : parents g (w + 2) ≡ known above ++ known 0
    parents_above = ap (λ (x : Person). known x.mother ++ known x.father) (at 2 (w + 2) refl)

    one_known : (m p : ℕ) → m ≡ suc p → known m ++ known 0 ≡ p ∷ []
    unfolding known
    one_known m p e = ap (λ (k : ℕ). known k ++ known 0) e

    living_one : (p : ℕ) (t : Bool) → alive g p ≡ t → living_lines g (length g) (p ∷ []) ≡ cond t (p ∷ []) []
    living_one p t e = ap (λ (v : Bool). cond v (p ∷ []) []) e

    second_nearest : lives ≡ false → mother ≡ suc w → kept_order g (w + 1) ≡ 2
    second_nearest e m =
        ap (λ (a : Bool). nearest a (parents g (w + 1)) (kept_sides g (w + 1))) (decedent_not e)
        ∙ ap (λ (xs : List ℕ). cond (not (eqb (length xs) 0)) 2 (cond (not (eqb (length (kept_sides g (w + 1))) 0)) 3 4))
        (ap (living_lines g (length g)) (parents_by ∙ one_known mother w m) ∙ living_one w true spouse_alive)

    third_nearest : lives ≡ false → mother ≡ suc (w + 2) → above ≡ suc w → kept_order g (w + 1) ≡ 3
    unfolding side_lives
    third_nearest e m a =
        ap (λ (v : Bool). nearest v (parents g (w + 1)) (kept_sides g (w + 1))) (decedent_not e)
        ∙ ap (λ (xs : List ℕ). cond (not (eqb (length xs) 0)) 2 (cond (not (eqb (length (kept_sides g (w + 1))) 0)) 3 4))
        (ap (living_lines g (length g)) (parents_by ∙ one_known mother (w + 2) m) ∙ living_one (w + 2) false (dead_not e))
        ∙ ap (λ (ps : List ℕ). cond (not (eqb (length (filter (λ p. side_lives g (length g) p) ps)) 0)) 3 4) (parents_by ∙ one_known mother (w + 2) m)
        ∙ ap (λ (xs : List ℕ). cond (not (eqb (length (cond (not (eqb (length xs) 0)) ((w + 2) ∷ []) [])) 0)) 3 4)
        (ap (living_lines g (length g)) (parents_above ∙ one_known above w a) ∙ living_one w true spouse_alive)

    none_nearest : lives ≡ false → mother ≡ 0 → kept_order g (w + 1) ≡ 4
    unfolding known
    none_nearest e m =
        ap (λ (v : Bool). nearest v (parents g (w + 1)) (kept_sides g (w + 1))) (decedent_not e)
        ∙ ap (λ (ps : List ℕ). nearest false ps (filter (λ p. side_lives g (length g) p) ps)) (parents_by ∙ ap (λ (k : ℕ). known k ++ known 0) m)

  -- the spouse
  married : link ≡ suc w → spouse_in g (w + 1) ≡ Some w
  married e =
      ap (λ (k : ℕ). cond (not (eqb k 0) && (person g (k - 1)).lives) (Some (k - 1)) None) (ap (λ (x : Person). x.spouse) (at 1 (w + 1) refl) ∙ e)
      ∙ ap (λ (t : Bool). cond (not t && (person g (suc w - 1)).lives) (Some (suc w - 1)) None) (ne_eqb (suc w) 0 (λ z. omega arith))
      ∙ ap (λ (k : ℕ). cond (person g k).lives (Some k) None) (let z : suc w - 1 ≡ w = omega arith in z)
      ∙ ap (λ (v : Bool). cond v (Some w) None) (ap (λ (x : Person). x.lives) (at 0 w (omega arith)))

  single : link ≡ 0 → spouse_in g (w + 1) ≡ None
  single e = ap (λ (k : ℕ). cond (not (eqb k 0) && (person g (k - 1)).lives) (Some (k - 1)) None) (ap (λ (x : Person). x.spouse) (at 1 (w + 1) refl) ∙ e)

-- the order of each
abbrev pub mother_of : Order → ℕ → ℕ
mother_of Children w = 0
mother_of Parents w = suc w
mother_of Grandparents w = suc (w + 2)
mother_of Nobody w = 0

abbrev pub above_of : Order → ℕ → ℕ
above_of Children w = 0
above_of Parents w = 0
above_of Grandparents w = suc w
above_of Nobody w = 0

abbrev pub lives_of : Order → Bool
lives_of Children = true
lives_of Parents = false
lives_of Grandparents = false
lives_of Nobody = false

abbrev pub stand_in : Order → ℕ → ℕ → Family
stand_in o w link = g w (mother_of o w) (above_of o w) link (lives_of o)

nothing : (p : ℕ) → 0 ≡ suc p → ⊥
nothing p e = let z : 1 ≤ 0 = omega arith in omega arith

pub stand_in_order : (o : Order) (w link : ℕ) → order_number o ≡ kept_order (stand_in o w link) (w + 1)
stand_in_order Children w link = sym (first_nearest w 0 0 link true (λ p e. absurd (nothing p e)) (λ p e. absurd (nothing p e)) refl)
stand_in_order Parents w link = sym (second_nearest w (suc w) 0 link false (λ p e. inl (omega arith)) (λ p e. absurd (nothing p e)) refl refl)
stand_in_order Grandparents w link = sym (third_nearest w (suc (w + 2)) (suc w) link false (λ p e. inr (omega arith)) (λ p e. omega arith) refl refl refl)
stand_in_order Nobody w link = sym (none_nearest w 0 0 link false (λ p e. absurd (nothing p e)) (λ p e. absurd (nothing p e)) refl refl)

pub stand_in_spouse : (o : Order) (spouse : Option ℕ) → (w : ℕ) × (link : ℕ) × (spouse ≡ spouse_in (stand_in o w link) (w + 1))
stand_in_spouse o None = (0, 0, sym (single 0 (mother_of o 0) (above_of o 0) 0 (lives_of o) refl))
stand_in_spouse o (Some w) = (w, suc w, sym (married w (mother_of o w) (above_of o w) (suc w) (lives_of o) refl))
