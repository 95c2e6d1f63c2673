-- A valid family is what its calls build. Assumes nothing.
use Rattle.std.proofs.Common.{◌≡◌, ℕ, suc, ◌+◌, ◌-◌, ◌<◌, ◌≤◌, true, false, cond, not, ◌&&◌, ◌||◌, eqb, ltb, leb, ◌≢◌, ◌⊎◌, List, [], ◌∷◌, ◌++◌, map, length, set, sym, refl, ap, ◌∙◌, subst, inl, inr, arith}
use Rattle.std.proofs.lemmas.List.{append-nil, append_assoc, length-append, length-map, length_push, length-set, map_push, get_or_at, get_or-map, get_or-set_same, get_or-set_other, set_at, ext_get_or}
use Rattle.std.proofs.lemmas.Bool.{cases_Bool, cases_lt, cases_eq, cond-true, cond-false, lt-ltb, le-ltb, le-leb, eq-eqb, ne_eqb, ltb-true, ltb-false, and_from, or_left, or_right, or_from, not_from_false}
use Rattle.law.specs.Family.{Person, person, nobody, Family}
use Rattle.law.specs.Calls.{Call, born, wed, dies, call_number, there, unmarried, refusal_of, refusal, newborn, with_spouse, dead, changed, after}
use Rattle.law.specs.Promise.{ran}
use Rattle.theory.proofs.Refusals.{after_taken, dies_allowed}
use Rattle.text.specs.Households.{ValidFamily}
use Rattle.text.specs.Building.{births, weddings, deaths, calls_of, family_limits, all_taken, Built}

-- CALLS THAT BUILD ONE FAMILY FROM ANOTHER, each of them taken.
pub record Builds (f : Family) (cs : List Call) (g : Family) : Type 0 where
  pub taken : all_taken family_limits f cs
  pub run : ran family_limits f cs ≡ g

builds_none : (f g : Family) → f ≡ g → Builds f [] g
unfolding all_taken ran
builds_none f g e = record { taken = tt; run = e }

builds_call : (f g h : Family) (c : Call) (cs : List Call) → refusal family_limits f c ≡ 0 → changed f c ≡ g → Builds g cs h → Builds f (c ∷ cs) h
unfolding all_taken ran
builds_call f g h c cs e q b =
    let same : g ≡ after family_limits f c = sym (after_taken family_limits f c e ∙ q) in
    record { taken = (e, subst (λ (x : Family). all_taken family_limits x cs) same b.taken); run = ap (λ (x : Family). ran family_limits x cs) (sym same) ∙ b.run }

builds_then : (f g h : Family) (cs ds : List Call) → Builds f cs g → Builds g ds h → Builds f (cs ++ ds) h
unfolding all_taken ran
builds_then f g h [] ds a b = record { taken = subst (λ (x : Family). all_taken family_limits x ds) (sym a.run) b.taken; run = ap (λ (x : Family). ran family_limits x ds) a.run ∙ b.run }
builds_then f g h (c ∷ cs) ds a b =
    let rest = builds_then (after family_limits f c) g h cs ds (record { taken = a.taken.1; run = a.run }) b in record { taken = (a.taken.0, rest.taken); run = rest.run }

-- which calls are taken
two_parents : (m d : ℕ) → (m ≡ d → m ≡ 0) → (eqb m 0 || not (eqb m d)) ≡ true
two_parents m d n =
    elim (cases_eq m d) [
      | inl e ↦ or_left (eqb m 0) (not (eqb m d)) (eq-eqb m 0 (n e))
      | inr e ↦ or_right (eqb m 0) (not (eqb m d)) (not_from_false (eqb m d) (ne_eqb m d e))
    ]

born_allowed : (f : Family) (m d : ℕ) → m ≤ length f → d ≤ length f → (m ≡ d → m ≡ 0) → length f < 64 → refusal family_limits f (born m d) ≡ 0
unfolding call_number refusal_of
born_allowed f m d h g n l =
    cond-true (leb m (length f) && (leb d (length f) && (eqb m 0 || not (eqb m d)))) (cond (ltb (length f) 64) 0 6) 4
    (and_from (leb m (length f)) (leb d (length f) && (eqb m 0 || not (eqb m d))) (le-leb m (length f) h)
    (and_from (leb d (length f)) (eqb m 0 || not (eqb m d)) (le-leb d (length f) g) (two_parents m d n))) ∙ cond-true (ltb (length f) 64) 0 6 (lt-ltb (length f) 64 l)

wed_allowed : (f : Family) (a b : ℕ) → a < length f → b < length f → a ≢ b → (person f a).lives ≡ true → (person f b).lives ≡ true → (person f a).spouse ≡ 0 → (person f b).spouse ≡ 0 →
    refusal family_limits f (wed a b) ≡ 0
unfolding call_number refusal_of
wed_allowed f a b h g n u v s t =
    cond-true (there f a && there f b) (cond (not (eqb a b) && (((person f a).lives && (person f b).lives) && (unmarried f a && unmarried f b))) 0 5) 4
    (and_from (there f a) (there f b) (lt-ltb a (length f) h) (lt-ltb b (length f) g))
    ∙ cond-true (not (eqb a b) && (((person f a).lives && (person f b).lives) && (unmarried f a && unmarried f b))) 0 5
    (and_from (not (eqb a b)) (((person f a).lives && (person f b).lives) && (unmarried f a && unmarried f b)) (not_from_false (eqb a b) (ne_eqb a b n))
    (and_from ((person f a).lives && (person f b).lives) (unmarried f a && unmarried f b) (and_from (person f a).lives (person f b).lives u v)
    (and_from (unmarried f a) (unmarried f b) (eq-eqb (person f a).spouse 0 s) (eq-eqb (person f b).spouse 0 t))))

-- BIRTHS.
abbrev pub bare : Person → Person
bare p = newborn p.mother p.father

born_pushed : (xs : Family) (x : Person) → changed (map bare xs) (born x.mother x.father) ≡ map bare (xs ++ (x ∷ []))
unfolding changed
born_pushed xs x = sym (map_push bare xs x)

-- WEDDINGS. The spouse that somebody p with the spouse s has, after the weddings of all below k.
abbrev pub spouse_by : ℕ → ℕ → ℕ → ℕ
spouse_by k p s = cond (ltb p k || ltb (s - 1) k) s 0

wed_seen : (k p s : ℕ) → (p < k) ⊎ (s - 1 < k) → spouse_by k p s ≡ s
wed_seen k p s (inl h) = cond-true (ltb p k || ltb (s - 1) k) s 0 (or_left (ltb p k) (ltb (s - 1) k) (lt-ltb p k h))
wed_seen k p s (inr h) = cond-true (ltb p k || ltb (s - 1) k) s 0 (or_right (ltb p k) (ltb (s - 1) k) (lt-ltb (s - 1) k h))

wed_not : (k p s : ℕ) → k ≤ p → k ≤ s - 1 → spouse_by k p s ≡ 0
wed_not k p s h g = cond-false (ltb p k || ltb (s - 1) k) s 0 (or_from (ltb p k) (ltb (s - 1) k) (le-ltb p k h) (le-ltb (s - 1) k g))

wed_none : (k p : ℕ) → spouse_by k p 0 ≡ 0
wed_none k p = elim (cases_Bool (ltb p k || ltb (0 - 1) k)) [ inl e ↦ cond-true (ltb p k || ltb (0 - 1) k) 0 0 e | inr e ↦ cond-false (ltb p k || ltb (0 - 1) k) 0 0 e ]

-- nobody else's changes with the weddings of k
wed_same : (k p s : ℕ) → p ≢ k → (s ≡ suc k → p < k) → spouse_by k p s ≡ spouse_by (suc k) p s
wed_same k p s n h =
    elim (cases_eq s 0) [
      | inl z ↦ ap (spouse_by k p) z ∙ (wed_none k p ∙ sym (ap (spouse_by (suc k) p) z ∙ wed_none (suc k) p))
      | inr z ↦ elim (cases_lt p k) [
        | inl l ↦ wed_seen k p s (inl l) ∙ sym (wed_seen (suc k) p s (inl (omega arith)))
        | inr l ↦ elim (cases_lt (s - 1) k) [
          | inl m ↦ wed_seen k p s (inr m) ∙ sym (wed_seen (suc k) p s (inr (omega arith)))
          | inr m ↦ elim (cases_eq s (suc k)) [
            | inl e ↦ absurd (let q = h e in omega arith)
            | inr e ↦ wed_not k p s l m ∙ sym (wed_not (suc k) p s (omega arith) (omega arith))
          ]
        ]
      ]
    ]

abbrev pub partly : ℕ → ℕ → Person → Person
partly k p x = record { mother = x.mother; father = x.father; lives = true; spouse = spouse_by k p x.spouse }

partly_same : (k p : ℕ) (x : Person) → spouse_by k p x.spouse ≡ spouse_by (suc k) p x.spouse → partly k p x ≡ partly (suc k) p x
partly_same k p x e = (λ i. record { mother = x.mother; father = x.father; lives = true; spouse = e i })

module _ (f : Family) (valid : ValidFamily f) where
  born_all : (pre ps : Family) → f ≡ pre ++ ps → Builds (map bare pre) (births ps) (map bare f)
  born_all pre [] e = builds_none (map bare pre) (map bare f) (ap (map bare) (sym (e ∙ append-nil pre)))
  born_all pre (p ∷ ps) e =
      let k = length pre in
      let here : person f k ≡ p = ap (λ (g : Family). person g k) e ∙ get_or_at pre p ps nobody k refl in
      let long = length-map pre bare in
      let all : length f ≡ k + suc (length ps) = ap length e ∙ length-append pre (p ∷ ps) in
      let m : p.mother ≤ k = subst (λ (x : Person). x.mother ≤ k) here (valid.mothers k) in
      let d : p.father ≤ k = subst (λ (x : Person). x.father ≤ k) here (valid.fathers k) in
      let two : p.mother ≡ p.father → p.mother ≡ 0 = subst (λ (x : Person). x.mother ≡ x.father → x.mother ≡ 0) here (valid.two k) in
      let few = valid.few in
      builds_call (map bare pre) (map bare (pre ++ (p ∷ []))) (map bare f) (born p.mother p.father) (births ps)
      (born_allowed (map bare pre) p.mother p.father (omega arith) (omega arith) two (omega arith)) (born_pushed pre p)
      (born_all (pre ++ (p ∷ [])) ps (e ∙ sym (append_assoc pre (p ∷ []) ps)))

  -- so far wed: all below k
  pub record Wed (k : ℕ) (g : Family) : Type 0 where
    pub long : length g ≡ length f
    pub each : (p : ℕ) → p < length f → person g p ≡ partly k p (person f p)

  none_wed : Wed 0 (map bare f)
  none_wed =
      record {
        long = length-map f bare;
        each =
            λ p h.
            get_or-map bare f p nobody nobody h
            ∙ (λ i. record { mother = (person f p).mother; father = (person f p).father; lives = true; spouse = sym (wed_not 0 p (person f p).spouse (omega arith) (omega arith)) i });
      }

  -- k has no spouse above: nothing is to do
  kept_here : (k : ℕ) → (person f k).spouse ≤ suc k → spouse_by k k (person f k).spouse ≡ spouse_by (suc k) k (person f k).spouse
  kept_here k low =
      let s = (person f k).spouse in
      elim (cases_eq s 0) [
        | inl z ↦ ap (spouse_by k k) z ∙ (wed_none k k ∙ sym (ap (spouse_by (suc k) k) z ∙ wed_none (suc k) k))
        | inr z ↦ elim (cases_eq s (suc k)) [
          | inl e ↦ absurd ((valid.spouses k k e).2 refl)
          | inr e ↦ wed_seen k k s (inr (omega arith)) ∙ sym (wed_seen (suc k) k s (inl (omega arith)))
        ]
      ]

  kept_wed : (k : ℕ) (g : Family) → (person f k).spouse ≤ suc k → Wed k g → Wed (suc k) g
  kept_wed k g low old =
      record {
        long = old.long;
        each =
            λ p l. old.each p l ∙ partly_same k p (person f p)
            (elim (cases_eq p k) [
              | inl e ↦ subst (λ (x : ℕ). spouse_by k x (person f x).spouse ≡ spouse_by (suc k) x (person f x).spouse) (sym e) (kept_here k low)
              | inr e ↦ wed_same k p (person f p).spouse e (λ s. let back = (valid.spouses p k s).1 in omega arith)
            ]);
      }

  -- k weds q, who has a larger number
  abbrev pub wedded : Family → ℕ → ℕ → Family
  wedded g a b = set (set g a (with_spouse (person g a) (suc b))) b (with_spouse (person g b) (suc a))

  wedded_is : (g : Family) (a b : ℕ) → changed g (wed a b) ≡ wedded g a b
  unfolding changed
  wedded_is g a b = refl

  new_wed : (k q : ℕ) (g : Family) → k < length f → (person f k).spouse ≡ suc q → k < q → Wed k g → Wed (suc k) (wedded g k q)
  new_wed k q g h s less old =
      let back = valid.spouses k q s in
      let there = back.0 in
      let mid = set g k (with_spouse (person g k) (suc q)) in
      let long = old.long in
      let mid_long : length mid ≡ length f = length-set g k (with_spouse (person g k) (suc q)) ∙ old.long in
      record {
        long = length-set mid q (with_spouse (person g q) (suc k)) ∙ mid_long;
        each =
            λ p l.
            elim (cases_eq p q) [
              | inl e ↦ subst (λ (x : ℕ). person (wedded g k q) x ≡ partly (suc k) x (person f x)) (sym e)
                  (get_or-set_same mid q (with_spouse (person g q) (suc k)) nobody (omega arith)
                  ∙ (ap (λ (x : Person). with_spouse x (suc k)) (old.each q there)
                  ∙ (λ i. record { mother = (person f q).mother; father = (person f q).father; lives = true; spouse = (sym (wed_seen (suc k) q (suc k) (inr (omega arith))) ∙ ap (spouse_by (suc k) q) (sym back.1)) i })))
              | inr e ↦ get_or-set_other mid q p (with_spouse (person g q) (suc k)) nobody e
                  ∙ elim (cases_eq p k) [
                    | inl y ↦ subst (λ (x : ℕ). person mid x ≡ partly (suc k) x (person f x)) (sym y)
                        (get_or-set_same g k (with_spouse (person g k) (suc q)) nobody (omega arith)
                        ∙ (ap (λ (x : Person). with_spouse x (suc q)) (old.each k h)
                        ∙ (λ i. record { mother = (person f k).mother; father = (person f k).father; lives = true; spouse = (sym s ∙ sym (wed_seen (suc k) k (person f k).spouse (inl (omega arith)))) i })))
                    | inr y ↦ get_or-set_other g k p (with_spouse (person g k) (suc q)) nobody y
                        ∙ (old.each p l
                        ∙ partly_same k p (person f p) (wed_same k p (person f p).spouse y (λ z. let other = (valid.spouses p k z).1 in absurd (e (let w : suc p ≡ suc q = sym other ∙ s in omega arith)))))
                  ]
            ];
      }

  wed_taken : (k q : ℕ) (g : Family) → k < length f → (person f k).spouse ≡ suc q → k < q → Wed k g → refusal family_limits g (wed k q) ≡ 0
  wed_taken k q g h s less old =
      let back = valid.spouses k q s in
      let long = old.long in
      let there = back.0 in
      let mine : (person g k).spouse ≡ 0 = ap (λ (x : Person). x.spouse) (old.each k h) ∙ (ap (spouse_by k k) s ∙ wed_not k k (suc q) (omega arith) (omega arith)) in
      let theirs : (person g q).spouse ≡ 0 = ap (λ (x : Person). x.spouse) (old.each q there) ∙ (ap (spouse_by k q) back.1 ∙ wed_not k q (suc k) (omega arith) (omega arith)) in
      wed_allowed g k q (omega arith) (omega arith) back.2 (ap (λ (x : Person). x.lives) (old.each k h)) (ap (λ (x : Person). x.lives) (old.each q there)) mine theirs

  -- what weddings lead to
  pub record Wedded (g : Family) (cs : List Call) : Type 0 where
    pub last : Family
    pub builds : Builds g cs last
    pub all : Wed (length f) last

  wed_all : (pre ps : Family) (k : ℕ) (g : Family) → length pre ≡ k → f ≡ pre ++ ps → Wed k g → Wedded g (weddings k ps)
  wed_all pre [] k g n e old =
      let all : length f ≡ k = ap length (e ∙ append-nil pre) ∙ n in
      record { last = g; builds = builds_none g g refl; all = subst (λ (m : ℕ). Wed m g) (sym all) old }
  wed_all pre (p ∷ ps) k g n e old =
      let here : person f k ≡ p = ap (λ (x : Family). person x k) e ∙ get_or_at pre p ps nobody k n in
      let all : length f ≡ length pre + suc (length ps) = ap length e ∙ length-append pre (p ∷ ps) in
      let spouse : (person f k).spouse ≡ p.spouse = ap (λ (x : Person). x.spouse) here in
      let next : f ≡ (pre ++ (p ∷ [])) ++ ps = e ∙ sym (append_assoc pre (p ∷ []) ps) in
      let more : length (pre ++ (p ∷ [])) ≡ suc k = omega (arith, length_push pre p) in
      let q = p.spouse - 1 in
      elim (cases_Bool (ltb (suc k) p.spouse)) [
        | inl t ↦ let less = ltb-true (suc k) p.spouse t in
            let s : (person f k).spouse ≡ suc q = omega arith in
            let rest = wed_all (pre ++ (p ∷ [])) ps (suc k) (wedded g k q) more next (new_wed k q g (omega arith) s (omega arith) old) in
            subst (λ (cs : List Call). Wedded g cs) (sym (cond-true (ltb (suc k) p.spouse) (wed k q ∷ weddings (suc k) ps) (weddings (suc k) ps) t))
            (record { last = rest.last; builds = builds_call g (wedded g k q) rest.last (wed k q) (weddings (suc k) ps) (wed_taken k q g (omega arith) s (omega arith) old) (wedded_is g k q) rest.builds; all = rest.all })
        | inr t ↦ let low = ltb-false (suc k) p.spouse t in
            subst (λ (cs : List Call). Wedded g cs) (sym (cond-false (ltb (suc k) p.spouse) (wed k q ∷ weddings (suc k) ps) (weddings (suc k) ps) t))
            (wed_all (pre ++ (p ∷ [])) ps (suc k) g more next (kept_wed k g (omega arith) old))
      ]

  -- DEATHS.
  abbrev pub alive : Person → Person
  alive p = record { mother = p.mother; father = p.father; lives = true; spouse = p.spouse }

  all_wed : (g : Family) → Wed (length f) g → g ≡ map alive f
  all_wed g w =
      let long = w.long in
      ext_get_or nobody g (map alive f) (w.long ∙ sym (length-map f alive))
      (λ p h. let l : p < length f = omega arith in
      w.each p l ∙ ((λ i. record { mother = (person f p).mother; father = (person f p).father; lives = true; spouse = wed_seen (length f) p (person f p).spouse (inl l) i }) ∙ sym (get_or-map alive f p nobody nobody l)))

  living_is : (p : Person) → p.lives ≡ true → alive p ≡ p
  living_is p e = (λ i. record { mother = p.mother; father = p.father; lives = sym e i; spouse = p.spouse })

  dead_is : (p : Person) → p.lives ≡ false → dead (alive p) ≡ p
  dead_is p e = (λ i. record { mother = p.mother; father = p.father; lives = sym e i; spouse = p.spouse })

  dies_is : (pre rest : Family) (p : Person) (k : ℕ) → length pre ≡ k → p.lives ≡ false → changed (pre ++ (alive p ∷ rest)) (dies k) ≡ (pre ++ (p ∷ [])) ++ rest
  unfolding changed
  dies_is pre rest p k n e =
      ap (λ (x : Person). set (pre ++ (alive p ∷ rest)) k (dead x)) (get_or_at pre (alive p) rest nobody k n)
      ∙ (set_at pre (alive p) rest (dead (alive p)) k n ∙ (ap (λ (x : Person). pre ++ (x ∷ rest)) (dead_is p e) ∙ sym (append_assoc pre (p ∷ []) rest)))

  dies_all : (pre ps : Family) (k : ℕ) → length pre ≡ k → f ≡ pre ++ ps → Builds (pre ++ map alive ps) (deaths k ps) f
  dies_all pre [] k n e = builds_none (pre ++ []) f (sym e)
  dies_all pre (p ∷ ps) k n e =
      let next : f ≡ (pre ++ (p ∷ [])) ++ ps = e ∙ sym (append_assoc pre (p ∷ []) ps) in
      let more : length (pre ++ (p ∷ [])) ≡ suc k = omega (arith, length_push pre p) in
      let rest = dies_all (pre ++ (p ∷ [])) ps (suc k) more next in
      let whole = pre ++ (alive p ∷ map alive ps) in
      elim (cases_Bool p.lives) [
        | inl t ↦ subst (λ (cs : List Call). Builds whole cs f) (sym (cond-true p.lives (deaths (suc k) ps) (dies k ∷ deaths (suc k) ps) t))
            (subst (λ (x : Family). Builds x (deaths (suc k) ps) f) (append_assoc pre (p ∷ []) (map alive ps) ∙ ap (λ (x : Person). pre ++ (x ∷ map alive ps)) (sym (living_is p t))) rest)
        | inr t ↦ subst (λ (cs : List Call). Builds whole cs f) (sym (cond-false p.lives (deaths (suc k) ps) (dies k ∷ deaths (suc k) ps) t))
            (builds_call whole ((pre ++ (p ∷ [])) ++ map alive ps) f (dies k) (deaths (suc k) ps)
            (dies_allowed family_limits whole k refl (omega (arith, length-append pre (alive p ∷ map alive ps))) (ap (λ (x : Person). x.lives) (get_or_at pre (alive p) (map alive ps) nobody k n)))
            (dies_is pre (map alive ps) p k n t) rest)
      ]

  pub builds_all : Builds [] (calls_of f) f
  unfolding calls_of
  builds_all =
      let weds = wed_all [] f 0 (map bare f) refl refl none_wed in
      let dying = subst (λ (x : Family). Builds x (deaths 0 f) f) (sym (all_wed weds.last weds.all)) (dies_all [] f 0 refl refl) in
      builds_then [] (map bare f) f (births f) (weddings 0 f ++ deaths 0 f) (born_all [] f refl) (builds_then (map bare f) weds.last f (weddings 0 f) (deaths 0 f) weds.builds dying)

pub built : Built
unfolding Built
built f valid = let b = builds_all f valid in (b.taken, b.run)
