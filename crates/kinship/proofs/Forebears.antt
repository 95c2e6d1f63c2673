-- Of whose lines somebody is: of those whose line would live if nobody else did. Assumes nothing.
use Rattle.std.proofs.Common.{◌≡◌, ℕ, ◌<◌, ◌≤◌, true, false, eqb, ◌+◌, List, map, length, get_or, sym, refl, ap, ◌∙◌, subst, ⊎_elim, arith}
use Rattle.std.proofs.lemmas.List.FromFn.{get_or-map-range_with_len, length-map-range_with_len, length-enumerate_from, get_or-enumerate_from, fill_by_all}
use Rattle.std.proofs.lemmas.List.{get_or-map, length-map}
use Rattle.std.specs.List.{enumerate_from}
use Rattle.std.proofs.lemmas.Bool.{cases_lt, eqb-true, eq-eqb, or_cases, both_ways}
use Rattle.law.specs.Family.{Family, Person, person, nobody, is_child, children, some_of, line_lives}
use Rattle.law.specs.Promise.{OfLine}
use Rattle.theory.specs.Families.{Ranked, SameParents}
use Rattle.theory.proofs.Families.{past_nobody, lives_there, child_same, ranked_same}
use Rattle.theory.proofs.Children.{child_of_some}
use Rattle.theory.proofs.Lines.{line_here, line_step, ascend, descend, line_lives_other, line_lives_self, line_lives_child, line_lives_past}
use Rattle.people.specs.Persons.{law_person}
use Rattle.people.specs.declared.Person.{Person as PersonStruct}
use Rattle.ways.specs.Rows.{family_of}
use Rattle.kinship.specs.Forebears.{only_person, only_lives, LinesTo}

-- somebody of a row of persons in which nobody lives but w
abbrev pub only_at : ℕ → ℕ × PersonStruct → PersonStruct
only_at w p = record { mother = p.1.mother; father = p.1.father; lives = eqb p.0 w; spouse = p.1.spouse }

pub only_is : (ps : List PersonStruct) (w : ℕ) → family_of (map (only_at w) (enumerate_from 0 ps)) ≡ only_lives (family_of ps) w
only_is ps w =
    let es = enumerate_from 0 ps in
    let d : PersonStruct = record { mother = 0; father = 0; lives = false; spouse = 0 } in
    let long : length es ≡ length ps = length-enumerate_from 0 ps in
    fill_by_all (only_person (family_of ps) w) (family_of (map (only_at w) es)) (length (family_of ps)) nobody
    (length-map (map (only_at w) es) law_person ∙ length-map es (only_at w) ∙ long ∙ sym (length-map ps law_person))
    (λ k l.
    let h : k < length ps = let z = length-map ps law_person in omega arith in
    get_or-map law_person (map (only_at w) es) k (only_at w (0, d)) nobody (let z = length-map es (only_at w) in omega arith)
    ∙ ap law_person (get_or-map (only_at w) es k (0, d) (only_at w (0, d)) (omega arith) ∙ ap (only_at w) (get_or-enumerate_from 0 ps k (0, d) h ∙ ap (λ (j : ℕ). (j, get_or ps k d)) (let z : 0 + k ≡ k = omega arith in z)))
    ∙ ap (λ (p : Person). record { mother = p.mother; father = p.father; lives = eqb k w; spouse = p.spouse }) (sym (get_or-map law_person ps k d nobody h)))

module _ (f : Family) (w : ℕ) where
  size : length (only_lives f w) ≡ length f
  size = length-map-range_with_len (only_person f w) 0 (length f)

  -- a person of that family
  pub only_there : (p : ℕ) → p < length f → person (only_lives f w) p ≡ only_person f w p
  only_there p h = get_or-map-range_with_len (only_person f w) 0 (length f) p p nobody h (omega arith)

  pub only_parents : SameParents f (only_lives f w)
  only_parents =
      record {
        size = size;
        mother = λ c. same (λ p. p.mother) refl c (λ h. refl);
        father = λ c. same (λ p. p.father) refl c (λ h. refl);
      }
    where
      same : (k : Person → ℕ) → k nobody ≡ k nobody → (c : ℕ) → (c < length f → k (only_person f w c) ≡ k (person f c)) → k (person (only_lives f w) c) ≡ k (person f c)
      same k e c h =
          ⊎_elim (λ (l : c < length f). ap k (only_there c l) ∙ h l)
          (λ (l : length f ≤ c). ap k (past_nobody (only_lives f w) c (omega (arith, size))) ∙ sym (ap k (past_nobody f c l))) (cases_lt c (length f))

  module _ {rk : ℕ → ℕ} (s : Ranked f rk) (there : w < length f) where
    ranked : Ranked (only_lives f w) rk
    ranked = ranked_same f (only_lives f w) rk only_parents s

    -- nobody is the decedent: no line is of who is not there
    lives_only : (p : ℕ) → (person (only_lives f w) p).lives ≡ true → p ≡ w
    lives_only p e =
        let h : p < length f = let z = lives_there (only_lives f w) p e in omega (arith, size) in
        eqb-true p w (sym (ap (λ (x : Person). x.lives) (only_there p h)) ∙ e)

    down : (p : ℕ) → line_lives (only_lives f w) (length f) p ≡ true → OfLine f p w
    down =
        descend s (λ p. line_lives (only_lives f w) (length f) p ≡ true → OfLine f p w)
        (λ p below e.
        ⊎_elim
        (λ (l : p < length f).
        ⊎_elim (λ (v : (person (only_lives f w) p).lives ≡ true). subst (λ (q : ℕ). OfLine f q w) (sym (lives_only p v)) (line_here f w))
        (λ (v : some_of (line_lives (only_lives f w) (length f)) (children (only_lives f w) p) ≡ true).
        let t = child_of_some (only_lives f w) (line_lives (only_lives f w) (length f)) p v in
        let k : is_child f p t.0 ≡ true = sym (child_same f (only_lives f w) only_parents p t.0) ∙ t.1 in
        line_step f p t.0 w k (below t.0 k t.2))
        (or_cases (person (only_lives f w) p).lives (some_of (line_lives (only_lives f w) (length f)) (children (only_lives f w) p))
        (sym (line_lives_other ranked (length f) p (λ q. omega arith)) ∙ e)))
        (λ (l : length f ≤ p). absurd (both_ways (line_lives (only_lives f w) (length f) p) (line_lives_past ranked (length f) p (omega (arith, size))) e))
        (cases_lt p (length f)))

    up : (p : ℕ) → OfLine f p w → line_lives (only_lives f w) (length f) p ≡ true
    up p h =
        ascend f (λ q. line_lives (only_lives f w) (length f) q ≡ true)
        (λ q c k v.
        line_lives_child ranked (length f) q c (λ e. let z = s.here q c k in omega arith) (child_same f (only_lives f w) only_parents q c ∙ k) v)
        p w h
        (line_lives_self ranked (length f) w (λ e. omega arith) (ap (λ (x : Person). x.lives) (only_there w there) ∙ eq-eqb w w refl))

    pub lines_to : LinesTo f w (line_lives (only_lives f w) (length f))
    lines_to p = (down p, up p)
