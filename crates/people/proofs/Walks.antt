-- Walking along the links of somebody's children meets them in their order. Assumes nothing.
use Rattle.std.proofs.Common.{◌≡◌, ℕ, zero, suc, ◌+◌, ◌-◌, ◌<◌, ◌≤◌, Bool, ltb, ◌⊎◌, List, [], ◌∷◌, length, drop, sym, refl, ap, ◌∙◌, ⊎_elim, arith}
use Rattle.std.proofs.lemmas.Bool.{cond_both, cond-true, cond-false, lt-ltb, le-ltb, ltb-true}
use Rattle.std.specs.List.{All}
use Rattle.std.proofs.lemmas.List.{drop_more, drop_all}
use Rattle.std.proofs.lemmas.List.Elements.{All-nil, All-cons}
use Rattle.law.specs.Family.{Family, children}
use Rattle.children.specs.Links.{first_of, link_row, is_mother}
use Rattle.children.proofs.Children.{length-children}
use Rattle.children.proofs.Walks.{walk_child, walk_next, walk_end}
use Rattle.people.specs.Layout.{limit_in, next_link, person_row, laid}
use Rattle.people.specs.Walks.{met_from}
use Rattle.people.proofs.Layouts.{limit_laid, next_said}

-- one step: the link leads to nobody, or to somebody
pub met_nobody : (ws : List ℕ) (parent link steps : ℕ) → (link ≡ 0) ⊎ (limit_in ws < link) → met_from ws parent link steps ≡ []
unfolding met_from
met_nobody ws parent zero steps out = refl
met_nobody ws parent (suc c) zero out = refl
met_nobody ws parent (suc c) (suc steps) out =
    let h : limit_in ws ≤ c = ⊎_elim (λ (z : suc c ≡ 0). omega arith) (λ (z : limit_in ws < suc c). omega arith) out in
    cond-false (ltb c (limit_in ws)) (c ∷ met_from ws parent (next_link ws parent c) steps) [] (le-ltb c (limit_in ws) h)

pub met_none : (ws : List ℕ) (parent link steps : ℕ) → steps ≡ 0 → met_from ws parent link steps ≡ []
unfolding met_from
met_none ws parent zero steps e = refl
met_none ws parent (suc c) zero e = refl
met_none ws parent (suc c) (suc steps) e = absurd (omega arith)

pub met_somebody :
    (ws : List ℕ) (parent link steps c : ℕ) → (steps ≡ 0 → ⊥) → link ≡ suc c → c < limit_in ws →
    met_from ws parent link steps ≡ c ∷ met_from ws parent (next_link ws parent c) (steps - 1)
unfolding met_from
met_somebody ws parent link zero c some e h = absurd (some refl)
met_somebody ws parent link (suc steps) c some e h =
    let d : steps ≡ suc steps - 1 = omega arith in
    ap (λ l. met_from ws parent l (suc steps)) e
    ∙ cond-true (ltb c (limit_in ws)) (c ∷ met_from ws parent (next_link ws parent c) steps) [] (lt-ltb c (limit_in ws) h)
    ∙ ap (λ m. c ∷ met_from ws parent (next_link ws parent c) m) d

-- everybody who is met is within the limit
pub met_within : (ws : List ℕ) (parent link steps : ℕ) → All (λ c. c < limit_in ws) (met_from ws parent link steps)
unfolding met_from
met_within ws parent zero steps = All-nil (λ c. c < limit_in ws)
met_within ws parent (suc c) zero = All-nil (λ c. c < limit_in ws)
met_within ws parent (suc c) (suc steps) =
    let next = next_link ws parent c in
    let Within : ℕ → Type 0 = λ p. p < limit_in ws in
    cond_both (ltb c (limit_in ws)) (c ∷ met_from ws parent next steps) [] (All Within)
    (λ h. All-cons Within c (met_from ws parent next steps) (ltb-true c (limit_in ws) h) (met_within ws parent next steps)) (λ _. All-nil Within)

-- there are no more of them than steps
pub met_few : (ws : List ℕ) (parent link steps : ℕ) → length (met_from ws parent link steps) ≤ steps
unfolding met_from
met_few ws parent zero steps = omega arith
met_few ws parent (suc c) zero = omega arith
met_few ws parent (suc c) (suc steps) =
    let next = next_link ws parent c in
    cond_both (ltb c (limit_in ws)) (c ∷ met_from ws parent next steps) [] (λ xs. length xs ≤ suc steps)
    (λ _. let few = met_few ws parent next steps in omega arith) (λ _. omega arith)

-- the links of a family lead along the children, and there are steps enough
pub met_children :
    (ws : List ℕ) (n k : ℕ) (f : Family) (s : ℕ → Bool) (work rest : List ℕ) (p i link steps : ℕ) → ws ≡ laid n k (person_row f) (link_row f) s work rest → length f ≤ n →
    link ≡ first_of (drop i (children f p)) → length (children f p) ≤ i + steps → met_from ws p link steps ≡ drop i (children f p)
unfolding met_from
met_children ws n k f s work rest p i zero steps e room inv enough =
    sym (drop_all i (children f p) (walk_end f p i 0 inv refl))
met_children ws n k f s work rest p i (suc c) zero e room inv enough =
    absurd (let w = (walk_child f p i (suc c) c inv refl).0 in omega arith)
met_children ws n k f s work rest p i (suc c) (suc steps) e room inv enough =
    let w = walk_child f p i (suc c) c inv refl in
    let l = limit_laid ws n k (person_row f) (link_row f) s work rest e in
    let next : next_link ws p c ≡ first_of (drop (i + 1) (children f p)) =
    next_said ws n k f s work rest p c e (omega arith) ∙ walk_next n f p i (suc c) c (is_mother f p c) room inv refl refl in
    cond-true (ltb c (limit_in ws)) (c ∷ met_from ws p (next_link ws p c) steps) [] (lt-ltb c (limit_in ws) (omega arith))
    ∙ (λ j. sym w.1 j ∷ met_children ws n k f s work rest p (i + 1) (next_link ws p c) steps e room next (omega arith) j)
    ∙ sym (drop_more (children f p) i 0 w.0)

pub met_all :
    (ws : List ℕ) (n k : ℕ) (f : Family) (s : ℕ → Bool) (work rest : List ℕ) (p i link : ℕ) → ws ≡ laid n k (person_row f) (link_row f) s work rest → length f ≤ n → length f ≤ k →
    link ≡ first_of (drop i (children f p)) → met_from ws p link k ≡ drop i (children f p)
met_all ws n k f s work rest p i link e room enough inv =
    met_children ws n k f s work rest p i link k e room inv (omega (arith, length-children f p))
