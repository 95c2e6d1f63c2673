-- The writes and reads by which a child is filed under its parents. Assumes nothing.
use Rattle.std.proofs.Common.{◌≡◌, ℕ, zero, suc, ◌+◌, ◌*◌, ◌<◌, ◌≤◌, Bool, eqb, ◌⊎◌, List, [], ◌∷◌, ◌++◌, length, get_or, take, drop, set, sym, refl, ap, ◌∙◌, ⊎_elim, arith}
use borrow.Rule.Slice.PartMut.{put_mid}
use Rattle.law.specs.Family.{Person, Family, person}
use Rattle.law.specs.Calls.{newborn}
use Rattle.rows.specs.Written.{written}
use Rattle.rows.specs.Tables.{table}
use Rattle.children.specs.Links.{link_row, filed, appended, OfLast, TwoParents}
use Rattle.children.proofs.Walks.{last_read, last_child}
use Rattle.children.proofs.Births.{links_born}
use Rattle.people.specs.Layout.{person_words, person_row, laid}
use Rattle.people.proofs.Layouts.{laid_put, laid_recount, persons_wide, row_push, row_push_last, links_part, links_put}

pub filed_known : (links new : List ℕ) (link p child : ℕ) (side : Bool) → link ≡ suc p → new ≡ appended links p child side → new ≡ filed links link child side
unfolding filed
filed_known links new link p child side some e = e ∙ ap (λ q. filed links q child side) (sym some)

pub filed_none : (links : List ℕ) (link child : ℕ) (side : Bool) → link ≡ 0 → links ≡ filed links link child side
unfolding filed
filed_none links zero child side e = refl
filed_none links (suc p) child side e = absurd (omega arith)

-- what is read of a parent's last child
pub no_last :
    (part : List ℕ) (n : ℕ) (f : Family) (parent number last : ℕ) → part ≡ table n (link_row f) → length f ≤ n → parent ≡ suc number → number < n →
    last ≡ get_or part (4 * number + 1) 0 → (last ≡ 0) ⊎ (n < last) → (side : Bool) → OfLast f parent side
no_last part n f parent number last e room is there read out side p c at l =
    let q : number ≡ p = omega arith in
    let r : last ≡ suc c = read ∙ (λ i. get_or (e i) (4 * q i + 1) 0) ∙ last_read n f p (omega arith) ∙ l in
    let b = (last_child f p c l).0 in
    absurd (⊎_elim (λ (z : last ≡ 0). omega arith) (λ (z : n < last). omega arith) out)

pub some_last :
    (part : List ℕ) (n : ℕ) (f : Family) (parent number last who : ℕ) (q : Person) (side : Bool) → part ≡ table n (link_row f) → parent ≡ suc number → number < n →
    last ≡ get_or part (4 * number + 1) 0 → last ≡ suc who → q ≡ person f who → side ≡ eqb q.mother parent → OfLast f parent side
some_last part n f parent number last who q side e some there read met is test p c at l =
    let z : number ≡ p = omega arith in
    let r : last ≡ suc c = read ∙ (λ i. get_or (e i) (4 * z i + 1) 0) ∙ last_read n f p (omega arith) ∙ l in
    let w : who ≡ c = omega arith in
    test ∙ (λ i. eqb ((is ∙ ap (λ j. person f j) w) i).mother (at i))

-- a child is added: its words, its links, and the count
pub added :
    (ws mid links : List ℕ) (n k : ℕ) (f : Family) (q : Person) (m d : ℕ) (s : ℕ → Bool) (work rest : List ℕ) (of_mother of_father : Bool) → k ≡ length f → k < n → m ≤ k → d ≤ k →
    (m ≡ d → m ≡ 0) → TwoParents f → q ≡ newborn m d → OfLast f m of_mother → OfLast f d of_father → ws ≡ laid n (length f) (person_row f) (link_row f) s work rest →
    mid ≡ written (2 + 4 * k) (person_words q) ws →
    links ≡ filed (filed (take (4 * n) (drop (2 + 4 * n) mid)) m k of_mother) d k of_father →
    set (put_mid (2 + 4 * n) (4 * n) mid links) 1 (k + 1) ≡ laid n (length f + 1) (person_row (f ++ (q ∷ []))) (link_row (f ++ (q ∷ []))) s work rest
added ws mid links n k f q m d s work rest of_mother of_father count room m-there d-there other two new m-last d-last e w l =
    let g = f ++ (q ∷ []) in
    let j = length f in
    let put : mid ≡ laid n j (person_row g) (link_row f) s work rest =
    w ∙ (λ i. written (2 + 4 * count i) (sym (row_push_last f q) i) (e i))
    ∙ laid_put n j (person_row f) (link_row f) s work rest (person_row g) j (persons_wide f) (persons_wide g) (omega arith) (λ i h ne. row_push f q i ne) in
    let linked : links ≡ table n (link_row g) =
    l ∙ (λ i. filed (filed (links_part mid n j g f s work rest put i) m (count i) of_mother) d (count i) of_father)
    ∙ links_born n f m d of_mother of_father (omega arith) (omega arith) (omega arith) other two m-last d-last ∙ ap (λ x. table n (link_row (f ++ (x ∷ [])))) (sym new) in
    (λ i. set (links_put mid links n j g f s work rest put linked i) 1 (count i + 1)) ∙ laid_recount n j (person_row g) (link_row g) s work rest (j + 1)
