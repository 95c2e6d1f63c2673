-- Walking along the links of a parent's children: the links read are those of the list of children, turn by turn. Assumes nothing.
use Rattle.std.proofs.Common.{◌≡◌, ℕ, suc, ◌+◌, ◌*◌, ◌<◌, ◌≤◌, Bool, true, false, ◌∷◌, ◌++◌, length, get_or, take, drop, sym, ap, ◌∙◌, subst, ⊎_elim, arith}
use Rattle.std.proofs.lemmas.List.{take-append-drop, drop_more, drop_all}
use Rattle.std.proofs.ByRecursion.{All-get_or}
use Rattle.std.proofs.lemmas.Bool.{cases_lt, eqb-true, eqb-false}
use Rattle.law.specs.Family.{person, Family, is_child, children}
use Rattle.rows.specs.Tables.{table}
use Rattle.children.specs.Links.{first_of, last_of, successor, behind, link_row, is_mother, OfLast, next_place}
use Rattle.theory.proofs.Families.{parent_cases, child_there}
use Rattle.theory.proofs.Children.{children_child}
use Rattle.children.proofs.Links.{all_last, children_successor, link_read}

-- what `first`, `last` and `next` read from the words of a family
pub first_read : (n : ℕ) (f : Family) (p : ℕ) → p < n → get_or (table n (link_row f)) (4 * p) 0 ≡ first_of (children f p)
first_read n f p h = let e : 4 * p ≡ 4 * p + 0 = omega arith in ap (λ z. get_or (table n (link_row f)) z 0) e ∙ link_read n f p 0 h (omega arith)

pub last_read : (n : ℕ) (f : Family) (p : ℕ) → p < n → get_or (table n (link_row f)) (4 * p + 1) 0 ≡ last_of (children f p)
last_read n f p h = link_read n f p 1 h (omega arith)

pub next_read :
    (n : ℕ) (f : Family) (p c : ℕ) (by_mother : Bool) → c < n → is_child f p c ≡ true → by_mother ≡ is_mother f p c →
    get_or (table n (link_row f)) (next_place c by_mother) 0 ≡ successor (children f p) c
unfolding behind
next_read n f p c true h child side =
    link_read n f c 2 h (omega arith) ∙ ap (λ m. behind f m c) (eqb-true (person f c).mother (suc p) (sym side))
next_read n f p c false h child side =
    let d : (person f c).father ≡ suc p = ⊎_elim (λ m. absurd (eqb-false (person f c).mother (suc p) (sym side) m)) (λ d. d) (parent_cases f p c child) in
    link_read n f c 3 h (omega arith) ∙ ap (λ m. behind f m c) d

-- who the last child is, and of which side that is to be said where a child is filed behind it
pub last_child : (f : Family) (p c : ℕ) → last_of (children f p) ≡ suc c → (c < length f) × (is_child f p c ≡ true)
last_child f p c e = let k = all_last (λ x. is_child f p x ≡ true) (children f p) c (children_child f p) e in (child_there f p c k, k)

pub of_last_read :
    (n : ℕ) (f : Family) (p : ℕ) (by_mother : Bool) → p < n → ((c : ℕ) → get_or (table n (link_row f)) (4 * p + 1) 0 ≡ suc c → by_mother ≡ is_mother f p c) →
    OfLast f (suc p) by_mother
of_last_read n f p by_mother h side q c s e =
    let r : p ≡ q = omega arith in
    subst (λ z. by_mother ≡ is_mother f z c) r (side c (last_read n f p h ∙ ap (λ z. last_of (children f z)) r ∙ e))

-- A walk has the invariant `link ≡ first_of (drop i (children f p))`, which is `first_read` at the start. A link to c: c is the i-th child.
pub walk_child :
    (f : Family) (p i link c : ℕ) → link ≡ first_of (drop i (children f p)) → link ≡ suc c →
    (i < length (children f p)) × (get_or (children f p) i 0 ≡ c) × (c < length f) × (is_child f p c ≡ true)
unfolding first_of
walk_child f p i link c inv s =
    ⊎_elim
    (λ (h : i < length (children f p)).
    let e : suc c ≡ suc (get_or (children f p) i 0) = sym s ∙ inv ∙ ap first_of (drop_more (children f p) i 0 h) in
    let g : get_or (children f p) i 0 ≡ c = omega arith in
    let k : is_child f p c ≡ true = subst (λ z. is_child f p z ≡ true) g (All-get_or (λ x. is_child f p x ≡ true) (children f p) i 0 h (children_child f p)) in
    (h, g, child_there f p c k, k))
    (λ (h : length (children f p) ≤ i).
    let e : suc c ≡ 0 = sym s ∙ inv ∙ ap first_of (drop_all i (children f p) h) in absurd (omega arith))
    (cases_lt i (length (children f p)))

-- One turn: the link from c leads on.
pub walk_next :
    (n : ℕ) (f : Family) (p i link c : ℕ) (by_mother : Bool) → length f ≤ n → link ≡ first_of (drop i (children f p)) → link ≡ suc c → by_mother ≡ is_mother f p c →
    get_or (table n (link_row f)) (next_place c by_mother) 0 ≡ first_of (drop (i + 1) (children f p))
walk_next n f p i link c by_mother room inv s side =
    let w = walk_child f p i link c inv s in
    let e : children f p ≡ take i (children f p) ++ (c ∷ drop (i + 1) (children f p)) =
    sym (take-append-drop i (children f p)) ∙ ap (λ r. take i (children f p) ++ r) (drop_more (children f p) i 0 w.0 ∙ ap (λ x. x ∷ drop (i + 1) (children f p)) w.1) in
    next_read n f p c by_mother (omega arith) w.3 side ∙ children_successor f p c (take i (children f p)) (drop (i + 1) (children f p)) e

-- The end: where there is no link, all children were met. As many turns as there are persons are enough (`length-children`).
pub walk_end : (f : Family) (p i link : ℕ) → link ≡ first_of (drop i (children f p)) → link ≡ 0 → length (children f p) ≤ i
unfolding first_of
walk_end f p i link inv s =
    ⊎_elim
    (λ (h : i < length (children f p)).
    let e : 0 ≡ suc (get_or (children f p) i 0) = sym s ∙ inv ∙ ap first_of (drop_more (children f p) i 0 h) in absurd (omega arith))
    (λ (h : length (children f p) ≤ i). h) (cases_lt i (length (children f p)))
