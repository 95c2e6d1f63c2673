-- One turn of a loop downward, and that every number on the way fits where all together did at the start. Assumes nothing.
use Rattle.std.proofs.Common.{◌≡◌, ℕ, ◌+◌, ◌*◌, ◌/◌, ◌<◌, ◌≤◌, List, [], ◌∷◌, map, length, get_or, drop, set, sum, sym, refl, ap, ◌∙◌, ⊎_elim, arith}
use Rattle.std.specs.List.{range_with_len, AllByRecursion}
use Rattle.std.proofs.lemmas.List.FromFn.{fill_by_all}
use Rattle.std.proofs.ByRecursion.{All-weaker}
use Rattle.std.proofs.lemmas.List.{length-set, get_or-set_same, get_or-set_other, drop_more, drop_all}
use Rattle.std.proofs.lemmas.Bool.{cases_eq, eq-eqb, ne_eqb}
use Rattle.law.specs.Family.{Part}
use Rattle.law.specs.Calls.{pieces}
use Rattle.amounts.specs.Passes.{added_each, handed_on, handed_down, started}
use Rattle.amounts.proofs.Downward.{one_most}

-- the next of a list hands on
pub handed_turn : (below : ℕ → List ℕ) (os : List ℕ) (i q : ℕ) (row : List ℕ) → i < length os → get_or os i 0 ≡ q
    → handed_down below (drop i os) row ≡ handed_down below (drop (i + 1) os) (handed_on (below q) q row)
unfolding handed_down
handed_turn below os i q row l e =
    ap (λ (qs : List ℕ). handed_down below qs row) (drop_more os i 0 l) ∙ ap (λ (p : ℕ). handed_down below (drop (i + 1) os) (handed_on (below p) p row)) e

pub handed_end : (below : ℕ → List ℕ) (os : List ℕ) (i : ℕ) (row : List ℕ) → length os ≤ i → handed_down below (drop i os) row ≡ row
unfolding handed_down
handed_end below os i row l = ap (λ (qs : List ℕ). handed_down below qs row) (drop_all i os l)

-- the next of those below has more
pub added_turn : (cs : List ℕ) (j c more : ℕ) (row : List ℕ) → j < length cs → get_or cs j 0 ≡ c
    → added_each (drop j cs) more row ≡ added_each (drop (j + 1) cs) more (set row c (get_or row c 0 + more))
unfolding added_each
added_turn cs j c more row l e =
    ap (λ (ds : List ℕ). added_each ds more row) (drop_more cs j 0 l) ∙ ap (λ (p : ℕ). added_each (drop (j + 1) cs) more (set row p (get_or row p 0 + more))) e

pub added_end : (cs : List ℕ) (j more : ℕ) (row : List ℕ) → length cs ≤ j → added_each (drop j cs) more row ≡ row
unfolding added_each
added_end cs j more row l = ap (λ (ds : List ℕ). added_each ds more row) (drop_all j cs l)

-- nobody has less for it, so that what fits at the end fits before
added_grows : (cs : List ℕ) (more : ℕ) (row : List ℕ) (w : ℕ) → AllByRecursion (λ c. c < length row) cs → get_or row w 0 ≤ get_or (added_each cs more row) w 0
unfolding added_each
added_grows [] more row w l = omega arith
added_grows (c ∷ cs) more row w l =
    let r : List ℕ = set row c (get_or row c 0 + more) in
    let k =
    added_grows cs more r w (All-weaker (λ x. x < length row) (λ x. x < length r) (λ x h. let z = length-set row c (get_or row c 0 + more) in omega arith) cs l.1) in
    ⊎_elim
    (λ (e : w ≡ c).
    let a : get_or r w 0 ≡ get_or row c 0 + more = ap (λ (x : ℕ). get_or r x 0) e ∙ get_or-set_same row c (get_or row c 0 + more) 0 l.0 in
    let b : get_or row w 0 ≡ get_or row c 0 = ap (λ (x : ℕ). get_or row x 0) e in
    omega arith)
    (λ (n : w ≡ c → ⊥). let a = get_or-set_other row c w (get_or row c 0 + more) 0 n in omega arith) (cases_eq w c)

pub added_fits : (cs : List ℕ) (c more most : ℕ) (row : List ℕ) → c < length row → AllByRecursion (λ x. x < length row) cs → sum (added_each (c ∷ cs) more row) ≤ most
    → get_or row c 0 + more ≤ most
unfolding added_each
added_fits cs c more most row l a h =
    let r : List ℕ = set row c (get_or row c 0 + more) in
    let g =
    added_grows cs more r c (All-weaker (λ x. x < length row) (λ x. x < length r) (λ x i. let z = length-set row c (get_or row c 0 + more) in omega arith) cs a) in
    let o = one_most (added_each cs more r) c in
    let e = get_or-set_same row c (get_or row c 0 + more) 0 l in
    omega arith

-- what lines begin with, for each person: so many times their pieces of these parts
pub started_pieces : (times n : ℕ) (ss : List Part) (row : List ℕ) (w : ℕ) → AllByRecursion (λ (s : Part). s.who < length row) ss
    → get_or (started times n ss row) w 0 ≡ get_or row w 0 + times * pieces n ss w
unfolding started pieces
started_pieces times n [] row w a = omega arith
started_pieces times n (s ∷ ss) row w a =
    let y = get_or row s.who 0 + times * (n / s.by) in
    let r : List ℕ = set row s.who y in
    let e =
    started_pieces times n ss r w (All-weaker (λ (x : Part). x.who < length row) (λ (x : Part). x.who < length r) (λ x i. let z = length-set row s.who y in omega arith) ss a.1) in
    ⊎_elim
    (λ (q : s.who ≡ w).
    let b : get_or r w 0 ≡ y = ap (λ (x : ℕ). get_or r x 0) (sym q) ∙ get_or-set_same row s.who y 0 a.0 in
    let c : get_or row w 0 ≡ get_or row s.who 0 = ap (λ (x : ℕ). get_or row x 0) (sym q) in
    rw (eq-eqb s.who w q) (omega arith))
    (λ (q : s.who ≡ w → ⊥). let b = get_or-set_other row s.who w y 0 (λ h. q (sym h)) in rw (ne_eqb s.who w q) (omega arith)) (cases_eq s.who w)

-- a row by what each place has
pub row_by : (row : List ℕ) (value : ℕ → ℕ) → ((w : ℕ) → get_or row w 0 ≡ value w) → row ≡ map value (range_with_len 0 (length row))
row_by row value h = fill_by_all value row (length row) 0 refl (λ w _. h w)
