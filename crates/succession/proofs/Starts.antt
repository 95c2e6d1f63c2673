-- Starts one behind the other, for one forebear, two, and the sides of the grandparents. Assumes nothing.
use Rattle.std.proofs.Common.{◌≡◌, ℕ, zero, suc, ◌*◌, Bool, true, false, eqb, List, [], ◌∷◌, ◌++◌, map, length, get_or, filter, None, Option, sym, refl, ap, ◌∙◌, ⊎_elim, arith}
use Rattle.std.specs.List.{flat_map}
use Rattle.std.specs.Bool.{then_some}
use Rattle.std.proofs.lemmas.List.{append_assoc, append-nil, map-append, nil_from_length}
use Rattle.std.proofs.lemmas.List.Elements.{filter-append}
use Rattle.std.proofs.lemmas.Bool.{cases_Bool, cond-true, cond-false, not-false, eqb-true}
use Rattle.law.specs.Family.{Family, Part, known, parents, side_lives}
use Rattle.theory.specs.Living.{alive}
use Rattle.theory.proofs.Lists.{joined_append}
use Rattle.amounts.specs.Lines.{couple_starts}
use Rattle.shares.specs.Parts.{lead_parts}
use Rattle.shares.specs.declared.Part.{Part as PartStruct}
use Rattle.succession.specs.Orders.{forebears, parents_at}
use Rattle.succession.specs.Starts.{start_row, starts_row, sides_starts}

-- one forebear
pub start_none : (f : Family) (b link : ℕ) (r : Option PartStruct) → r ≡ None → link ≡ 0 → lead_parts r ≡ start_row f b (known link)
unfolding known
start_none f b link r none e = ap lead_parts none ∙ ap (λ l. start_row f b (known l)) (sym e)

pub start_one : (f : Family) (b link p : ℕ) (lives : Bool) (r : Option PartStruct) → link ≡ suc p → r ≡ then_some lives (record { who = p; by = b }) → lives ≡ alive f p → lead_parts r ≡ start_row f b (known link)
unfolding known
start_one f b link p lives r e is l = ap lead_parts is ∙ go lives l ∙ ap (λ z. start_row f b (known z)) (sym e)
  where
    go : (v : Bool) → v ≡ alive f p → lead_parts (then_some v (record { who = p; by = b })) ≡ start_row f b (known (suc p))
    go true h = unfold known in sym (ap (map (λ q. record { who = q; by = b })) (cond-true (alive f p) (p ∷ []) [] (sym h)))
    go false h = unfold known in sym (ap (map (λ q. record { who = q; by = b })) (cond-false (alive f p) (p ∷ []) [] (sym h)))

-- two
pub couple_row :
    (f : Family) (a b by each : ℕ) → each ≡ by * length (filter (alive f) (known a ++ known b)) → couple_starts f (known a ++ known b) by ≡ start_row f each (known a) ++ start_row f each (known b)
couple_row f a b by each e =
    ap (λ x. start_row f x (known a ++ known b)) (sym e) ∙ ap (map (λ q. record { who = q; by = each })) (filter-append (alive f) (known a) (known b))
    ∙ map-append (λ q. record { who = q; by = each }) (filter (alive f) (known a)) (filter (alive f) (known b))

-- a side without a living line has no starts
no_couple : (f : Family) (ps : List ℕ) (b : ℕ) → length (filter (alive f) ps) ≡ 0 → couple_starts f ps b ≡ []
no_couple f ps b e =
    let none : filter (alive f) ps ≡ [] = nil_from_length (filter (alive f) ps) e in
    ap (λ (cs : List ℕ). map (λ (c : ℕ). record { who = c; by = b * length cs }) cs) none

dead_side : (f : Family) (p : ℕ) → side_lives f (length f) p ≡ false → length (filter (alive f) (parents f p)) ≡ 0
unfolding side_lives
dead_side f p h = eqb-true (length (filter (alive f) (parents f p))) 0 (not-false (eqb (length (filter (alive f) (parents f p))) 0) h)

one_side :
    (f : Family) (b link : ℕ) → flat_map (λ p. couple_starts f (parents f p) b) (filter (λ p. side_lives f (length f) p) (known link)) ≡ couple_starts f (forebears (parents_at f link)) b
unfolding known
one_side f b zero = refl
one_side f b (suc p) =
    ⊎_elim
    (λ (h : side_lives f (length f) p ≡ true).
    ap (flat_map (λ q. couple_starts f (parents f q) b)) (cond-true (side_lives f (length f) p) (p ∷ []) [] h) ∙ append-nil (couple_starts f (parents f p) b))
    (λ (h : side_lives f (length f) p ≡ false).
    ap (flat_map (λ q. couple_starts f (parents f q) b)) (cond-false (side_lives f (length f) p) (p ∷ []) [] h) ∙ sym (no_couple f (parents f p) b (dead_side f p h)))
    (cases_Bool (side_lives f (length f) p))

pub sides_row :
    (f : Family) (a b by each : ℕ) → each ≡ by * length (filter (λ p. side_lives f (length f) p) (known a ++ known b)) →
    sides_starts f (known a ++ known b) by ≡ couple_starts f (forebears (parents_at f a)) each ++ couple_starts f (forebears (parents_at f b)) each
sides_row f a b by each e =
    let has : ℕ → List Part = λ p. couple_starts f (parents f p) each in
    let lives : ℕ → Bool = λ p. side_lives f (length f) p in
    ap (λ x. flat_map (λ p. couple_starts f (parents f p) x) (filter lives (known a ++ known b))) (sym e)
    ∙ ap (flat_map has) (filter-append lives (known a) (known b)) ∙ joined_append has (filter lives (known a)) (filter lives (known b))
    ∙ (λ i. one_side f each a i ++ one_side f each b i)

-- two places, and four
pub two_places : (xs : List (Option PartStruct)) → length xs ≡ 2 → lead_parts (get_or xs 0 None) ++ (lead_parts (get_or xs 1 None) ++ []) ≡ starts_row xs
two_places [] e = absurd (omega arith)
two_places (x ∷ []) e = absurd (omega arith)
two_places (x ∷ (y ∷ [])) e = refl
two_places (x ∷ (y ∷ (z ∷ xs))) e = absurd (omega arith)

pub four_places :
    (xs ys : List (Option PartStruct)) → length xs ≡ 2 → length ys ≡ 2 →
    lead_parts (get_or xs 0 None) ++ (lead_parts (get_or xs 1 None) ++ (lead_parts (get_or ys 0 None) ++ (lead_parts (get_or ys 1 None) ++ []))) ≡ starts_row xs ++ starts_row ys
four_places xs ys e h =
    let a = lead_parts (get_or xs 0 None) in
    let b = lead_parts (get_or xs 1 None) in
    ap (λ (r : List Part). a ++ (b ++ r)) (two_places ys h) ∙ sym (append_assoc a (b ++ []) (starts_row ys) ∙ ap (λ (r : List Part). a ++ r) (append_assoc b [] (starts_row ys)))
    ∙ ap (λ (r : List Part). r ++ starts_row ys) (two_places xs e)
