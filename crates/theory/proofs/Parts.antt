-- Rows of parts: what they come to together, and that a living line has just what it was given. Assumes nothing.
use Rattle.std.proofs.Common.{◌≡◌, ℕ, zero, suc, ◌+◌, ◌-◌, ◌*◌, ◌/◌, ◌%◌, ◌<◌, ◌≤◌, Bool, true, false, cond, not, ◌&&◌, ◌||◌, eqb, ◌≢◌, List, [], ◌∷◌, ◌++◌, length, sym, refl, ap, ◌∙◌, subst, ⊎_elim, div-add-mod', arith}
use native.Mathlib.Nat.{eq_of_mul-eq-mul_right}
use Rattle.std.specs.List.{flat_map, AllByRecursion}
use Rattle.std.proofs.lemmas.List.{length-append}
use Rattle.std.proofs.ByRecursion.{All-weaker, All-append, kept_by_passes}
use Rattle.std.proofs.lemmas.Bool.{and_parts, and_from, eqb-true, both_ways, cases_Bool, cases_eq, cond-false, cond_both}
use Rattle.law.specs.Family.{person, Family, is_child, children, some_of, line_lives, living_lines, Part, line_parts_in, line_parts, parents, couple_parts, first_order, second_order, side_lives, living_sides, third_order, order, relatives_parts, has_living_spouse, spouse_parts, repeated, estate}
use Rattle.law.specs.Calls.{divides_all, pieces, all_pieces}
use Rattle.law.specs.Promise.{AddsUp}
use Rattle.theory.specs.Families.{Ranked}
use Rattle.theory.specs.Living.{lines_below}
use Rattle.theory.specs.Multiples.{Divides}
use Rattle.theory.specs.Statements.{AddsUpByRank}
use Rattle.theory.proofs.Lists.{all_any, all_both, all_one, joined_all, kept_some, kept_positive}
use Rattle.theory.proofs.Families.{well_formed_reached}
use Rattle.theory.proofs.Lines.{below_child, below_lives, stands_decedent, descend, line_lives_law, line_parts_law, parts_divided}
use Rattle.theory.proofs.Orders.{relatives_by, relatives_cases, estate_cases}

-- two rows
pub divides_append : (n : ℕ) (ps qs : List Part) → divides_all n (ps ++ qs) ≡ (divides_all n ps && divides_all n qs)
unfolding divides_all
divides_append n [] qs = refl
divides_append n (p ∷ ps) qs = ap (λ (x : Bool). eqb (n % p.by) 0 && x) (divides_append n ps qs) ∙ assoc (eqb (n % p.by) 0)
  where
    assoc : (x : Bool) → (x && (divides_all n ps && divides_all n qs)) ≡ ((x && divides_all n ps) && divides_all n qs)
    assoc true = refl
    assoc false = refl

pub divides_both : (n : ℕ) (ps qs : List Part) → divides_all n (ps ++ qs) ≡ true → (divides_all n ps ≡ true) × (divides_all n qs ≡ true)
divides_both n ps qs h = and_parts (divides_all n ps) (divides_all n qs) (sym (divides_append n ps qs) ∙ h)

pub pieces_append : (n : ℕ) (ps qs : List Part) (w : ℕ) → pieces n (ps ++ qs) w ≡ pieces n ps w + pieces n qs w
unfolding pieces
pieces_append n [] qs w = omega arith
pieces_append n (p ∷ ps) qs w = let e = pieces_append n ps qs w in omega arith

pub all_pieces_append : (n : ℕ) (ps qs : List Part) → all_pieces n (ps ++ qs) ≡ all_pieces n ps + all_pieces n qs
unfolding all_pieces
all_pieces_append n [] qs = omega arith
all_pieces_append n (p ∷ ps) qs = let e = all_pieces_append n ps qs in omega arith

pub pieces_le_all : (n : ℕ) (ps : List Part) (w : ℕ) → pieces n ps w ≤ all_pieces n ps
unfolding pieces all_pieces
pieces_le_all n [] w = omega arith
pieces_le_all n (p ∷ ps) w =
    let e = pieces_le_all n ps w in
    cond_both (eqb p.who w) (n / p.by) 0 (λ (x : ℕ). x + pieces n ps w ≤ n / p.by + all_pieces n ps) (λ _. omega arith) (λ _. omega arith)

-- a row so many times over
pub repeated_all : (P : Part → Type 0) (k : ℕ) (ps : List Part) → AllByRecursion P ps → AllByRecursion P (repeated k ps)
unfolding repeated
repeated_all P zero ps a = tt
repeated_all P (suc k) ps a = All-append P ps (repeated k ps) a (repeated_all P k ps a)

pub length-repeated : (k : ℕ) (ps : List Part) → length (repeated k ps) ≡ k * length ps
unfolding repeated
length-repeated zero ps = omega arith
length-repeated (suc k) ps = let e = length-repeated k ps in omega (arith, length-append ps (repeated k ps))

pub divides_repeated : (n k : ℕ) (ps : List Part) → divides_all n ps ≡ true → divides_all n (repeated k ps) ≡ true
unfolding repeated divides_all
divides_repeated n zero ps h = refl
divides_repeated n (suc k) ps h = divides_append n ps (repeated k ps) ∙ and_from (divides_all n ps) (divides_all n (repeated k ps)) h (divides_repeated n k ps h)

pub divides_once : (n k : ℕ) (ps : List Part) → divides_all n (repeated (suc k) ps) ≡ true → divides_all n ps ≡ true
unfolding repeated
divides_once n k ps h = (divides_both n ps (repeated k ps) h).0

pub pieces_repeated : (n k : ℕ) (ps : List Part) (w : ℕ) → pieces n (repeated k ps) w ≡ k * pieces n ps w
unfolding repeated pieces
pieces_repeated n zero ps w = omega arith
pieces_repeated n (suc k) ps w = let e = pieces_repeated n k ps w in omega (arith, pieces_append n ps (repeated k ps) w)

pub all_pieces_repeated : (n k : ℕ) (ps : List Part) → all_pieces n (repeated k ps) ≡ k * all_pieces n ps
unfolding repeated all_pieces
all_pieces_repeated n zero ps = omega arith
all_pieces_repeated n (suc k) ps = let e = all_pieces_repeated n k ps in omega (arith, all_pieces_append n ps (repeated k ps))

-- rows joined
pub divides_joined : {X : Type 0} (n : ℕ) (g : X → List Part) (xs : List X) → divides_all n (flat_map g xs) ≡ true → AllByRecursion (λ x. divides_all n (g x) ≡ true) xs
divides_joined n g [] h = tt
divides_joined n g (x ∷ xs) h = let r = divides_both n (g x) (flat_map g xs) h in (r.0, divides_joined n g xs r.1)

-- a row that comes to one by b of n pieces, if all its parts divide n
abbrev pub AddsTo : ℕ → ℕ → List Part → Type 0
AddsTo n b ps = divides_all n ps ≡ true → all_pieces n ps * b ≡ n

pub one_adds : (n p b : ℕ) → AddsTo n b (record { who = p; by = b } ∷ [])
unfolding divides_all all_pieces
one_adds n p b h =
    let z : n % b ≡ 0 = eqb-true (n % b) 0 (and_parts (eqb (n % b) 0) true h).0 in
    let e : n / b * b + n % b ≡ n = div-add-mod' n b in
    omega arith

-- such a row is not empty
adds_some : (b : ℕ) (ps : List Part) → AddsTo 1 b ps → 0 < length ps
unfolding divides_all all_pieces
adds_some b [] h = absurd (let e = h refl in omega arith)
adds_some b (q ∷ qs) h = omega arith

-- rows that each come to the same
even_rows : {X : Type 0} (n k : ℕ) (g : X → List Part) (xs : List X) → AllByRecursion (λ x. AddsTo n k (g x)) xs → divides_all n (flat_map g xs) ≡ true
    → all_pieces n (flat_map g xs) * k ≡ length xs * n
unfolding all_pieces
even_rows n k g [] a h = omega arith
even_rows n k g (x ∷ xs) a h =
    let r = divides_both n (g x) (flat_map g xs) h in
    let y : all_pieces n (g x) * k ≡ n = a.0 r.0 in
    let z : all_pieces n (flat_map g xs) * k ≡ length xs * n = even_rows n k g xs a.1 r.1 in
    rw (all_pieces_append n (g x) (flat_map g xs)) (omega arith)

pub joined_adds : {X : Type 0} (n b : ℕ) (g : X → List Part) (xs : List X) → 0 < length xs → AllByRecursion (λ x. AddsTo n (b * length xs) (g x)) xs → AddsTo n b (flat_map g xs)
joined_adds n b g xs l a h =
    let e : all_pieces n (flat_map g xs) * (b * length xs) ≡ length xs * n = even_rows n (b * length xs) g xs a h in
    eq_of_mul-eq-mul_right (length xs) l (all_pieces n (flat_map g xs) * b) n (omega arith)

-- numbers that are not 0
abbrev pub Positive : Part → Type 0
Positive q = 0 < q.by

pub joined_positive : {X : Type 0} (b : ℕ) (g : ℕ → X → List Part) (xs : List X) → 0 < b → ((k : ℕ) → 0 < k → (x : X) → AllByRecursion Positive (g k x)) → AllByRecursion Positive (flat_map (g (b * length xs)) xs)
joined_positive b g [] l h = tt
joined_positive b g (x ∷ xs) l h =
    let k = b * length (x ∷ xs) in
    joined_all Positive (g k) (x ∷ xs) (all_any (λ y. AllByRecursion Positive (g k y)) (λ y. h k (times b (length xs) l) y) (x ∷ xs))
  where
    times : (b n : ℕ) → 0 < b → 0 < b * suc n
    times b n l = omega arith

-- a line that lives and has nobody who stands for it has a child whose line lives
pub divided_below : {f : Family} {rk : ℕ → ℕ} → Ranked f rk → (d p : ℕ) → line_lives f d p ≡ true → (not (eqb p d) && (person f p).lives) ≡ false → 0 < length (lines_below f d p)
divided_below {f} s d p v e =
    kept_positive (lines_below f d p)
    (kept_some (λ c. line_lives f d c) (children f p) ∙ some (eqb p d) (person f p).lives (some_of (λ c. line_lives f d c) (children f p)) (sym (line_lives_law s d p) ∙ v) e)
  where
    some : (x l t : Bool) → cond x false (l || t) ≡ true → (not x && l) ≡ false → t ≡ true
    some true l t h k = absurd (both_ways false refl h)
    some false true t h k = absurd (both_ways true k refl)
    some false false t h k = h

-- beside a spouse
quarter : (n w : ℕ) (ps : List Part) → AddsTo n 4 ps → AddsTo n 1 (record { who = w; by = 4 } ∷ repeated 3 ps)
unfolding divides_all all_pieces
quarter n w ps h e =
    let r = and_parts (eqb (n % 4) 0) (divides_all n (repeated 3 ps)) e in
    let z : n % 4 ≡ 0 = eqb-true (n % 4) 0 r.0 in
    let x : all_pieces n ps * 4 ≡ n = h (divides_once n 2 ps r.1) in
    omega (arith, all_pieces_repeated n 3 ps)

half : (n w : ℕ) (ps : List Part) → AddsTo n 2 ps → AddsTo n 1 (record { who = w; by = 2 } ∷ ps)
unfolding divides_all all_pieces
half n w ps h e =
    let r = and_parts (eqb (n % 2) 0) (divides_all n ps) e in
    let z : n % 2 ≡ 0 = eqb-true (n % 2) 0 r.0 in
    let x : all_pieces n ps * 2 ≡ n = h r.1 in
    omega arith

-- no part's number is 0
positive_in : (f : Family) (d n p b : ℕ) → 0 < b → AllByRecursion Positive (line_parts_in n f d p b)
unfolding line_parts_in
positive_in f d zero p b l = tt
positive_in f d (suc n) p b l =
    cond_both (not (eqb p d) && (person f p).lives) (record { who = p; by = b } ∷ [])
    (flat_map (λ c. line_parts_in n f d c (b * length (lines_below f d p))) (lines_below f d p)) (AllByRecursion Positive) (λ _. (l, tt))
    (λ _. joined_positive b (λ k c. line_parts_in n f d c k) (lines_below f d p) l (λ k m c. positive_in f d n c k m))

module _ {f : Family} {rk : ℕ → ℕ} (s : Ranked f rk) (d : ℕ) where
  -- a living line's parts come to what it was given
  pub line_adds : (n p : ℕ) → line_lives f d p ≡ true → (b : ℕ) → AddsTo n b (line_parts f d p b)
  line_adds n = descend s (λ p. line_lives f d p ≡ true → (b : ℕ) → AddsTo n b (line_parts f d p b)) step
    where
      step : (p : ℕ) → ((c : ℕ) → is_child f p c ≡ true → line_lives f d c ≡ true → (b : ℕ) → AddsTo n b (line_parts f d c b)) → line_lives f d p ≡ true
          → (b : ℕ) → AddsTo n b (line_parts f d p b)
      step p ih v b =
          let k = b * length (lines_below f d p) in
          subst (AddsTo n b) (sym (line_parts_law s d p b))
          (cond_both (not (eqb p d) && (person f p).lives) (record { who = p; by = b } ∷ []) (flat_map (λ c. line_parts f d c k) (lines_below f d p)) (AddsTo n b) (λ _. one_adds n p b)
          (λ e.
          joined_adds n b (λ c. line_parts f d c k) (lines_below f d p) (divided_below s d p v e)
          (all_both (λ c. is_child f p c ≡ true) (λ c. line_lives f d c ≡ true) (λ c. AddsTo n k (line_parts f d c k)) (λ c h a. ih c h a k) (lines_below f d p) (below_child f d p)
          (below_lives f d p))))

  pub lines_add : (n : ℕ) (ps : List ℕ) (b : ℕ) → 0 < length (living_lines f d ps)
      → AddsTo n b (flat_map (λ p. line_parts f d p (b * length (living_lines f d ps))) (living_lines f d ps))
  lines_add n ps b l =
      let k = b * length (living_lines f d ps) in
      joined_adds n b (λ p. line_parts f d p k) (living_lines f d ps) l
      (All-weaker (λ p. line_lives f d p ≡ true) (λ p. AddsTo n k (line_parts f d p k)) (λ p v. line_adds n p v k) (living_lines f d ps)
      (kept_by_passes (λ p. line_lives f d p) ps))

  pub first_adds : (n b : ℕ) → 0 < length (lines_below f d d) → AddsTo n b (line_parts f d d b)
  first_adds n b l = subst (AddsTo n b) (sym (parts_divided s d d b (stands_decedent f d))) (lines_add n (children f d) b l)

  pub couple_adds : (n : ℕ) (ps : List ℕ) (b : ℕ) → 0 < length (living_lines f d ps) → AddsTo n b (couple_parts f d ps b)
  unfolding couple_parts
  couple_adds n ps b l = lines_add n ps b l

  side_positive : (p : ℕ) → side_lives f d p ≡ true → 0 < length (living_lines f d (parents f p))
  unfolding side_lives
  side_positive p e = kept_positive (living_lines f d (parents f p)) e

  pub third_adds : (n b : ℕ) → 0 < length (living_sides f d) → AddsTo n b (third_order f d b)
  third_adds n b l =
      let k = b * length (living_sides f d) in
      joined_adds n b (λ p. couple_parts f d (parents f p) k) (living_sides f d) l
      (All-weaker (λ p. side_lives f d p ≡ true) (λ p. AddsTo n k (couple_parts f d (parents f p) k)) (λ p v. couple_adds n (parents f p) k (side_positive p v)) (living_sides f d)
      (kept_by_passes (λ p. side_lives f d p) (parents f d)))

  pub relatives_add : (n b : ℕ) → order f d ≢ 4 → AddsTo n b (relatives_parts f d b)
  relatives_add n b o =
      relatives_cases f d b (AddsTo n b) (λ _ l. first_adds n b l) (λ _ l. couple_adds n (parents f d) b l) (λ _ l. third_adds n b l) (λ e. absurd (o e))

  -- if anybody inherits, all parts together are the estate
  pub estate_adds : (n : ℕ) → (order f d ≡ 4 → has_living_spouse f d ≡ true) → AddsTo n 1 (estate f d)
  estate_adds n some =
      estate_cases f d (AddsTo n 1) (λ _ o. quarter n ((person f d).spouse - 1) (relatives_parts f d 4) (relatives_add n 4 (λ e. one_four (order f d) o e)))
      (λ _ _. one_adds n ((person f d).spouse - 1) 1) (λ _ o. half n ((person f d).spouse - 1) (relatives_parts f d 2) (relatives_add n 2 o))
      (λ h. relatives_add n 1 (λ o. both_ways (has_living_spouse f d) h (some o)))
    where
      one_four : (o : ℕ) → o ≡ 1 → o ≡ 4 → ⊥
      one_four o e g = omega arith

  -- nobody has more than the whole
  estate_none : has_living_spouse f d ≡ false → order f d ≡ 4 → estate f d ≡ []
  estate_none h o =
      cond-false (has_living_spouse f d)
      (cond (eqb (order f d) 1) (spouse_parts f d 4 ++ repeated 3 (relatives_parts f d 4)) (cond (eqb (order f d) 4) (spouse_parts f d 1) (spouse_parts f d 2 ++ relatives_parts f d 2)))
      (relatives_parts f d 1) h
      ∙ ap (λ (k : ℕ). relatives_by k (first_order f d 1) (second_order f d 1) (third_order f d 1)) o

  pub estate_most : (n : ℕ) → divides_all n (estate f d) ≡ true → all_pieces n (estate f d) ≤ n
  unfolding all_pieces
  estate_most n h =
      ⊎_elim (λ (v : has_living_spouse f d ≡ true). let e = estate_adds n (λ _. v) h in omega arith)
      (λ (v : has_living_spouse f d ≡ false).
      ⊎_elim (λ (o : order f d ≡ 4). subst (λ (ps : List Part). all_pieces n ps ≤ n) (sym (estate_none v o)) (omega arith))
      (λ (o : order f d ≡ 4 → ⊥). let e = estate_adds n (λ z. absurd (o z)) h in omega arith) (cases_eq (order f d) 4))
      (cases_Bool (has_living_spouse f d))

  pub estate_pieces : (n w : ℕ) → divides_all n (estate f d) ≡ true → pieces n (estate f d) w ≤ n
  estate_pieces n w h = let a = pieces_le_all n (estate f d) w in let b = estate_most n h in omega arith

  -- a number that all parts of a living line divide, what the line was given divides; and so what each line below is given
  pub line_divides : (n p b : ℕ) → line_lives f d p ≡ true → divides_all n (line_parts f d p b) ≡ true → Divides b n
  line_divides n p b v h = (all_pieces n (line_parts f d p b), let e = line_adds n p v b h in omega arith)

  pub lines_divide : (n : ℕ) (ps : List ℕ) (b : ℕ) → 0 < length (living_lines f d ps)
      → divides_all n (flat_map (λ p. line_parts f d p (b * length (living_lines f d ps))) (living_lines f d ps)) ≡ true → Divides (b * length (living_lines f d ps)) n
  lines_divide n ps b l h =
      let k = b * length (living_lines f d ps) in
      all_one (Divides k n) (living_lines f d ps) l
      (all_both (λ p. line_lives f d p ≡ true) (λ p. divides_all n (line_parts f d p k) ≡ true) (λ p. Divides k n) (λ p v e. line_divides n p k v e) (living_lines f d ps)
      (kept_by_passes (λ p. line_lives f d p) ps) (divides_joined n (λ p. line_parts f d p k) (living_lines f d ps) h))

  pub divided_divides : (n p b : ℕ) → line_lives f d p ≡ true → (not (eqb p d) && (person f p).lives) ≡ false → divides_all n (line_parts f d p b) ≡ true
      → Divides (b * length (lines_below f d p)) n
  divided_divides n p b v e h =
      lines_divide n (children f p) b (divided_below s d p v e) (subst (λ (ps : List Part). divides_all n ps ≡ true) (parts_divided s d p b e) h)

  pub relatives_divide : (n b : ℕ) → order f d ≢ 4 → divides_all n (relatives_parts f d b) ≡ true → Divides b n
  relatives_divide n b o h = (all_pieces n (relatives_parts f d b), let e = relatives_add n b o h in omega arith)

  -- a living line has a part
  pub line_some : (p b : ℕ) → line_lives f d p ≡ true → 0 < length (line_parts f d p b)
  line_some p b v = adds_some b (line_parts f d p b) (line_adds 1 p v b)

pub line_positive : (f : Family) (d p b : ℕ) → 0 < b → AllByRecursion Positive (line_parts f d p b)
line_positive f d p b l = positive_in f d (suc (length f)) p b l

couple_positive : (f : Family) (d : ℕ) (ps : List ℕ) (b : ℕ) → 0 < b → AllByRecursion Positive (couple_parts f d ps b)
unfolding couple_parts
couple_positive f d ps b l = joined_positive b (λ k p. line_parts f d p k) (living_lines f d ps) l (λ k m p. line_positive f d p k m)

pub relatives_positive : (f : Family) (d b : ℕ) → 0 < b → AllByRecursion Positive (relatives_parts f d b)
relatives_positive f d b l =
    relatives_cases f d b (AllByRecursion Positive) (λ _ _. line_positive f d d b l) (λ _ _. couple_positive f d (parents f d) b l)
    (λ _ _. joined_positive b (λ k p. couple_parts f d (parents f p) k) (living_sides f d) l (λ k m p. couple_positive f d (parents f p) k m)) (λ _. tt)

pub estate_positive : (f : Family) (d : ℕ) → AllByRecursion Positive (estate f d)
estate_positive f d =
    estate_cases f d (AllByRecursion Positive) (λ _ _. (omega arith, repeated_all Positive 3 (relatives_parts f d 4) (relatives_positive f d 4 (omega arith)))) (λ _ _. (omega arith, tt))
    (λ _ _. (omega arith, relatives_positive f d 2 (omega arith))) (λ _. relatives_positive f d 1 (omega arith))

pub adds_up_by_rank : AddsUpByRank
unfolding AddsUpByRank
adds_up_by_rank f rk d n s h some = let e : all_pieces n (estate f d) * 1 ≡ n = estate_adds s d n some h in omega arith

pub adds_up : AddsUp
unfolding AddsUp AddsUpByRank
adds_up l f d n r _ h some = let w = well_formed_reached l f r in adds_up_by_rank f w.rank d n w.ranked h some
