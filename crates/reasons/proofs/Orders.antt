-- The ways of each order, as they are gone down. Assumes nothing.
use Rattle.std.proofs.Common.{◌≡◌, ℕ, zero, suc, ◌+◌, ◌-◌, ◌*◌, ◌<◌, ◌≤◌, Bool, true, false, cond, not, eqb, ◌⊎◌, List, [], ◌∷◌, ◌++◌, map, length, vec_items, vec_len, filter, sym, refl, ap, ◌∙◌, subst, ap₂, inl, inr, ⊎_elim, Result, arith}
use Rattle.std.specs.List.{flat_map, AllByRecursion}
use Rattle.std.proofs.lemmas.List.{append-nil, append_assoc, length-append, map-append}
use Rattle.std.proofs.lemmas.List.Elements.{filter-append}
use Rattle.std.proofs.lemmas.Result.{MatchResult-weaker}
use Rattle.std.proofs.ByRecursion.{All-weaker, All-append, kept_by_passes}
use Rattle.std.proofs.lemmas.Bool.{eqb-true, cond_both}
use Rattle.law.specs.Family.{Family, person, children, parents, known, line_lives, living_lines, side_lives, living_sides, order}
use Rattle.theory.specs.Families.{Ranked}
use Rattle.theory.proofs.Lists.{joined_append}
use Rattle.theory.proofs.Lines.{stands_decedent, below_lives}
use Rattle.descent.specs.Going.{TooLarge}
use Rattle.descent.proofs.Going.{large_within}
use Rattle.ways.specs.Ways.{Way, way_part, line_ways_in, heads_ways, couple_ways, first_ways, second_ways, third_ways, relatives_ways}
use Rattle.ways.specs.Going.{ways_below, Enough, Beyond, Went}
use Rattle.ways.specs.declared.WaysError.{WaysError}
use Rattle.ways.proofs.Going.{way_divided, line_large, kept_lines, by_limit}
use Rattle.reasons.specs.declared.Lines.{Lines}
use Rattle.reasons.specs.Estates.{side_in, LinesIn, Known, Put}

-- what going down did, of ways that are those of an order
went_put :
    (f : Family) (rk : ℕ → ℕ) (d n : ℕ) (ps : List ℕ) (b : ℕ) (before after row : List Way) (r : Result (Unit {0}) WaysError) → Ranked f rk → AllByRecursion (Enough f rk d n) ps →
    ways_below n f d [] ps b ≡ row → Went f d n [] ps b before after r → Put before row after r
went_put f rk d n ps b before after row r s enough e w =
    MatchResult-weaker r w (λ _ h. h ∙ ap (λ ws. before ++ ws) e) (λ y. by_limit y (λ h. subst (Beyond before) e (h rk s enough)))

module _ {f : Family} {rk : ℕ → ℕ} {d : ℕ} {s : ℕ → Bool} (k : Known f rk d s) where
  pub kept_living : (ps : List ℕ) → filter s ps ≡ living_lines f d ps
  kept_living ps = kept_lines f d s ps k.marks

  pub kept_lives : (ps : List ℕ) → AllByRecursion (λ p. line_lives f d p ≡ true) (filter s ps)
  kept_lives ps = subst (AllByRecursion (λ p. line_lives f d p ≡ true)) (sym (kept_living ps)) (kept_by_passes (line_lives f d) ps)

  module _ (n : ℕ) (cs : List ℕ) (b : ℕ) (size : length f ≡ n) (e : cs ≡ filter s (children f d)) where
    some : 0 < n
    some = let h = k.there in omega arith

    first_is : (each : ℕ) → each ≡ b * length cs → ways_below (n - 1) f d [] cs each ≡ first_ways f d b
    first_is each m =
        sym (way_divided f d n s [] cs d b each k.marks e (stands_decedent f d) m some) ∙ ap (λ (z : ℕ). line_ways_in (suc z) f d [] d b) (sym size)

    pub first_put : (each : ℕ) (before after : List Way) (t : Result (Unit {0}) WaysError) → each ≡ b * length cs → Went f d (n - 1) [] cs each before after t → Put before (first_ways f d b) after t
    first_put each before after t m w =
        went_put f rk d (n - 1) cs each before after (first_ways f d b) t k.ranked
        (subst (AllByRecursion (Enough f rk d (n - 1))) (sym (e ∙ kept_living (children f d))) (all_enough (living_lines f d (children f d)) (below_lives f d d)))
        (first_is each m) w
      where
        all_enough : (ps : List ℕ) → AllByRecursion (λ p. line_lives f d p ≡ true) ps → AllByRecursion (Enough f rk d (n - 1)) ps
        all_enough ps a = All-weaker (λ p. line_lives f d p ≡ true) (Enough f rk d (n - 1)) (λ p v. (v, let h = some in omega arith)) ps a

    pub first_stop : (before : List Way) → (n ≡ 0) ⊎ (4294967296 ≤ b * length cs) → Beyond before (first_ways f d b)
    first_stop before h =
        ⊎_elim (λ (z : n ≡ 0). absurd (let h = some in omega arith))
        (λ (z : 4294967296 ≤ b * length cs).
        inr (line_large f d k.ranked (length f) d b [] (omega arith) (stands_decedent f d) (subst (λ (ps : List ℕ). 4294967296 ≤ b * length ps) (e ∙ kept_living (children f d)) z)))
        h

-- a row that is beyond the limits, behind or before another
pub beyond_first : (before xs ys : List Way) → Beyond before xs → Beyond before (xs ++ ys)
beyond_first before xs ys h =
    ⊎_elim (λ (l : 4096 < length before + length xs). inl (omega (arith, length-append xs ys)))
    (λ (l : TooLarge (map way_part xs)). inr (subst TooLarge (sym (map-append way_part xs ys)) (large_within [] (map way_part xs) (map way_part ys) l))) h

pub beyond_second : (before xs ys : List Way) → Beyond (before ++ xs) ys → Beyond before (xs ++ ys)
beyond_second before xs ys h =
    ⊎_elim (λ (l : 4096 < length (before ++ xs) + length ys). inl (omega (arith, length-append xs ys, length-append before xs)))
    (λ (l : TooLarge (map way_part ys)).
    inr
    (subst TooLarge (ap (λ r. map way_part xs ++ r) (append-nil (map way_part ys)) ∙ sym (map-append way_part xs ys))
    (large_within (map way_part xs) (map way_part ys) [] l)))
    h

-- one row of ways behind another
pub put_both : (before xs ys mid after : List Way) (r : Result (Unit {0}) WaysError) → mid ≡ before ++ xs → Put mid ys after r → Put before (xs ++ ys) after r
put_both before xs ys mid after r e h =
    MatchResult-weaker r h (λ _ g. g ∙ ap (λ ws. ws ++ ys) e ∙ append_assoc before xs ys) (λ y. by_limit y (λ g. beyond_second before xs ys (subst (λ ws. Beyond ws ys) e g)))

-- how many lines of a couple live
pub known_few : (s : ℕ → Bool) (k : ℕ) → length (filter s (known k)) ≤ 1
unfolding known
known_few s zero = omega arith
known_few s (suc p) = cond_both (s p) (p ∷ []) [] (λ xs. length xs ≤ 1) (λ _. omega arith) (λ _. omega arith)

pub parents_few : (s : ℕ → Bool) (f : Family) (p : ℕ) → length (filter s (parents f p)) ≤ 2
parents_few s f p =
    let e = filter-append s (known (person f p).mother) (known (person f p).father) in
    let a = known_few s (person f p).mother in
    let b = known_few s (person f p).father in
    omega (arith, ap length e, length-append (filter s (known (person f p).mother)) (filter s (known (person f p).father)))

pub side_few : (s : ℕ → Bool) (f : Family) (k : ℕ) → length (side_in s f k) ≤ 2
unfolding known
side_few s f zero = omega arith
side_few s f (suc p) = let a = parents_few s f p in omega (arith, length-append (filter s (parents f p)) [])

pub side_kept : {X : ℕ → Type 0} (s : ℕ → Bool) (f : Family) (k : ℕ) → ((ps : List ℕ) → AllByRecursion X (filter s ps)) → AllByRecursion X (side_in s f k)
unfolding known
side_kept {X} s f zero h = tt
side_kept {X} s f (suc p) h = All-append X (filter s (parents f p)) [] (h (parents f p)) tt

-- 1 where somebody is on a row
abbrev pub one_if : List ℕ → ℕ
one_if xs = cond (eqb (length xs) 0) 0 1

order_by : (c p m e : Bool)
    → ◌≡◌ {A = ℕ} (cond (not c) 1 (cond (not p) 2 (cond (not (eqb (cond m 0 1 + cond e 0 1) 0)) 3 4))) (cond c (cond p (cond m (cond e 4 3) 3) 2) 1)
order_by false p m e = refl
order_by true false m e = refl
order_by true true false false = refl
order_by true true false true = refl
order_by true true true false = refl
order_by true true true true = refl

module _ {f : Family} {rk : ℕ → ℕ} {d : ℕ} {s : ℕ → Bool} (k : Known f rk d s) where
  -- a side by itself: whether a line lives on it, and its ways
  side_one : (p : ℕ) → side_in s f (suc p) ≡ living_lines f d (parents f p)
  unfolding known
  side_one p = append-nil (filter s (parents f p)) ∙ kept_living k (parents f p)

  side_count : (link : ℕ) → length (filter (λ p. side_lives f d p) (known link)) ≡ one_if (side_in s f link)
  unfolding known side_lives
  side_count zero = refl
  side_count (suc p) = go (eqb (length (living_lines f d (parents f p))) 0) ∙ ap (λ xs. one_if xs) (sym (side_one p))
    where
      go : (t : Bool) → length (cond (not t) (p ∷ []) []) ≡ cond t 0 1
      go true = refl
      go false = refl

  side_ways : (b link : ℕ) → flat_map (λ p. couple_ways f d (parents f p) b) (filter (λ p. side_lives f d p) (known link))
      ≡ heads_ways f d (side_in s f link) (b * length (side_in s f link))
  unfolding known side_lives
  side_ways b zero = refl
  side_ways b (suc p) =
      go (eqb (length (living_lines f d (parents f p))) 0) refl ∙ ap (λ xs. heads_ways f d xs (b * length xs)) (sym (side_one p))
    where
      empty : (xs : List ℕ) → length xs ≡ 0 → xs ≡ []
      empty [] e = refl
      empty (x ∷ xs) e = absurd (omega arith)

      go : (t : Bool) → eqb (length (living_lines f d (parents f p))) 0 ≡ t
          → flat_map (λ q. couple_ways f d (parents f q) b) (cond (not t) (p ∷ []) [])
          ≡ heads_ways f d (living_lines f d (parents f p)) (b * length (living_lines f d (parents f p)))
      go true e =
          sym
          (ap (λ xs. heads_ways f d xs (b * length (living_lines f d (parents f p)))) (empty (living_lines f d (parents f p)) (eqb-true (length (living_lines f d (parents f p))) 0 e)))
      go false e = append-nil (couple_ways f d (parents f p) b)

  sides_cut : filter (λ p. side_lives f d p) (parents f d)
      ≡ filter (λ p. side_lives f d p) (known (person f d).mother) ++ filter (λ p. side_lives f d p) (known (person f d).father)
  sides_cut = filter-append (λ p. side_lives f d p) (known (person f d).mother) (known (person f d).father)

  pub sides_count : length (living_sides f d) ≡ one_if (side_in s f (person f d).mother) + one_if (side_in s f (person f d).father)
  sides_count =
      ap length sides_cut
      ∙ length-append (filter (λ p. side_lives f d p) (known (person f d).mother)) (filter (λ p. side_lives f d p) (known (person f d).father))
      ∙ ap₂ (λ (x y : ℕ). x + y) (side_count (person f d).mother) (side_count (person f d).father)

  module _ (ms es : List ℕ) (mothers : ms ≡ side_in s f (person f d).mother) (fathers : es ≡ side_in s f (person f d).father) where
    pub third_is : (b side : ℕ) → side ≡ b * (one_if ms + one_if es)
        → third_ways f d b ≡ heads_ways f d ms (side * length ms) ++ heads_ways f d es (side * length es)
    third_is b side e =
        let n : b * length (living_sides f d) ≡ side =
        ap (λ z. b * z) (sides_count ∙ ap₂ (λ (x y : List ℕ). one_if x + one_if y) (sym mothers) (sym fathers)) ∙ sym e in
        ap (λ z. flat_map (λ p. couple_ways f d (parents f p) z) (living_sides f d)) n
        ∙ ap (flat_map (λ p. couple_ways f d (parents f p) side)) sides_cut
        ∙ joined_append (λ p. couple_ways f d (parents f p) side) (filter (λ p. side_lives f d p) (known (person f d).mother)) (filter (λ p. side_lives f d p) (known (person f d).father))
        ∙ ap₂ (λ (x y : List Way). x ++ y) (side_ways side (person f d).mother) (side_ways side (person f d).father)
        ∙ ap₂ (λ (x y : List ℕ). heads_ways f d x (side * length x) ++ heads_ways f d y (side * length y)) (sym mothers) (sym fathers)

    module _ (cs ps : List ℕ) (below : cs ≡ filter s (children f d)) (above : ps ≡ filter s (parents f d)) where
      pub order_is : order f d ≡ cond (eqb (length cs) 0) (cond (eqb (length ps) 0) (cond (eqb (length ms) 0) (cond (eqb (length es) 0) 4 3) 3) 2) 1
      order_is =
          ap (λ (xs : List ℕ). cond (not (eqb (length xs) 0)) 1 (cond (not (eqb (length (living_lines f d (parents f d))) 0)) 2 (cond (not (eqb (length (living_sides f d)) 0)) 3 4)))
          (sym (below ∙ kept_living k (children f d)))
          ∙ ap (λ (xs : List ℕ). cond (not (eqb (length cs) 0)) 1 (cond (not (eqb (length xs) 0)) 2 (cond (not (eqb (length (living_sides f d)) 0)) 3 4)))
          (sym (above ∙ kept_living k (parents f d)))
          ∙ ap (λ (z : ℕ). cond (not (eqb (length cs) 0)) 1 (cond (not (eqb (length ps) 0)) 2 (cond (not (eqb z 0)) 3 4)))
          (sides_count ∙ ap₂ (λ (x y : List ℕ). one_if x + one_if y) (sym mothers) (sym fathers))
          ∙ order_by (eqb (length cs) 0) (eqb (length ps) 0) (eqb (length ms) 0) (eqb (length es) 0)

-- the ways of each order
module _ (f : Family) (d b : ℕ) where
  pub ways_first : order f d ≡ 1 → relatives_ways f d b ≡ first_ways f d b
  unfolding relatives_ways
  ways_first e = ap (λ o. cond (eqb o 1) (first_ways f d b) (cond (eqb o 2) (second_ways f d b) (cond (eqb o 3) (third_ways f d b) []))) e

  pub ways_second : order f d ≡ 2 → relatives_ways f d b ≡ second_ways f d b
  unfolding relatives_ways
  ways_second e = ap (λ o. cond (eqb o 1) (first_ways f d b) (cond (eqb o 2) (second_ways f d b) (cond (eqb o 3) (third_ways f d b) []))) e

  pub ways_third : order f d ≡ 3 → relatives_ways f d b ≡ third_ways f d b
  unfolding relatives_ways
  ways_third e = ap (λ o. cond (eqb o 1) (first_ways f d b) (cond (eqb o 2) (second_ways f d b) (cond (eqb o 3) (third_ways f d b) []))) e

  pub ways_nobody : order f d ≡ 4 → relatives_ways f d b ≡ []
  unfolding relatives_ways
  ways_nobody e = ap (λ o. cond (eqb o 1) (first_ways f d b) (cond (eqb o 2) (second_ways f d b) (cond (eqb o 3) (third_ways f d b) []))) e

-- the order that inherits, by the code's lines
pub lines_order : {f : Family} {rk : ℕ → ℕ} {d : ℕ} {s : ℕ → Bool} → Known f rk d s → (l : Lines) → LinesIn s f d l →
    order f d
    ≡ cond (eqb (vec_len l.children) 0)
    (cond (eqb (vec_len l.parents) 0) (cond (eqb (vec_len l.mothers) 0) (cond (eqb (vec_len l.fathers) 0) 4 3) 3) 2) 1
lines_order k l in' =
    order_is k (vec_items l.mothers) (vec_items l.fathers) in'.mothers in'.fathers (vec_items l.children) (vec_items l.parents) in'.children in'.parents
    ∙ rw (sym l.children.ok.0, sym l.parents.ok.0, sym l.mothers.ok.0, sym l.fathers.ok.0)
