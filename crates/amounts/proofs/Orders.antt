-- The lines that an estate begins with, by the order that inherits: their parts are those of the relatives. Assumes nothing.
use Rattle.std.proofs.Common.{◌≡◌, ℕ, zero, suc, ◌*◌, ◌/◌, ◌<◌, ◌≤◌, Bool, true, false, cond, not, eqb, List, [], ◌∷◌, ◌++◌, map, length, filter, sym, refl, ap, ◌∙◌, subst, mul-le-mul_right, div-mul-le_self, le_of_mul-le-mul_right, arith}
use Rattle.std.specs.List.{flat_map, AllByRecursion}
use Rattle.std.proofs.lemmas.List.{length-append, length-map, append-nil}
use Rattle.std.proofs.ByRecursion.{kept_by_passes, sum_by_le}
use Rattle.std.proofs.lemmas.List.Sums.{length-filter, count_by-le-length}
use Rattle.std.proofs.lemmas.Bool.{both_ways, cond_both}
use Rattle.law.specs.Family.{person, Family, known, parents, line_lives, living_lines, Part, line_parts, couple_parts, side_lives}
use Rattle.law.specs.Calls.{all_pieces}
use Rattle.theory.specs.Families.{Ranked}
use Rattle.theory.specs.Living.{alive}
use Rattle.theory.specs.Decedent.{kept_sides, kept_order, kept_relatives}
use Rattle.theory.proofs.Lists.{all_any, joined_cong, joined_all, joined_joined}
use Rattle.theory.proofs.Parts.{all_pieces_append}
use Rattle.amounts.specs.Lines.{couple_starts, kept_starts, starts_parts}
use Rattle.amounts.specs.Statements.{StartsRight}
use Rattle.amounts.proofs.Listing.{alive_there}
use Rattle.amounts.proofs.Multiples.{times_positive}
use Rattle.amounts.proofs.Rows.{length-joined}

-- their parts
joined_map : {X Y A : Type 0} (h : Y → List A) (k : X → Y) (xs : List X) → flat_map h (map k xs) ≡ flat_map (λ x. h (k x)) xs
joined_map h k [] = refl
joined_map {X} {Y} {A} h k (x ∷ xs) = ap (λ (zs : List A). h (k x) ++ zs) (joined_map h k xs)

couple_parts_begin : (g : Family) (ps : List ℕ) (b : ℕ) → starts_parts g (couple_starts g ps b) ≡ couple_parts g (length g) ps b
unfolding couple_parts
couple_parts_begin g ps b =
    joined_map (λ (p : Part). line_parts g (length g) p.who p.by) (λ p. record { who = p; by = b * length (living_lines g (length g) ps) }) (living_lines g (length g) ps)

abbrev third_starts : Family → List ℕ → ℕ → List Part
third_starts g ps b = flat_map (λ p. couple_starts g (parents g p) (b * length ps)) ps

third_parts_begin : (g : Family) (ps : List ℕ) (b : ℕ) → starts_parts g (third_starts g ps b) ≡ flat_map (λ p. couple_parts g (length g) (parents g p) (b * length ps)) ps
third_parts_begin g ps b =
    joined_joined (λ (p : Part). line_parts g (length g) p.who p.by) (λ p. couple_starts g (parents g p) (b * length ps)) ps
    ∙ joined_cong (λ p. starts_parts g (couple_starts g (parents g p) (b * length ps))) (λ p. couple_parts g (length g) (parents g p) (b * length ps)) ps
    (all_any (λ p. starts_parts g (couple_starts g (parents g p) (b * length ps)) ≡ couple_parts g (length g) (parents g p) (b * length ps))
    (λ p. couple_parts_begin g (parents g p) (b * length ps)) ps)

pub kept_starts_parts : (g : Family) (d b : ℕ) → starts_parts g (kept_starts g d b) ≡ kept_relatives g d b
kept_starts_parts g d b =
    by (eqb (kept_order g d) 1) (eqb (kept_order g d) 2) (eqb (kept_order g d) 3) (record { who = d; by = b } ∷ []) (couple_starts g (parents g d) b)
    (third_starts g (kept_sides g d) b) (line_parts g (length g) d b) (couple_parts g (length g) (parents g d) b)
    (flat_map (λ p. couple_parts g (length g) (parents g p) (b * length (kept_sides g d))) (kept_sides g d)) (append-nil (line_parts g (length g) d b)) (couple_parts_begin g (parents g d) b)
    (third_parts_begin g (kept_sides g d) b)
  where
    by : (x y z : Bool) (a b c p q r : List Part) → starts_parts g a ≡ p → starts_parts g b ≡ q → starts_parts g c ≡ r
        → starts_parts g (cond x a (cond y b (cond z c []))) ≡ cond x p (cond y q (cond z r []))
    by true y z a b c p q r e k l = e
    by false true z a b c p q r e k l = k
    by false false true a b c p q r e k l = l
    by false false false a b c p q r e k l = refl

-- no more than two
known_most : (m : ℕ) → length (known m) ≤ 1
unfolding known
known_most zero = omega arith
known_most (suc m) = omega arith

pub parents_most : (g : Family) (p : ℕ) → length (parents g p) ≤ 2
parents_most g p =
    let a = known_most (person g p).mother in
    let b = known_most (person g p).father in
    let e = length-append (known (person g p).mother) (known (person g p).father) in
    omega arith

kept_most : (t : ℕ → Bool) (ps : List ℕ) → length (filter t ps) ≤ length ps
kept_most t ps = let e = length-filter t ps in let k = count_by-le-length t ps in omega arith

pub living_most : (g : Family) (p : ℕ) → length (living_lines g (length g) (parents g p)) ≤ 2
living_most g p = let a = kept_most (λ q. line_lives g (length g) q) (parents g p) in let b = parents_most g p in omega arith

pub sides_most : (g : Family) (d : ℕ) → length (kept_sides g d) ≤ 2
sides_most g d = let a = kept_most (λ q. side_lives g (length g) q) (parents g d) in let b = parents_most g d in omega arith

-- a line that an estate may begin with, by a number of at most m
abbrev Fit : Family → ℕ → Part → Type 0
Fit g m p = (alive g p.who ≡ true) × (p.who < length g) × (0 < p.by) × (p.by ≤ m)

times_most : (b x y : ℕ) → x ≤ y → b * x ≤ b * y
times_most b x y l = let z = mul-le-mul_right b l in omega arith

module _ {g : Family} {rk : ℕ → ℕ} (s : Ranked g rk) where
  each_fit : (m k : ℕ) (ws : List ℕ) → 0 < k → k ≤ m → AllByRecursion (λ w. alive g w ≡ true) ws → AllByRecursion (Fit g m) (map (λ w. record { who = w; by = k }) ws)
  each_fit m k [] l h a = tt
  each_fit m k (w ∷ ws) l h a = ((a.0, alive_there s w a.0, l, h), each_fit m k ws l h a.1)

  among_fit : (m b : ℕ) (ws : List ℕ) → 0 < b → length ws ≤ 2 → b * 2 ≤ m → AllByRecursion (λ w. alive g w ≡ true) ws → AllByRecursion (Fit g m) (map (λ w. record { who = w; by = b * length ws }) ws)
  among_fit m b [] l k h a = tt
  among_fit m b (w ∷ ws) l k h a =
      each_fit m (b * length (w ∷ ws)) (w ∷ ws) (times_positive b (length (w ∷ ws)) l (omega arith)) (let z = times_most b (length (w ∷ ws)) 2 k in omega arith) a

  couple_fit : (m b p : ℕ) → 0 < b → b * 2 ≤ m → AllByRecursion (Fit g m) (couple_starts g (parents g p) b)
  couple_fit m b p l h = among_fit m b (living_lines g (length g) (parents g p)) l (living_most g p) h (kept_by_passes (λ q. line_lives g (length g) q) (parents g p))

  third_fit : (b : ℕ) (ps : List ℕ) → 0 < b → length ps ≤ 2 → AllByRecursion (Fit g (4 * b)) (third_starts g ps b)
  third_fit b [] l k = tt
  third_fit b (p ∷ ps) l k =
      let c = b * length (p ∷ ps) in
      let m : b * length (p ∷ ps) ≤ b * 2 = times_most b (length (p ∷ ps)) 2 k in
      joined_all (Fit g (4 * b)) (λ q. couple_starts g (parents g q) c) (p ∷ ps)
      (all_any (λ q. AllByRecursion (Fit g (4 * b)) (couple_starts g (parents g q) c))
      (λ q. couple_fit (4 * b) c q (times_positive b (length (p ∷ ps)) l (omega arith)) (double b (b * length (p ∷ ps)) m)) (p ∷ ps))
    where
      double : (b c : ℕ) → c ≤ b * 2 → c * 2 ≤ 4 * b
      double b c h = omega arith

  pub kept_starts_fit : (d b : ℕ) → 0 < b → AllByRecursion (Fit g (4 * b)) (kept_starts g d b)
  kept_starts_fit d b l =
      cond_both (eqb (kept_order g d) 1) (record { who = d; by = b } ∷ [])
      (cond (eqb (kept_order g d) 2) (couple_starts g (parents g d) b) (cond (eqb (kept_order g d) 3) (third_starts g (kept_sides g d) b) [])) (AllByRecursion (Fit g (4 * b)))
      (λ e.
      let a = first (alive g d) (not (eqb (length (living_lines g (length g) (parents g d))) 0)) (not (eqb (length (kept_sides g d)) 0)) e in
      ((a, alive_there s d a, l, four b), tt))
      (λ _.
      cond_both (eqb (kept_order g d) 2) (couple_starts g (parents g d) b) (cond (eqb (kept_order g d) 3) (third_starts g (kept_sides g d) b) []) (AllByRecursion (Fit g (4 * b)))
      (λ _. couple_fit (4 * b) b d l (two b))
      (λ _.
      cond_both (eqb (kept_order g d) 3) (third_starts g (kept_sides g d) b) [] (AllByRecursion (Fit g (4 * b))) (λ _. third_fit b (kept_sides g d) l (sides_most g d)) (λ _. tt)))
    where
      first : (x y z : Bool) → eqb (cond x 1 (cond y 2 (cond z 3 4))) 1 ≡ true → x ≡ true
      first true y z e = refl
      first false true z e = absurd (both_ways false refl e)
      first false false true e = absurd (both_ways false refl e)
      first false false false e = absurd (both_ways false refl e)

      four : (b : ℕ) → b ≤ 4 * b
      four b = omega arith

      two : (b : ℕ) → b * 2 ≤ 4 * b
      two b = omega arith

-- what they begin with together
pieces_each : (n k : ℕ) (ws : List ℕ) → all_pieces n (map (λ w. record { who = w; by = k }) ws) ≡ length ws * (n / k)
unfolding all_pieces
pieces_each n k [] = omega arith
pieces_each n k (w ∷ ws) = let e = pieces_each n k ws in omega arith

couple_most : (g : Family) (ps : List ℕ) (n b : ℕ) → all_pieces n (couple_starts g ps b) * b ≤ n
couple_most g ps n b =
    let k = length (living_lines g (length g) ps) in
    let e = pieces_each n (b * k) (living_lines g (length g) ps) in
    let d = div-mul-le_self n (b * k) in
    go (all_pieces n (couple_starts g ps b)) k (n / (b * k)) e d
  where
    go : (a k x : ℕ) → a ≡ k * x → x * (b * k) ≤ n → a * b ≤ n
    go a k x e h = omega (arith, ap (λ (z : ℕ). z * b) e)

even_most : (n c : ℕ) (f : ℕ → List Part) (xs : List ℕ) → ((x : ℕ) → all_pieces n (f x) * c ≤ n) → all_pieces n (flat_map f xs) * c ≤ length xs * n
unfolding all_pieces
even_most n c f [] h = omega arith
even_most n c f (x ∷ xs) h =
    let a = h x in
    let r = even_most n c f xs h in
    rw (all_pieces_append n (f x) (flat_map f xs)) (omega arith)

third_most : (g : Family) (ps : List ℕ) (n b : ℕ) → all_pieces n (third_starts g ps b) * b ≤ n
unfolding all_pieces
third_most g [] n b = omega arith
third_most g (p ∷ ps) n b =
    let m = length (p ∷ ps) in
    let h : all_pieces n (third_starts g (p ∷ ps) b) * (b * m) ≤ m * n =
    even_most n (b * m) (λ q. couple_starts g (parents g q) (b * m)) (p ∷ ps) (λ q. couple_most g (parents g q) n (b * m)) in
    le_of_mul-le-mul_right (order_of (all_pieces n (third_starts g (p ∷ ps) b)) m h) (omega arith)
  where
    order_of : (a m : ℕ) → a * (b * m) ≤ m * n → a * b * m ≤ n * m
    order_of a m h = omega arith

pub kept_starts_most : (g : Family) (d b n : ℕ) → all_pieces n (kept_starts g d b) * b ≤ n
kept_starts_most g d b n =
    cond_both (eqb (kept_order g d) 1) (record { who = d; by = b } ∷ [])
    (cond (eqb (kept_order g d) 2) (couple_starts g (parents g d) b) (cond (eqb (kept_order g d) 3) (third_starts g (kept_sides g d) b) [])) (λ (ss : List Part). all_pieces n ss * b ≤ n)
    (λ _. one)
    (λ _.
    cond_both (eqb (kept_order g d) 2) (couple_starts g (parents g d) b) (cond (eqb (kept_order g d) 3) (third_starts g (kept_sides g d) b) []) (λ (ss : List Part). all_pieces n ss * b ≤ n)
    (λ _. couple_most g (parents g d) n b)
    (λ _.
    cond_both (eqb (kept_order g d) 3) (third_starts g (kept_sides g d) b) [] (λ (ss : List Part). all_pieces n ss * b ≤ n) (λ _. third_most g (kept_sides g d) n b) (λ _. none)))
  where
    one : all_pieces n (record { who = d; by = b } ∷ []) * b ≤ n
    one = unfold all_pieces in (let h = div-mul-le_self n b in omega arith)

    none : all_pieces n [] * b ≤ n
    none = unfold all_pieces in (omega arith)

-- at most four
couple_length : (g : Family) (p b : ℕ) → length (couple_starts g (parents g p) b) ≤ 2
couple_length g p b =
    let e = length-map (living_lines g (length g) (parents g p)) (λ (q : ℕ). record { who = q; by = b * length (living_lines g (length g) (parents g p)) }) in
    let k = living_most g p in
    subst (λ (x : ℕ). x ≤ 2) (sym e) k

pub kept_starts_few : (g : Family) (d b : ℕ) → length (kept_starts g d b) ≤ 4
kept_starts_few g d b =
    cond_both (eqb (kept_order g d) 1) (record { who = d; by = b } ∷ [])
    (cond (eqb (kept_order g d) 2) (couple_starts g (parents g d) b) (cond (eqb (kept_order g d) 3) (third_starts g (kept_sides g d) b) [])) (λ (ss : List Part). length ss ≤ 4)
    (λ _. omega arith)
    (λ _.
    cond_both (eqb (kept_order g d) 2) (couple_starts g (parents g d) b) (cond (eqb (kept_order g d) 3) (third_starts g (kept_sides g d) b) []) (λ (ss : List Part). length ss ≤ 4)
    (λ _. let z = couple_length g d b in omega arith)
    (λ _.
    cond_both (eqb (kept_order g d) 3) (third_starts g (kept_sides g d) b) [] (λ (ss : List Part). length ss ≤ 4) (λ _. third) (λ _. omega arith)))
  where
    third : length (third_starts g (kept_sides g d) b) ≤ 4
    third =
        let c = b * length (kept_sides g d) in
        let e = length-joined (λ p. couple_starts g (parents g p) c) (kept_sides g d) in
        let k =
        sum_by_le (λ p. length (couple_starts g (parents g p) c)) 2 (kept_sides g d)
        (all_any (λ p. length (couple_starts g (parents g p) c) ≤ 2) (λ p. couple_length g p c) (kept_sides g d)) in
        let m = sides_most g d in
        omega arith

pub starts_right : StartsRight
unfolding StartsRight
starts_right g rk d b s l = (kept_starts_parts g d b, kept_starts_fit s d b l, λ n. kept_starts_most g d b n, kept_starts_few g d b)
