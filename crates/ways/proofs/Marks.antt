-- Whose lines live, found by steps up. Assumes nothing.
use Rattle.std.proofs.Common.{◌≡◌, ℕ, zero, suc, ◌+◌, ◌-◌, ◌<◌, ◌≤◌, Bool, true, false, cond, ◌||◌, eqb, List, map, length, replicate, sym, ap, ◌∙◌, ⊎_elim, arith}
use Rattle.std.specs.List.{range_with_len as counting, AllByRecursion}
use Rattle.std.proofs.lemmas.List.FromFn.{fill_by_all, get_or-map-range_with_len, length-map-range_with_len}
use Rattle.std.proofs.lemmas.List.{length-replicate, get_or-replicate, get_or_past}
use Rattle.std.proofs.ByRecursion.{All-weaker}
use Rattle.std.proofs.lemmas.Bool.{cases_lt}
use Rattle.law.specs.Family.{Family, person, is_child, children, line_lives_in, line_lives}
use Rattle.theory.specs.Families.{Ranked}
use Rattle.theory.proofs.Lists.{some_cong}
use Rattle.theory.proofs.Families.{child_there}
use Rattle.theory.proofs.Children.{children_child}
use Rattle.theory.proofs.Lines.{line_lives_past}
use Rattle.ways.specs.Rows.{in_row, lives_next}

-- a row of a function of the number
pub in_counting : (g : ℕ → Bool) (n p : ℕ) → p < n → in_row (map g (counting 0 n)) p ≡ g p
in_counting g n p h = get_or-map-range_with_len g 0 n p p false h (omega arith)

counting_cong : (g h : ℕ → Bool) (n : ℕ) → ((p : ℕ) → p < n → g p ≡ h p) → map g (counting 0 n) ≡ map h (counting 0 n)
counting_cong g h n e =
    fill_by_all h (map g (counting 0 n)) n false (length-map-range_with_len g 0 n) (λ k l. get_or-map-range_with_len g 0 n k k false l (omega arith) ∙ e k l)

module _ (f : Family) (d : ℕ) where
  -- the lines that are seen to live in so many steps
  pub seen : ℕ → List Bool
  seen k = map (λ p. line_lives_in k f d p) (counting 0 (length f))

  children_there : (p : ℕ) → AllByRecursion (λ c. c < length f) (children f p)
  children_there p = All-weaker (λ c. is_child f p c ≡ true) (λ c. c < length f) (λ c e. child_there f p c e) (children f p) (children_child f p)

  next_cong : (s t : ℕ → Bool) (p : ℕ) → ((c : ℕ) → c < length f → s c ≡ t c) → lives_next f d s p ≡ lives_next f d t p
  next_cong s t p h =
      ap (λ (z : Bool). cond (eqb p d) false ((person f p).lives || z))
      (some_cong s t (children f p) (All-weaker (λ c. c < length f) (λ c. s c ≡ t c) h (children f p) (children_there p)))

  pub seen_none : (n : ℕ) → length f ≡ n → replicate n false ≡ seen 0
  unfolding seen line_lives_in
  seen_none n e =
      fill_by_all (λ p. line_lives_in 0 f d p) (replicate n false) (length f) false (length-replicate n false ∙ sym e) (λ k l. get_or-replicate n k false false (omega arith))

  pub seen_more : (k n : ℕ) (row : List Bool) → row ≡ seen k → length f ≡ n → map (lives_next f d (in_row row)) (counting 0 n) ≡ seen (k + 1)
  unfolding seen line_lives_in
  seen_more k n row e m =
      ap (λ (z : ℕ). map (lives_next f d (in_row row)) (counting 0 z)) (sym m)
      ∙ counting_cong (lives_next f d (in_row row)) (λ p. line_lives_in (k + 1) f d p) (length f)
      (λ p l.
      next_cong (in_row row) (λ c. line_lives_in k f d c) p (λ c b. ap (λ (r : List Bool). in_row r c) e ∙ in_counting (λ q. line_lives_in k f d q) (length f) c b)
      ∙ ap (λ (z : ℕ). line_lives_in z f d p) (let z : suc k ≡ k + 1 = omega arith in z))

  -- once a step changes nothing, no further step does
  settled : (k : ℕ) → ((p : ℕ) → p < length f → line_lives_in (suc k) f d p ≡ line_lives_in k f d p) → (m p : ℕ) → p < length f → line_lives_in (m + k) f d p ≡ line_lives_in k f d p
  unfolding line_lives_in
  settled k h zero p l = ap (λ (z : ℕ). line_lives_in z f d p) (let z : 0 + k ≡ k = omega arith in z)
  settled k h (suc m) p l =
      ap (λ (z : ℕ). line_lives_in z f d p) (let z : suc m + k ≡ suc (m + k) = omega arith in z)
      ∙ next_cong (λ c. line_lives_in (m + k) f d c) (λ c. line_lives_in k f d c) p (λ c b. settled k h m c b)
      ∙ h p l

  pub seen_same : (k : ℕ) → k ≤ length f → seen (k + 1) ≡ seen k → seen k ≡ map (line_lives f d) (counting 0 (length f))
  unfolding seen
  seen_same k l e =
      counting_cong (λ p. line_lives_in k f d p) (line_lives f d) (length f)
      (λ p b. sym (settled k same (length f - k) p b) ∙ ap (λ (z : ℕ). line_lives_in z f d p) (let z : (length f - k) + k ≡ length f = omega arith in z))
    where
      same : (p : ℕ) → p < length f → line_lives_in (suc k) f d p ≡ line_lives_in k f d p
      same p b =
          ap (λ (z : ℕ). line_lives_in z f d p) (let z : suc k ≡ k + 1 = omega arith in z)
          ∙ sym (in_counting (λ q. line_lives_in (k + 1) f d q) (length f) p b)
          ∙ ap (λ (r : List Bool). in_row r p) e
          ∙ in_counting (λ q. line_lives_in k f d q) (length f) p b

  pub seen_all : (k n : ℕ) → n ≤ k → k ≤ n → length f ≡ n → seen k ≡ map (line_lives f d) (counting 0 (length f))
  unfolding seen
  seen_all k n a b e = ap (λ (z : ℕ). map (λ p. line_lives_in z f d p) (counting 0 (length f))) (let z : k ≡ length f = omega arith in z)

  -- in a family with a rank a row of living lines is right of every number
  pub row_right : {rk : ℕ → ℕ} → Ranked f rk → (row : List Bool) → row ≡ map (line_lives f d) (counting 0 (length f)) → (p : ℕ) → in_row row p ≡ line_lives f d p
  row_right s row e p =
      ap (λ (r : List Bool). in_row r p) e
      ∙ ⊎_elim (λ (l : p < length f). in_counting (line_lives f d) (length f) p l)
      (λ (l : length f ≤ p).
      get_or_past (map (line_lives f d) (counting 0 (length f))) p false (let z = length-map-range_with_len (line_lives f d) 0 (length f) in omega arith) ∙ sym (line_lives_past s d p l))
      (cases_lt p (length f))
