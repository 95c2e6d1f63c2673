-- Laws of the work area: what is read from it, and what a write leaves. Assumes nothing.
use Rattle.std.proofs.Common.{◌≡◌, ℕ, zero, suc, ◌+◌, ◌-◌, ◌*◌, ◌<◌, ◌≤◌, Bool, cond, eqb, List, [], ◌∷◌, ◌++◌, map, length, get_or, set, replicate, sym, refl, ap, ◌∙◌, inl, inr, arith}
use Rattle.std.specs.List.{range_with_len}
use Rattle.std.proofs.lemmas.List.FromFn.{length-map-range_with_len, get_or-map-range_with_len, fill_by_all}
use Rattle.std.proofs.lemmas.List.{append_assoc, get_or-set_other, get_or-set_same, length-append, length-replicate, length-set, replicate-append-replicate}
use Rattle.std.proofs.lemmas.Bool.{cases_eq, eq-eqb, ne_eqb}
use Rattle.law.specs.Family.{Part}
use Rattle.rows.specs.Written.{written}
use Rattle.rows.proofs.Regions.{region_read, region_set, written_before, written_behind}
use Rattle.rows.proofs.Written.{written_none}
use Rattle.bits.specs.Sets.{bit_row, no_member}
use Rattle.bits.proofs.Sets.{bit_row_none, length-bit_row}
use Rattle.shares.specs.Work.{part_words, parts_words, part_in, parts_in, work_of, no_pieces}

-- the words of parts
pub length-parts : (ps : List Part) → length (parts_words ps) ≡ 2 * length ps
length-parts [] = omega arith
length-parts (p ∷ ps) = let e = length-parts ps in omega arith

pub parts_append : (ps qs : List Part) → parts_words (ps ++ qs) ≡ parts_words ps ++ parts_words qs
parts_append [] qs = refl
parts_append (p ∷ ps) qs = ap (λ r. p.who ∷ (p.by ∷ r)) (parts_append ps qs)

-- the words for parts: their own, and zeros behind
abbrev pub parts_area : List Part → List ℕ
parts_area ps = parts_words ps ++ replicate (8192 - 2 * length ps) 0

pub length-area : (ps : List Part) → length ps ≤ 4096 → length (parts_area ps) ≡ 8192
length-area ps h =
    omega (arith, length-append (parts_words ps) (replicate (8192 - 2 * length ps) 0), length-parts ps, length-replicate {A = ℕ} (8192 - 2 * length ps) 0)

-- the set of heirs, between the words for parts and what lies behind it
pub heirs_among : (m : ℕ) (ps : List Part) (s : ℕ → Bool) (g : ℕ → ℕ) (rest : List ℕ) → work_of m ps s g rest ≡ parts_area ps ++ (bit_row 128 s ++ (map g (range_with_len 0 m) ++ rest))
unfolding work_of
heirs_among m ps s g rest = refl

-- the words before the pieces
abbrev before_pieces : List Part → (ℕ → Bool) → List ℕ
before_pieces ps s = parts_area ps ++ bit_row 128 s

length_before : (ps : List Part) (s : ℕ → Bool) → length ps ≤ 4096 → length (before_pieces ps s) ≡ 8320
length_before ps s h = omega (arith, length-append (parts_area ps) (bit_row 128 s), length-area ps h, length-bit_row 128 s)

pub pieces_among : (m : ℕ) (ps : List Part) (s : ℕ → Bool) (g : ℕ → ℕ) (rest : List ℕ) → work_of m ps s g rest ≡ before_pieces ps s ++ (map g (range_with_len 0 m) ++ rest)
unfolding work_of
pieces_among m ps s g rest = sym (append_assoc (parts_area ps) (bit_row 128 s) (map g (range_with_len 0 m) ++ rest))

pub length-work : (m : ℕ) (ps : List Part) (s : ℕ → Bool) (g : ℕ → ℕ) (rest : List ℕ) → length ps ≤ 4096 → length (work_of m ps s g rest) ≡ 8320 + m + length rest
length-work m ps s g rest h =
    ap length (pieces_among m ps s g rest)
    ∙ omega (arith, length-append (before_pieces ps s) (map g (range_with_len 0 m) ++ rest), length_before ps s h, length-append (map g (range_with_len 0 m)) rest, length-map-range_with_len g 0 m)

-- somebody's pieces
pub pieces_read : (m : ℕ) (ps : List Part) (s : ℕ → Bool) (g : ℕ → ℕ) (rest : List ℕ) (w : ℕ) → length ps ≤ 4096 → w < m → get_or (work_of m ps s g rest) (8320 + w) 0 ≡ g w
pieces_read m ps s g rest w h l =
    ap (λ r. get_or r (8320 + w) 0) (pieces_among m ps s g rest)
    ∙ region_read (before_pieces ps s) (map g (range_with_len 0 m)) rest 0 8320 w (length_before ps s h) (omega (arith, length-map-range_with_len g 0 m))
    ∙ get_or-map-range_with_len g 0 m w w 0 l (omega arith)

-- what all have, but one who has so many
abbrev pub with_pieces : (ℕ → ℕ) → ℕ → ℕ → ℕ → ℕ
with_pieces g w v q = cond (eqb q w) v (g q)

counted_set : (m : ℕ) (g : ℕ → ℕ) (w v : ℕ) → w < m → set (map g (range_with_len 0 m)) w v ≡ map (with_pieces g w v) (range_with_len 0 m)
counted_set m g w v l =
    let n = length-map-range_with_len g 0 m in
    fill_by_all (with_pieces g w v) (set (map g (range_with_len 0 m)) w v) m 0 (length-set (map g (range_with_len 0 m)) w v ∙ n)
    (λ k h.
    elim (cases_eq k w) [
      | inl e ↦ rw (e, get_or-set_same (map g (range_with_len 0 m)) w v 0 (omega arith), eq-eqb w w refl)
      | inr ne ↦ rw (get_or-set_other (map g (range_with_len 0 m)) w k v 0 ne, ne_eqb k w ne) (get_or-map-range_with_len g 0 m k k 0 h (omega arith))
    ])

pub pieces_set :
    (m : ℕ) (ps : List Part) (s : ℕ → Bool) (g : ℕ → ℕ) (rest : List ℕ) (w v : ℕ) → length ps ≤ 4096 → w < m →
    set (work_of m ps s g rest) (8320 + w) v ≡ work_of m ps s (with_pieces g w v) rest
pieces_set m ps s g rest w v h l =
    ap (λ r. set r (8320 + w) v) (pieces_among m ps s g rest)
    ∙ region_set (before_pieces ps s) (map g (range_with_len 0 m)) rest v 8320 w (length_before ps s h) (omega (arith, length-map-range_with_len g 0 m))
    ∙ ap (λ r. before_pieces ps s ++ (r ++ rest)) (counted_set m g w v l)
    ∙ sym (pieces_among m ps s (with_pieces g w v) rest)

-- parts that are read: each, and so many from an index on
two_on : (p : Part) (ps : List Part) (more : List ℕ) (i k : ℕ) → get_or (parts_words (p ∷ ps) ++ more) (2 * suc i + k) 0 ≡ get_or (parts_words ps ++ more) (2 * i + k) 0
two_on p ps more i k =
    let e : 2 * suc i + k ≡ suc (suc (2 * i + k)) = omega arith in ap (λ j. get_or (parts_words (p ∷ ps) ++ more) j 0) e

part_word : (ps : List Part) (more : List ℕ) (i k : ℕ) (d : Part) → i < length ps → k < 2 → get_or (parts_words ps ++ more) (2 * i + k) 0 ≡ get_or (part_words (get_or ps i d)) k 0
part_word [] more i k d h l = absurd (omega arith)
part_word (p ∷ ps) more zero zero d h l = refl
part_word (p ∷ ps) more zero (suc zero) d h l = refl
part_word (p ∷ ps) more zero (suc (suc k)) d h l = absurd (omega arith)
part_word (p ∷ ps) more (suc i) k d h l = two_on p ps more i k ∙ part_word ps more i k d (omega arith) l

pub part_read : (m : ℕ) (ps : List Part) (s : ℕ → Bool) (g : ℕ → ℕ) (rest : List ℕ) (i : ℕ) (d : Part) → i < length ps → part_in (work_of m ps s g rest) i ≡ get_or ps i d
unfolding work_of
part_read m ps s g rest i d h =
    let zeros : List ℕ = replicate (8192 - 2 * length ps) 0 in
    let behind : List ℕ = bit_row 128 s ++ (map g (range_with_len 0 m) ++ rest) in
    let whole : work_of m ps s g rest ≡ parts_words ps ++ (zeros ++ behind) = append_assoc (parts_words ps) zeros behind in
    let e : 2 * i + 0 ≡ 2 * i = omega arith in
    let who : get_or (work_of m ps s g rest) (2 * i) 0 ≡ (get_or ps i d).who =
    ap (λ r. get_or r (2 * i) 0) whole ∙ ap (λ j. get_or (parts_words ps ++ (zeros ++ behind)) j 0) (sym e) ∙ part_word ps (zeros ++ behind) i 0 d h (omega arith) in
    let by : get_or (work_of m ps s g rest) (2 * i + 1) 0 ≡ (get_or ps i d).by =
    ap (λ r. get_or r (2 * i + 1) 0) whole ∙ part_word ps (zeros ++ behind) i 1 d h (omega arith) in
    λ j. record { who = who j; by = by j }

pub parts_read : (m : ℕ) (ps : List Part) (s : ℕ → Bool) (g : ℕ → ℕ) (rest : List ℕ) → parts_in (work_of m ps s g rest) 0 (length ps) ≡ ps
parts_read m ps s g rest =
    let none : Part = record { who = 0; by = 0 } in
    sym (fill_by_all (part_in (work_of m ps s g rest)) ps (length ps) none refl (λ i h. sym (part_read m ps s g rest i none h)))

-- parts written behind those that are there
over_zeros : (xs : List ℕ) (n : ℕ) → length xs ≤ n → written 0 xs (replicate n 0) ≡ xs ++ replicate (n - length xs) 0
unfolding written
over_zeros [] n h = let e : n - 0 ≡ n = omega arith in written_none 0 (replicate n 0) ∙ ap (λ k. replicate k 0) (sym e)
over_zeros (x ∷ xs) zero h = absurd (omega arith)
over_zeros (x ∷ xs) (suc n) h =
    let e : suc n - suc (length xs) ≡ n - length xs = omega arith in
    ap (λ r. x ∷ r) (over_zeros xs n (omega arith) ∙ ap (λ k. xs ++ replicate k 0) (sym e))

pub parts_written :
    (m : ℕ) (ps qs : List Part) (s : ℕ → Bool) (g : ℕ → ℕ) (rest : List ℕ) → length ps + length qs ≤ 4096 →
    written (2 * length ps) (parts_words qs) (work_of m ps s g rest) ≡ work_of m (ps ++ qs) s g rest
unfolding work_of
parts_written m ps qs s g rest h =
    let n = 8192 - 2 * length ps in
    let behind : List ℕ = bit_row 128 s ++ (map g (range_with_len 0 m) ++ rest) in
    let long = length-parts qs in
    let start : 2 * length ps ≡ length (parts_words ps) + 0 = omega (arith, length-parts ps) in
    let fits : 0 + length (parts_words qs) ≤ length (replicate {A = ℕ} n 0) = omega (arith, length-replicate {A = ℕ} n 0) in
    let left : n - length (parts_words qs) ≡ 8192 - 2 * length (ps ++ qs) = omega (arith, length-append ps qs) in
    let area : written (2 * length ps) (parts_words qs) (parts_area ps) ≡ parts_area (ps ++ qs) =
    ap (λ k. written k (parts_words qs) (parts_area ps)) start
    ∙ written_behind (parts_words ps) (replicate n 0) (parts_words qs) 0
    ∙ ap (λ r. parts_words ps ++ r) (over_zeros (parts_words qs) n (omega arith))
    ∙ sym (append_assoc (parts_words ps) (parts_words qs) (replicate (n - length (parts_words qs)) 0))
    ∙ (λ j. sym (parts_append ps qs) j ++ replicate (left j) 0) in
    written_before (parts_area ps) behind (parts_words qs) (2 * length ps) (omega (arith, length-area ps (omega arith)))
    ∙ ap (λ r. r ++ behind) area

-- all parts' words cleared
zeros_over : (xs ys : List ℕ) → written 0 (replicate (length xs) 0) (xs ++ ys) ≡ replicate (length xs) 0 ++ ys
unfolding written
zeros_over [] ys = written_none 0 ys
zeros_over (x ∷ xs) ys = ap (λ r. 0 ∷ r) (zeros_over xs ys)

pub parts_cleared :
    (m : ℕ) (ps : List Part) (s : ℕ → Bool) (g : ℕ → ℕ) (rest : List ℕ) → length ps ≤ 4096 →
    written 0 (replicate (2 * length ps) 0) (work_of m ps s g rest) ≡ work_of m [] s g rest
unfolding work_of
parts_cleared m ps s g rest h =
    let n = 8192 - 2 * length ps in
    let behind : List ℕ = bit_row 128 s ++ (map g (range_with_len 0 m) ++ rest) in
    let start : 2 * length ps ≡ length (parts_words ps) = sym (length-parts ps) in
    let all : length (parts_words ps) + n ≡ 8192 = omega (arith, length-parts ps) in
    ap (λ k. written 0 (replicate k 0) (parts_area ps ++ behind)) start
    ∙ written_before (parts_area ps) behind (replicate (length (parts_words ps)) 0) 0
    (omega (arith, length-area ps h, length-parts ps, length-replicate {A = ℕ} (length (parts_words ps)) 0))
    ∙ ap (λ r. r ++ behind) (zeros_over (parts_words ps) (replicate n 0) ∙ replicate-append-replicate (length (parts_words ps)) n 0 ∙ ap (λ k. replicate k 0) all)

-- Between questions every word is 0.
counted_zeros : (a m : ℕ) → map no_pieces (range_with_len a m) ≡ replicate m 0
counted_zeros a zero = refl
counted_zeros a (suc m) = ap (λ r. 0 ∷ r) (counted_zeros (a + 1) m)

pub work_none : (m : ℕ) (rest : List ℕ) → work_of m [] no_member no_pieces rest ≡ replicate (8320 + m) 0 ++ rest
unfolding work_of
work_none m rest =
    let e : 8192 + (128 + m) ≡ 8320 + m = omega arith in
    ap (λ r. replicate 8192 0 ++ r)
    ((λ j. bit_row_none 128 j ++ (counted_zeros 0 m j ++ rest)) ∙ sym (append_assoc (replicate 128 0) (replicate m 0) rest) ∙ ap (λ r. r ++ rest) (replicate-append-replicate 128 m 0))
    ∙ sym (append_assoc (replicate 8192 0) (replicate (128 + m) 0) rest)
    ∙ ap (λ r. r ++ rest) (replicate-append-replicate 8192 (128 + m) 0 ∙ ap (λ k. replicate k 0) e)
