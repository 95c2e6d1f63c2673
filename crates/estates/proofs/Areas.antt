-- The work area with rows as the area of the shares' layer, and the parts that are read from it. Assumes nothing.
use Rattle.std.proofs.Common.{◌≡◌, ℕ, ◌+◌, ◌-◌, ◌*◌, ◌<◌, ◌≤◌, Bool, ltb, List, [], ◌++◌, map, length, get_or, take, drop, replicate, sym, refl, ap, ◌∙◌, subst, arith}
use borrow.Rule.Slice.PartMut.{put_mid}
use Rattle.std.proofs.lemmas.List.{append_assoc, append-nil, length-append, length-replicate, replicate-append-replicate}
use Rattle.rows.specs.Written.{written}
use Rattle.std.specs.List.{range_with_len}
use Rattle.law.specs.Family.{Family, Part}
use Rattle.rows.proofs.Regions.{region_write, region_part, region_put}
use Rattle.theory.specs.Living.{alive}
use Rattle.children.specs.Links.{link_row}
use Rattle.children.proofs.Links.{links_wide}
use Rattle.people.specs.Layout.{person_row, working}
use Rattle.people.proofs.Layouts.{persons_wide, around_work}
use Rattle.shares.specs.Work.{part_in, work_of, has_pieces, divided, no_pieces}
use Rattle.shares.proofs.Work.{parts_area, length-work, part_read, parts_cleared}
use Rattle.bits.specs.Sets.{bit_row, no_member}
use Rattle.descent.specs.Going.{with_parts}
use Rattle.amounts.specs.Passes.{filled_up}
use Rattle.amounts.proofs.Turns.{row_by}
use Rattle.amounts.proofs.Cleared.{replicate_nothing}
use Rattle.passes.specs.Rows.{Rows, rows_area, Rowed}
use Rattle.passes.specs.Listings.{order_row, listed_rows, no_list}
use Rattle.estates.specs.Passing.{spare_zeros}

-- what each has, by a row
abbrev pub amounts_in : List ℕ → ℕ → ℕ
amounts_in row w = get_or row w 0

pub rows_work :
    (n : ℕ) (ps : List Part) (r : Rows) (spare : List ℕ) → length r.pieces ≡ n →
    rows_area ps r spare ≡ work_of n ps r.heirs (amounts_in r.pieces) (r.order ++ (r.counts ++ (r.multiples ++ spare)))
unfolding work_of
rows_work n ps r spare long =
    let row : r.pieces ≡ map (amounts_in r.pieces) (range_with_len 0 n) = row_by r.pieces (amounts_in r.pieces) (λ w. refl) ∙ ap (λ k. map (amounts_in r.pieces) (range_with_len 0 k)) long in
    λ i. parts_area ps ++ (bit_row 128 r.heirs ++ (row i ++ (r.order ++ (r.counts ++ (r.multiples ++ spare)))))

-- rows when nobody is listed, as the shares' layer has them
amounts_none : (n : ℕ) → amounts_in (replicate n 0) ≡ no_pieces
amounts_none n i w = replicate_nothing n w i

heirs_none : (n : ℕ) → has_pieces (amounts_in (replicate n 0)) ≡ no_member
heirs_none n i w = ap (λ (k : ℕ). ltb 0 k) (replicate_nothing n w) i

spare_rows : (n : ℕ) → replicate n 0 ++ (replicate n 0 ++ (replicate n 0 ++ replicate (16126 + 4 * n) 0)) ≡ spare_zeros n
spare_rows n =
    ap (λ r. replicate n 0 ++ (replicate n 0 ++ r)) (replicate-append-replicate n (16126 + 4 * n) 0) ∙ ap (λ r. replicate n 0 ++ r) (replicate-append-replicate n (n + (16126 + 4 * n)) 0)
    ∙ replicate-append-replicate n (n + (n + (16126 + 4 * n))) 0 ∙ ap (λ k. replicate k 0) (let e : n + (n + (n + (16126 + 4 * n))) ≡ 16126 + 7 * n = omega arith in e)

abbrev pub spare_left : ℕ → List ℕ
spare_left n = replicate (16126 + 4 * n) 0

pub no_list_work :
    (n : ℕ) (ps : List Part) (s : ℕ → Bool) (pieces : List ℕ) → length pieces ≡ n → rows_area ps (no_list n s pieces) (spare_left n) ≡ work_of n ps s (amounts_in pieces) (spare_zeros n)
no_list_work n ps s pieces long = rows_work n ps (no_list n s pieces) (spare_left n) long ∙ ap (work_of n ps s (amounts_in pieces)) (spare_rows n)

nobody_listed : (n : ℕ) (f : Family) → no_list n no_member (replicate n 0) ≡ listed_rows n f []
unfolding order_row filled_up
nobody_listed n f = refl

-- parts alone, as rows
pub parts_rowed :
    (ws : List ℕ) (n : ℕ) (f : Family) (ps : List Part) (rest : List ℕ) → ws ≡ with_parts n f ps (spare_zeros n) rest → length ps ≤ 4096 → length f ≤ n → Rowed ws n f ps (listed_rows n f []) (spare_left n) rest
parts_rowed ws n f ps rest e few room =
    subst (λ r. Rowed ws n f ps r (spare_left n) rest) (nobody_listed n f)
    (record {
      words =
          e ∙ ap (λ a. working n f a rest) (sym (no_list_work n ps no_member (replicate n 0) (length-replicate {A = ℕ} n 0) ∙ ap (λ g. work_of n ps no_member g (spare_zeros n)) (amounts_none n)));
      few = few;
      room = room;
      pieces_long = length-replicate {A = ℕ} n 0;
      order_long = length-replicate {A = ℕ} n 0;
      counts_long = length-replicate {A = ℕ} n 0;
      multiples_long = length-replicate {A = ℕ} n 0;
    })

-- nobody has pieces
pub none_divided : (n : ℕ) (ps : List Part) (spare : List ℕ) → divided n ps (amounts_in (replicate n 0)) spare ≡ work_of n ps no_member no_pieces spare
none_divided n ps spare = λ i. work_of n ps (heirs_none n i) (amounts_none n i) spare

-- the work area with all that lies behind it, handed on and put back
work_behind :
    (m : ℕ) (ps : List Part) (s : ℕ → Bool) (g : ℕ → ℕ) (spare rest : List ℕ) → work_of m ps s g spare ++ rest ≡ work_of m ps s g (spare ++ rest)
unfolding work_of
work_behind m ps s g spare rest =
    let area = parts_area ps in
    let amounts = map g (range_with_len 0 m) in
    append_assoc area (bit_row 128 s ++ (amounts ++ spare)) rest
    ∙ ap (λ r. area ++ r) (append_assoc (bit_row 128 s) (amounts ++ spare) rest ∙ ap (λ r. bit_row 128 s ++ r) (append_assoc amounts spare rest))

module _ (n : ℕ) (f : Family) (ps : List Part) (spare rest : List ℕ) where
  abbrev all_behind : (ℕ → Bool) → (ℕ → ℕ) → List ℕ
  all_behind s g = work_of n ps s g (spare ++ rest)

  around : (front : List ℕ) × (length front ≡ 130 + 8 * n) × ((s : ℕ → Bool) (g : ℕ → ℕ) → working n f (work_of n ps s g spare) rest ≡ front ++ (all_behind s g ++ []))
  around =
      let a = around_work n (length f) (person_row f) (link_row f) (alive f) rest (persons_wide f) (links_wide f) in (
        a.0,
        a.1,
        λ s g. a.2 (work_of n ps s g spare) ∙ ap (λ r. a.0 ++ r) (work_behind n ps s g spare rest ∙ sym (append-nil (all_behind s g))),
      )

  module _ (s : ℕ → Bool) (g : ℕ → ℕ) (mem : List ℕ) (at : ℕ) (e : mem ≡ working n f (work_of n ps s g spare) rest) (begins : at ≡ 130 + 8 * n) where
    behind_long : length (all_behind s g) ≡ length mem - at
    behind_long =
        let all = ap length (e ∙ around.2 s g) ∙ length-append around.0 (all_behind s g ++ []) ∙ ap (λ r. length around.0 + length r) (append-nil (all_behind s g)) in
        omega (arith, around.1, all)

    pub handed_on : take (length mem - at) (drop at mem) ≡ work_of n ps s g (spare ++ rest)
    handed_on =
        ap (λ u. take (length mem - at) (drop at u)) (e ∙ around.2 s g) ∙ region_part around.0 (all_behind s g) [] at (length mem - at) (around.1 ∙ sym begins) behind_long

    pub put_back : (t : ℕ → Bool) (h : ℕ → ℕ) (new : List ℕ) → new ≡ work_of n ps t h (spare ++ rest) → put_mid at (length mem - at) mem new ≡ working n f (work_of n ps t h spare) rest
    put_back t h new is =
        (λ i. put_mid at (length mem - at) ((e ∙ around.2 s g) i) (is i))
        ∙ region_put around.0 (all_behind s g) [] (all_behind t h) at (length mem - at) (around.1 ∙ sym begins) behind_long ∙ sym (around.2 t h)

-- the part with an index
pub start_read :
    {ws : List ℕ} {n : ℕ} {f : Family} {ps : List Part} {r : Rows} {spare rest : List ℕ} → Rowed ws n f ps r spare rest → (i at : ℕ) (none : Part) → i < length ps → at ≡ 130 + 8 * n →
    part_in (take (length ws - at) (drop at ws)) i ≡ get_or ps i none
start_read {ws} {n} {f} {ps} {r} {spare} {rest} held i at none h begins =
    let amounts = amounts_in r.pieces in
    let more = r.order ++ (r.counts ++ (r.multiples ++ spare)) in
    let words : ws ≡ working n f (work_of n ps r.heirs amounts more) rest = held.words ∙ ap (λ a. working n f a rest) (rows_work n ps r spare held.pieces_long) in
    ap (λ a. part_in a i) (handed_on n f ps more rest r.heirs amounts ws at words begins) ∙ part_read n ps r.heirs amounts (more ++ rest) i none h

-- parts cleared
pub parts_gone :
    (ws : List ℕ) (n : ℕ) (f : Family) (ps : List Part) (spare rest : List ℕ) (at count : ℕ) → ws ≡ with_parts n f ps spare rest → at ≡ 130 + 8 * n → length ps ≡ count → length ps ≤ 4096 →
    written at (replicate (2 * count) 0) ws ≡ with_parts n f [] spare rest
parts_gone ws n f ps spare rest at count e begins many few =
    let around = around_work n (length f) (person_row f) (link_row f) (alive f) rest (persons_wide f) (links_wide f) in
    let work = work_of n ps no_member no_pieces spare in
    let long = length-work n ps no_member no_pieces spare few in
    let zeros = length-replicate {A = ℕ} (2 * length ps) 0 in
    let start : at ≡ at + 0 = omega arith in
    (λ i. written (start i) (replicate (2 * sym many i) 0) ((e ∙ around.2 work) i))
    ∙ region_write around.0 work rest (replicate (2 * length ps) 0) at 0 (omega (arith, around.1)) (omega arith)
    ∙ ap (λ r. around.0 ++ (r ++ rest)) (parts_cleared n ps no_member no_pieces spare few) ∙ sym (around.2 (work_of n [] no_member no_pieces spare))
