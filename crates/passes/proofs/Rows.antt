-- Laws of the rows in the work area: what is read from them, and what a write leaves. Assumes nothing.
use Rattle.std.proofs.Common.{◌≡◌, ℕ, ◌+◌, ◌-◌, ◌*◌, ◌<◌, ◌≤◌, Bool, List, ◌++◌, length, get_or, set, replicate, sym, refl, ap, ◌∙◌, arith}
use Rattle.std.proofs.lemmas.List.{append_assoc, length-append, length-set}
use Rattle.law.specs.Family.{Family, Part}
use Rattle.rows.proofs.Regions.{region_read, region_set}
use Rattle.theory.specs.Living.{alive}
use Rattle.bits.specs.Sets.{bit_row, with_member}
use Rattle.bits.proofs.Sets.{length-bit_row}
use Rattle.children.specs.Links.{link_row}
use Rattle.children.proofs.Links.{links_wide}
use Rattle.shares.specs.Work.{parts_words}
use Rattle.shares.proofs.Work.{parts_area, length-area}
use Rattle.people.specs.Layout.{person_row, working, limit_in, count_in}
use Rattle.people.proofs.Layouts.{persons_wide, around_work, limit_working, count_working}
use Rattle.passes.specs.Rows.{Rows, rows_area, Rowed, with_heirs, with_pieces, with_order, with_counts, with_multiples, row_of, row_number, with_row}
use Rattle.passes.specs.declared.Row.{Row}
use Rattle.passes.specs.declared.Row.TheVariants.{Pieces, Order, Counts, Multiples}

-- what lies around a row, whichever it is
abbrev Around : ℕ → ℕ → Family → List Part → (List ℕ → Rows) → List ℕ → List ℕ → Type 0
Around at n f ps g spare rest =
    (front : List ℕ) × (back : List ℕ) × (length front ≡ at) × ((row : List ℕ) → working n f (rows_area ps (g row) spare) rest ≡ front ++ (row ++ back))

module _ (n : ℕ) (f : Family) (ps : List Part) (r : Rows) (spare rest : List ℕ) (few : length ps ≤ 4096) (p_long : length r.pieces ≡ n) (o_long : length r.order ≡ n) (c_long : length r.counts ≡ n) where
  around_pieces : Around (8450 + 8 * n) n f ps (with_pieces r) spare rest
  around_pieces =
      let around = around_work n (length f) (person_row f) (link_row f) (alive f) rest (persons_wide f) (links_wide f) in
      let a = parts_area ps in
      let b = bit_row 128 r.heirs in (
        around.0 ++ (a ++ b),
        r.order ++ (r.counts ++ (r.multiples ++ (spare ++ rest))),
        simp length-append (omega (arith, around.1, length-area ps few, length-append (parts_words ps) (replicate (8192 - 2 * length ps) 0), length-bit_row 128 r.heirs)),
        λ row. around.2 (rows_area ps (with_pieces r row) spare) ∙ simp append_assoc,
      )

  around_order : Around (8450 + 9 * n) n f ps (with_order r) spare rest
  around_order =
      let around = around_work n (length f) (person_row f) (link_row f) (alive f) rest (persons_wide f) (links_wide f) in
      let a = parts_area ps in
      let b = bit_row 128 r.heirs in (
        around.0 ++ (a ++ (b ++ r.pieces)),
        r.counts ++ (r.multiples ++ (spare ++ rest)),
        simp length-append (omega (arith, around.1, length-area ps few, length-append (parts_words ps) (replicate (8192 - 2 * length ps) 0), length-bit_row 128 r.heirs)),
        λ row. around.2 (rows_area ps (with_order r row) spare) ∙ simp append_assoc,
      )

  around_counts : Around (8450 + 10 * n) n f ps (with_counts r) spare rest
  around_counts =
      let around = around_work n (length f) (person_row f) (link_row f) (alive f) rest (persons_wide f) (links_wide f) in
      let a = parts_area ps in
      let b = bit_row 128 r.heirs in (
        around.0 ++ (a ++ (b ++ (r.pieces ++ r.order))),
        r.multiples ++ (spare ++ rest),
        simp length-append (omega (arith, around.1, length-area ps few, length-append (parts_words ps) (replicate (8192 - 2 * length ps) 0), length-bit_row 128 r.heirs)),
        λ row. around.2 (rows_area ps (with_counts r row) spare) ∙ simp append_assoc,
      )

  around_multiples : Around (8450 + 11 * n) n f ps (with_multiples r) spare rest
  around_multiples =
      let around = around_work n (length f) (person_row f) (link_row f) (alive f) rest (persons_wide f) (links_wide f) in
      let a = parts_area ps in
      let b = bit_row 128 r.heirs in (
        around.0 ++ (a ++ (b ++ (r.pieces ++ (r.order ++ r.counts)))),
        spare ++ rest,
        simp length-append (omega (arith, around.1, length-area ps few, length-append (parts_words ps) (replicate (8192 - 2 * length ps) 0), length-bit_row 128 r.heirs)),
        λ row. around.2 (rows_area ps (with_multiples r row) spare) ∙ simp append_assoc,
      )

-- what lies around the bits of heirs
around_heirs :
    (n : ℕ) (f : Family) (ps : List Part) (r : Rows) (spare rest : List ℕ) → length ps ≤ 4096 →
    (front : List ℕ) × (back : List ℕ) × (length front ≡ 8322 + 8 * n) × ((s : ℕ → Bool) → working n f (rows_area ps (with_heirs r s) spare) rest ≡ front ++ (bit_row 128 s ++ back))
around_heirs n f ps r spare rest few =
    let around = around_work n (length f) (person_row f) (link_row f) (alive f) rest (persons_wide f) (links_wide f) in
    let a = parts_area ps in (
      around.0 ++ a,
      r.pieces ++ (r.order ++ (r.counts ++ (r.multiples ++ (spare ++ rest)))),
      simp length-append (omega (arith, around.1, length-area ps few, length-append (parts_words ps) (replicate (8192 - 2 * length ps) 0))),
      λ s. around.2 (rows_area ps (with_heirs r s) spare) ∙ simp append_assoc,
    )

-- what lies around one of the four rows
around_row :
    (n : ℕ) (f : Family) (ps : List Part) (r : Rows) (spare rest : List ℕ) → length ps ≤ 4096 → length r.pieces ≡ n → length r.order ≡ n → length r.counts ≡ n → (row : Row) →
    Around (8450 + (8 + row_number row) * n) n f ps (with_row row r) spare rest
around_row n f ps r spare rest few p o c Pieces = around_pieces n f ps r spare rest few p o c
around_row n f ps r spare rest few p o c Order = around_order n f ps r spare rest few p o c
around_row n f ps r spare rest few p o c Counts = around_counts n f ps r spare rest few p o c
around_row n f ps r spare rest few p o c Multiples = around_multiples n f ps r spare rest few p o c

with_own : (r : Rows) (row : Row) → with_row row r (row_of row r) ≡ r
with_own r Pieces = refl
with_own r Order = refl
with_own r Counts = refl
with_own r Multiples = refl

module _ {ws : List ℕ} {n : ℕ} {f : Family} {ps : List Part} {r : Rows} {spare rest : List ℕ} (held : Rowed ws n f ps r spare rest) where
  pub rowed_limit : limit_in ws ≡ n
  rowed_limit = ap limit_in held.words ∙ limit_working n f (rows_area ps r spare) rest

  pub rowed_count : count_in ws ≡ length f
  rowed_count = ap count_in held.words ∙ count_working n f (rows_area ps r spare) rest

  around : (row : Row) → Around (8450 + (8 + row_number row) * n) n f ps (with_row row r) spare rest
  around row = around_row n f ps r spare rest held.few held.pieces_long held.order_long held.counts_long row

  row_words : (row : Row) → ws ≡ (around row).0 ++ (row_of row r ++ (around row).1)
  row_words row =
      held.words ∙ ap (λ q. working n f (rows_area ps q spare) rest) (sym (with_own r row)) ∙ (around row).3 (row_of row r)

  pub row_long : (row : Row) → length (row_of row r) ≡ n
  row_long Pieces = held.pieces_long
  row_long Order = held.order_long
  row_long Counts = held.counts_long
  row_long Multiples = held.multiples_long

  -- a word of a row
  pub row_read : (row : Row) (i at : ℕ) → i < n → at ≡ 8450 + (8 + row_number row) * n + i → get_or ws at 0 ≡ get_or (row_of row r) i 0
  row_read row i at h e =
      (λ j. get_or (row_words row j) (e j) 0)
      ∙ region_read (around row).0 (row_of row r) (around row).1 0 (8450 + (8 + row_number row) * n) i (around row).2 (omega (arith, row_long row))

  -- words with another row in the place of one
  rowed_with : (row : Row) (later xs : List ℕ) → length xs ≡ n → later ≡ working n f (rows_area ps (with_row row r xs) spare) rest → Rowed later n f ps (with_row row r xs) spare rest
  rowed_with Pieces later xs long words =
      record { words = words; few = held.few; room = held.room; pieces_long = long; order_long = held.order_long; counts_long = held.counts_long; multiples_long = held.multiples_long }
  rowed_with Order later xs long words =
      record { words = words; few = held.few; room = held.room; pieces_long = held.pieces_long; order_long = long; counts_long = held.counts_long; multiples_long = held.multiples_long }
  rowed_with Counts later xs long words =
      record { words = words; few = held.few; room = held.room; pieces_long = held.pieces_long; order_long = held.order_long; counts_long = long; multiples_long = held.multiples_long }
  rowed_with Multiples later xs long words =
      record { words = words; few = held.few; room = held.room; pieces_long = held.pieces_long; order_long = held.order_long; counts_long = held.counts_long; multiples_long = long }

  pub row_set :
      (row : Row) (i at v : ℕ) → i < n → at ≡ 8450 + (8 + row_number row) * n + i → Rowed (set ws at v) n f ps (with_row row r (set (row_of row r) i v)) spare rest
  row_set row i at v h e =
      rowed_with row (set ws at v) (set (row_of row r) i v) (length-set (row_of row r) i v ∙ row_long row)
      ((λ j. set (row_words row j) (e j) v)
      ∙ region_set (around row).0 (row_of row r) (around row).1 v (8450 + (8 + row_number row) * n) i (around row).2 (omega (arith, row_long row))
      ∙ sym ((around row).3 (set (row_of row r) i v)))

  -- one heir more
  pub heir_inserted :
      (later : List ℕ) (p at : ℕ) → p < 4096 → at ≡ 8322 + 8 * n →
      ((front rest : List ℕ) (m : ℕ) (s : ℕ → Bool) → ws ≡ front ++ (bit_row m s ++ rest) → length front ≡ at → p < 32 * m → later ≡ front ++ (bit_row m (with_member s p) ++ rest)) →
      Rowed later n f ps (with_heirs r (with_member r.heirs p)) spare rest
  heir_inserted later p at h e inserted =
      let around = around_heirs n f ps r spare rest held.few in
      record {
        words =
            inserted around.0 around.1 128 r.heirs (held.words ∙ around.3 r.heirs) (around.2 ∙ sym e) (omega arith) ∙ sym (around.3 (with_member r.heirs p));
        few = held.few;
        room = held.room;
        pieces_long = held.pieces_long;
        order_long = held.order_long;
        counts_long = held.counts_long;
        multiples_long = held.multiples_long;
      }
