-- Laws of a register's words: what is read from them, and what a write leaves. Assumes nothing.
use Rattle.std.proofs.Common.{◌≡◌, ℕ, zero, suc, ◌+◌, ◌*◌, ◌<◌, ◌≤◌, Bool, true, false, cond, not, eqb, List, [], ◌∷◌, ◌++◌, length, get_or, take, drop, set, replicate, sym, refl, ap, ◌∙◌, ⊎_elim, add-one, arith}
use borrow.Rule.Slice.PartMut.{put_mid}
use Rattle.std.proofs.lemmas.List.FromFn.{length-map-range_with_len, get_or-map-range_with_len}
use Rattle.std.proofs.lemmas.List.{ext_get_or, length-append, length-replicate, length-set, length_push, drop_at, append_assoc, get_or_past, get_or-set_same, get_or-set_other, get_or_append_left, get_or_push, replicate-append-replicate}
use Rattle.std.proofs.lemmas.Bool.{cases_lt}
use Rattle.law.specs.Family.{Person, Family, person, nobody, children_in, line_lives_in}
use Rattle.rows.specs.Written.{written}
use Rattle.rows.specs.Tables.{table, Wide}
use Rattle.rows.proofs.Written.{written_none}
use Rattle.rows.proofs.Regions.{region_read, region_write, region_part, region_put}
use Rattle.rows.proofs.Tables.{length-table, get_or-table, table_written, table_zeros}
use Rattle.bits.specs.Sets.{bit_row, no_member}
use Rattle.bits.proofs.Sets.{length-bit_row, bit_row_same, bit_row_none}
use Rattle.theory.specs.Living.{alive}
use Rattle.children.specs.Links.{first_of, last_of, behind, link_row, is_mother, next_place}
use Rattle.children.proofs.Links.{links_set, links_wide}
use Rattle.people.specs.Layout.{words_asked, work_words, person_words, person_at, person_row, laid, working, image, limit_in, count_in, links_in, next_link, family_in, rest_in}

-- the family that words hold
pub length-family : (ws : List ℕ) → length (family_in ws) ≡ count_in ws
unfolding family_in
length-family ws = length-map-range_with_len (λ p. person_at ws (2 + 4 * p)) 0 (count_in ws)

pub person_found : (ws : List ℕ) (p : ℕ) → p < count_in ws → person (family_in ws) p ≡ person_at ws (2 + 4 * p)
unfolding family_in
person_found ws p h = get_or-map-range_with_len (λ p. person_at ws (2 + 4 * p)) 0 (count_in ws) p p nobody h (omega arith)

-- who is past the end is nobody, in four words of 0
pub nobody_past : (f : Family) (p : ℕ) → length f ≤ p → person f p ≡ nobody
nobody_past f p h = get_or_past f p nobody h

pub persons_wide : (f : Family) → Wide 4 (person_row f)
persons_wide f p = refl

-- a person read back from their four words
live_again : (b : Bool) → not (eqb (cond b 1 0) 0) ≡ b
live_again true = refl
live_again false = refl

pub words_again : (q : Person) (ws : List ℕ) (i : ℕ) → ((k : ℕ) → k < 4 → get_or ws (i + k) 0 ≡ get_or (person_words q) k 0) → person_at ws i ≡ q
words_again q ws i at =
    let e : i + 0 ≡ i = omega arith in
    let m : get_or ws i 0 ≡ q.mother = ap (λ j. get_or ws j 0) (sym e) ∙ at 0 (omega arith) in
    let l : not (eqb (get_or ws (i + 2) 0) 0) ≡ q.lives = ap (λ x. not (eqb x 0)) (at 2 (omega arith)) ∙ live_again q.lives in
    λ j. record { mother = m j; father = at 1 (omega arith) j; lives = l j; spouse = at 3 (omega arith) j }

-- laid out words
module _ (n k : ℕ) (persons links : ℕ → List ℕ) (lives : ℕ → Bool) (work rest : List ℕ) where
  pub laid_limit : limit_in (laid n k persons links lives work rest) ≡ n
  unfolding laid
  laid_limit = refl

  pub laid_count : count_in (laid n k persons links lives work rest) ≡ k
  unfolding laid
  laid_count = refl

  pub laid_recount : (j : ℕ) → set (laid n k persons links lives work rest) 1 j ≡ laid n j persons links lives work rest
  unfolding laid
  laid_recount j = refl

  -- persons
  pub laid_person : (p : ℕ) (q : Person) → Wide 4 persons → p < n → persons p ≡ person_words q → person_at (laid n k persons links lives work rest) (2 + 4 * p) ≡ q
  unfolding laid
  laid_person p q wide h e =
      let back = table n links ++ (bit_row 128 lives ++ (work ++ rest)) in
      words_again q (n ∷ (k ∷ (table n persons ++ back))) (2 + 4 * p)
      (λ j l.
      let at : 2 + 4 * p + j ≡ 2 + (4 * p + j) = omega arith in
      ap (λ i. get_or (n ∷ (k ∷ (table n persons ++ back))) i 0) at
      ∙ region_read (n ∷ (k ∷ [])) (table n persons) back 0 2 (4 * p + j) refl (omega (arith, length-table 4 n persons wide))
      ∙ get_or-table 4 n persons p j wide h l ∙ ap (λ r. get_or r j 0) e)

  pub laid_put :
      (new : ℕ → List ℕ) (p : ℕ) → Wide 4 persons → Wide 4 new → p < n → ((q : ℕ) → q < n → (q ≡ p → ⊥) → new q ≡ persons q) →
      written (2 + 4 * p) (new p) (laid n k persons links lives work rest) ≡ laid n k new links lives work rest
  unfolding laid
  laid_put new p wide wide' h other =
      let back = table n links ++ (bit_row 128 lives ++ (work ++ rest)) in
      region_write (n ∷ (k ∷ [])) (table n persons) back (new p) 2 (4 * p) refl (omega (arith, length-table 4 n persons wide, wide' p))
      ∙ ap (λ t. n ∷ (k ∷ (t ++ back))) (table_written 4 n persons new p wide wide' h other)

  -- the links, handed on as a part
  pub laid_links : Wide 4 persons → Wide 4 links → take (4 * n) (drop (2 + 4 * n) (laid n k persons links lives work rest)) ≡ table n links
  unfolding laid
  laid_links wide wide' =
      region_part (n ∷ (k ∷ table n persons)) (table n links) (bit_row 128 lives ++ (work ++ rest)) (2 + 4 * n) (4 * n) (omega (arith, length-table 4 n persons wide)) (length-table 4 n links wide')

  pub laid_link : (p j : ℕ) → Wide 4 persons → Wide 4 links → p < n → j < 4 → get_or (laid n k persons links lives work rest) (2 + 4 * n + (4 * p + j)) 0 ≡ get_or (links p) j 0
  unfolding laid
  laid_link p j wide wide' h l =
      region_read (n ∷ (k ∷ table n persons)) (table n links) (bit_row 128 lives ++ (work ++ rest)) 0 (2 + 4 * n) (4 * p + j) (omega (arith, length-table 4 n persons wide))
      (omega (arith, length-table 4 n links wide'))
      ∙ get_or-table 4 n links p j wide' h l

  pub laid_relinked :
      (new : ℕ → List ℕ) → Wide 4 persons → Wide 4 links → put_mid (2 + 4 * n) (4 * n) (laid n k persons links lives work rest) (table n new) ≡ laid n k persons new lives work rest
  unfolding laid
  laid_relinked new wide wide' =
      region_put (n ∷ (k ∷ table n persons)) (table n links) (bit_row 128 lives ++ (work ++ rest)) (table n new) (2 + 4 * n) (4 * n) (omega (arith, length-table 4 n persons wide))
      (length-table 4 n links wide')

  -- sets that agree on all whom a register can have
  pub laid_same : (other : ℕ → Bool) → ((p : ℕ) → lives p ≡ other p) → laid n k persons links lives work rest ≡ laid n k persons links other work rest
  unfolding laid
  laid_same other same = ap (λ r. n ∷ (k ∷ (table n persons ++ (table n links ++ (r ++ (work ++ rest)))))) (bit_row_same 128 lives other (λ p h. same p))

-- what lies around the bits, whichever they are, and around the words to work in
pub around_bits :
    (n k : ℕ) (persons links : ℕ → List ℕ) (work rest : List ℕ) → Wide 4 persons → Wide 4 links →
    (front : List ℕ) × (length front ≡ 2 + 8 * n) × ((lives : ℕ → Bool) → laid n k persons links lives work rest ≡ front ++ (bit_row 128 lives ++ (work ++ rest)))
unfolding laid
around_bits n k persons links work rest wide wide' = (
  n ∷ (k ∷ (table n persons ++ table n links)),
  simp length-append (omega (arith, length-table 4 n persons wide, length-table 4 n links wide')),
  λ lives. ap (λ r. n ∷ (k ∷ r)) (sym (append_assoc (table n persons) (table n links) (bit_row 128 lives ++ (work ++ rest)))),
)

pub around_work :
    (n k : ℕ) (persons links : ℕ → List ℕ) (lives : ℕ → Bool) (rest : List ℕ) → Wide 4 persons → Wide 4 links →
    (front : List ℕ) × (length front ≡ 130 + 8 * n) × ((work : List ℕ) → laid n k persons links lives work rest ≡ front ++ (work ++ rest))
unfolding laid
around_work n k persons links lives rest wide wide' =
    let front = n ∷ (k ∷ (table n persons ++ (table n links ++ bit_row 128 lives))) in (
      front,
      simp (length-append, length-bit_row) (omega (arith, length-table 4 n persons wide, length-table 4 n links wide')),
      λ work.
          ap (λ r. n ∷ (k ∷ r))
          (sym (append_assoc (table n persons) (table n links ++ bit_row 128 lives) (work ++ rest)
          ∙ ap (λ r. table n persons ++ r) (append_assoc (table n links) (bit_row 128 lives) (work ++ rest)))),
    )

module _ (n k : ℕ) (persons links : ℕ → List ℕ) (lives : ℕ → Bool) (work rest : List ℕ) (wide : Wide 4 persons) (wide' : Wide 4 links) where
  pub length-laid : length (laid n k persons links lives work rest) ≡ 130 + 8 * n + length work + length rest
  length-laid = let around = around_work n k persons links lives rest wide wide' in ap length (around.2 work) ∙ simp length-append (omega (arith, around.1))

  pub laid_rest : length work ≡ work_words n → rest_in (laid n k persons links lives work rest) ≡ rest
  laid_rest l =
      let around = around_work n k persons links lives rest wide wide' in
      ap (λ j. drop (words_asked j) (laid n k persons links lives work rest)) (laid_limit n k persons links lives work rest)
      ∙ ap (drop (words_asked n)) (around.2 work ∙ sym (append_assoc around.0 work rest))
      ∙ drop_at (around.0 ++ work) rest (words_asked n) (simp length-append (omega (arith, around.1)))

-- the limit of laid out words is that which they say
pub limit_laid : (ws : List ℕ) (n k : ℕ) (persons links : ℕ → List ℕ) (lives : ℕ → Bool) (work rest : List ℕ) → ws ≡ laid n k persons links lives work rest → limit_in ws ≡ n
limit_laid ws n k persons links lives work rest e = ap limit_in e ∙ laid_limit n k persons links lives work rest

pub limit_said :
    (ws : List ℕ) (n k : ℕ) (persons links : ℕ → List ℕ) (lives : ℕ → Bool) (work rest : List ℕ) → ws ≡ laid n k persons links lives work rest →
    ws ≡ laid (limit_in ws) k persons links lives work rest
limit_said ws n k persons links lives work rest e = e ∙ (λ i. laid (sym (limit_laid ws n k persons links lives work rest e) i) k persons links lives work rest)

-- the memory of a family

module _ (n : ℕ) (f : Family) (work rest : List ℕ) where
  pub limit_working : limit_in (working n f work rest) ≡ n
  limit_working = laid_limit n (length f) (person_row f) (link_row f) (alive f) work rest

  pub count_working : count_in (working n f work rest) ≡ length f
  count_working = laid_count n (length f) (person_row f) (link_row f) (alive f) work rest

  pub family_working : length f ≤ n → family_in (working n f work rest) ≡ f
  family_working room =
      let l : length (family_in (working n f work rest)) ≡ length f = length-family (working n f work rest) ∙ count_working in
      ext_get_or nobody (family_in (working n f work rest)) f l
      (λ p h. person_found (working n f work rest) p (omega (arith, count_working))
      ∙ laid_person n (length f) (person_row f) (link_row f) (alive f) work rest p (person f p) (persons_wide f) (omega arith) refl)

  pub length-working : length (working n f work rest) ≡ 130 + 8 * n + length work + length rest
  length-working = length-laid n (length f) (person_row f) (link_row f) (alive f) work rest (persons_wide f) (links_wide f)

module _ (n : ℕ) (f : Family) (rest : List ℕ) where
  length-no_work : length {A = ℕ} (replicate (work_words n) 0) ≡ work_words n
  length-no_work = length-replicate {A = ℕ} (work_words n) 0

  pub limit_image : limit_in (image n f rest) ≡ n
  limit_image = limit_working n f (replicate (work_words n) 0) rest

  pub count_image : count_in (image n f rest) ≡ length f
  count_image = count_working n f (replicate (work_words n) 0) rest

  pub family_image : length f ≤ n → family_in (image n f rest) ≡ f
  family_image room = family_working n f (replicate (work_words n) 0) rest room

  pub length-image : length (image n f rest) ≡ words_asked n + length rest
  length-image = length-working n f (replicate (work_words n) 0) rest ∙ omega (arith, length-no_work)

  pub rest_image : rest_in (image n f rest) ≡ rest
  rest_image = laid_rest n (length f) (person_row f) (link_row f) (alive f) (replicate (work_words n) 0) rest (persons_wide f) (links_wide f) length-no_work

-- a family with one person written over, and with one more, as rows
pub row_set : (f : Family) (p : ℕ) (q : Person) (i : ℕ) → (i ≡ p → ⊥) → person_row (set f p q) i ≡ person_row f i
row_set f p q i ne = ap person_words (get_or-set_other f p i q nobody ne)

pub row_set_same : (f : Family) (p : ℕ) (q : Person) → p < length f → person_row (set f p q) p ≡ person_words q
row_set_same f p q h = ap person_words (get_or-set_same f p q nobody h)

pub row_push : (f : Family) (q : Person) (i : ℕ) → (i ≡ length f → ⊥) → person_row (f ++ (q ∷ [])) i ≡ person_row f i
row_push f q i ne =
    ap person_words
    (⊎_elim (λ (l : i < length f). get_or_append_left f (q ∷ []) nobody i l)
    (λ (l : length f ≤ i). get_or_past (f ++ (q ∷ [])) i nobody (omega (arith, length_push f q)) ∙ sym (nobody_past f i l)) (cases_lt i (length f)))

pub row_push_last : (f : Family) (q : Person) → person_row (f ++ (q ∷ [])) (length f) ≡ person_words q
row_push_last f q = ap person_words (get_or_push f q nobody (length f) refl)

-- one person written over who has the same parents, so that the links are the same
pub working_set :
    (n : ℕ) (f : Family) (s : ℕ → Bool) (work rest : List ℕ) (p : ℕ) (q : Person) → length f ≤ n → p < length f → q.mother ≡ (person f p).mother → q.father ≡ (person f p).father →
    written (2 + 4 * p) (person_words q) (laid n (length f) (person_row f) (link_row f) s work rest) ≡ laid n (length (set f p q)) (person_row (set f p q)) (link_row (set f p q)) s work rest
unfolding laid
working_set n f s work rest p q room h m d =
    let g = set f p q in
    ap (λ r. written (2 + 4 * p) r (laid n (length f) (person_row f) (link_row f) s work rest)) (sym (row_set_same f p q h))
    ∙ laid_put n (length f) (person_row f) (link_row f) s work rest (person_row g) p (persons_wide f) (persons_wide g) (omega arith) (λ i l ne. row_set f p q i ne)
    ∙ (λ i. laid n (sym (length-set f p q) i) (person_row g) (link_row f) s work rest)
    ∙ ap (λ t. n ∷ (length g ∷ (table n (person_row g) ++ (t ++ (bit_row 128 s ++ (work ++ rest)))))) (sym (links_set n f p q m d))

-- opening: words cleared, and the limit written
zeros_written : (m : ℕ) (xs : List ℕ) → m ≤ length xs → written 0 (replicate m 0) xs ≡ replicate m 0 ++ drop m xs
unfolding written
zeros_written zero xs h = written_none 0 xs
zeros_written (suc m) [] h = absurd (omega arith)
zeros_written (suc m) (x ∷ xs) h = ap (λ r. 0 ∷ r) (zeros_written m xs (omega arith))

zeros_split : (a b : ℕ) (rest : List ℕ) → replicate (a + b) 0 ++ rest ≡ replicate a 0 ++ (replicate b 0 ++ rest)
zeros_split a b rest = ap (λ r. r ++ rest) (sym (replicate-append-replicate a b 0)) ∙ append_assoc (replicate a 0) (replicate b 0) rest

no_links : (p : ℕ) → link_row [] p ≡ replicate 4 0
unfolding first_of last_of behind children_in
no_links p = refl

none_alive : (p : ℕ) → alive [] p ≡ false
unfolding line_lives_in
none_alive p = refl

pub image_none : (n : ℕ) (ws : List ℕ) → words_asked n ≤ length ws → set (written 0 (replicate (words_asked n) 0) ws) 0 n ≡ image n [] (drop (words_asked n) ws)
unfolding laid
image_none n ws room =
    let rest = drop (words_asked n) ws in
    let w = work_words n in
    let persons : replicate (4 * n) 0 ≡ table n (person_row []) = sym (table_zeros 4 n (person_row []) (λ p h. refl)) in
    let links : replicate (4 * n) 0 ≡ table n (link_row []) = sym (table_zeros 4 n (link_row []) (λ p h. no_links p)) in
    let bits : replicate 128 0 ≡ bit_row 128 (alive []) = sym (bit_row_none 128) ∙ bit_row_same 128 no_member (alive []) (λ p h. sym (none_alive p)) in
    let e : words_asked n ≡ suc (suc (4 * n + (4 * n + (128 + w)))) = omega arith in
    ap (λ r. set r 0 n) (zeros_written (words_asked n) ws room)
    ∙ ap (λ m. set (replicate m 0 ++ rest) 0 n) e
    ∙ ap (λ r. n ∷ (0 ∷ r))
    (zeros_split (4 * n) (4 * n + (128 + w)) rest
    ∙ (λ i. persons i ++ (zeros_split (4 * n) (128 + w) rest ∙ ap (λ r. replicate (4 * n) 0 ++ r) (zeros_split 128 w rest)) i)
    ∙ (λ i. table n (person_row []) ++ (links i ++ (bits i ++ (replicate w 0 ++ rest)))))

-- the links' part of memory, and with other links in it
pub links_part :
    (ws : List ℕ) (n k : ℕ) (g f : Family) (s : ℕ → Bool) (work rest : List ℕ) → ws ≡ laid n k (person_row g) (link_row f) s work rest →
    take (4 * n) (drop (2 + 4 * n) ws) ≡ table n (link_row f)
links_part ws n k g f s work rest e =
    ap (λ u. take (4 * n) (drop (2 + 4 * n) u)) e ∙ laid_links n k (person_row g) (link_row f) s work rest (persons_wide g) (links_wide f)

pub links_said :
    (ws : List ℕ) (n k : ℕ) (f : Family) (s : ℕ → Bool) (work rest : List ℕ) → ws ≡ laid n k (person_row f) (link_row f) s work rest → links_in ws ≡ table n (link_row f)
links_said ws n k f s work rest e =
    ap (λ m. take (4 * m) (drop (2 + 4 * m) ws)) (limit_laid ws n k (person_row f) (link_row f) s work rest e) ∙ links_part ws n k f f s work rest e

pub links_put :
    (ws links : List ℕ) (n k : ℕ) (g f : Family) (s : ℕ → Bool) (work rest : List ℕ) → ws ≡ laid n k (person_row g) (link_row f) s work rest → links ≡ table n (link_row g) →
    put_mid (2 + 4 * n) (4 * n) ws links ≡ laid n k (person_row g) (link_row g) s work rest
links_put ws links n k g f s work rest e new =
    (λ i. put_mid (2 + 4 * n) (4 * n) (e i) (new i)) ∙ laid_relinked n k (person_row g) (link_row f) s work rest (link_row g) (persons_wide g) (links_wide f)

-- a person of laid out words, at any number that the limit allows
pub person_laid :
    (ws : List ℕ) (n k : ℕ) (f : Family) (links : ℕ → List ℕ) (s : ℕ → Bool) (work rest : List ℕ) (p : ℕ) → ws ≡ laid n k (person_row f) links s work rest → p < n → person_at ws (2 + 4 * p) ≡ person f p
person_laid ws n k f links s work rest p e h =
    ap (λ u. person_at u (2 + 4 * p)) e ∙ laid_person n k (person_row f) links s work rest p (person f p) (persons_wide f) h refl

-- the link from a child to the next, as it lies in the words of a family
pub next_said :
    (ws : List ℕ) (n k : ℕ) (f : Family) (s : ℕ → Bool) (work rest : List ℕ) (parent child : ℕ) → ws ≡ laid n k (person_row f) (link_row f) s work rest → child < n →
    next_link ws parent child ≡ get_or (table n (link_row f)) (next_place child (is_mother f parent child)) 0
next_said ws n k f s work rest parent child e h =
    let mother = ap (λ (q : Person). q.mother) (person_laid ws n k f (link_row f) s work rest child e h) in
    λ i. get_or (links_said ws n k f s work rest e i) (next_place child (eqb (mother i) (add-one parent i))) 0
