-- Words of which all parts fit are the memory of a valid family, and the other way round. Assumes nothing.
use Rattle.std.proofs.Common.{◌≡◌, ℕ, zero, suc, ◌+◌, ◌-◌, ◌*◌, ◌/◌, ◌%◌, ◌^◌, ◌<◌, ◌≤◌, Bool, true, false, cond, not, ◌&&◌, eqb, ltb, List, [], ◌∷◌, ◌++◌, length, get_or, drop, replicate, sym, refl, ap, ◌∙◌, subst, ⊎_elim, arith}
use Rattle.std.proofs.lemmas.List.{drop_more, length-replicate, get_or-replicate}
use Rattle.std.proofs.lemmas.Bool.{cases_lt, and_parts, and_from, and_left, leb-true, le-leb, eqb-true, eq-eqb, lt-ltb, le-ltb}
use Rattle.law.specs.Family.{Person, Family, person, nobody, children}
use Rattle.rows.specs.Tables.{table}
use Rattle.rows.proofs.Regions.{region_read}
use Rattle.rows.proofs.Tables.{length-table, get_or-table}
use Rattle.bits.specs.Sets.{bit_row, member_in}
use Rattle.bits.proofs.Sets.{bit_row_same}
use Rattle.theory.specs.Living.{alive}
use Rattle.theory.proofs.Living.{alive_past, alive_law, alive_one_set}
use Rattle.children.specs.Links.{first_of, last_of, behind, link_row}
use Rattle.children.proofs.Children.{children_past}
use Rattle.children.proofs.Links.{links_wide}
use Rattle.people.specs.Layout.{words_asked, work_words, person_words, person_at, person_row, laid, limit_in, count_in, family_in, rest_in, Roomy, Valid, Sound}
use Rattle.people.proofs.Layouts.{length-family, person_found, nobody_past, persons_wide, laid_link, around_work}
use Rattle.people.proofs.Valids.{valid_ranked, valid_there}
use Rattle.living.specs.Marks.{supported}
use Rattle.living.specs.Places.{Held}
use Rattle.inspection.specs.Words.{RowsFit, Zeros, links_at, link_fits, TablesFit, Marked}
use Rattle.inspection.proofs.Parts.{part_table, part_zeros, part_set}

-- who lives, as a word
live_word : (w : ℕ) → w ≤ 1 → w ≡ cond (not (eqb w 0)) 1 0
live_word zero h = refl
live_word (suc w) h = let e : suc w ≡ 1 = omega arith in e ∙ ap (λ k. cond (not (eqb k 0)) 1 0) (sym e)

word_small : (b : Bool) → cond b 1 0 ≤ 1
word_small true = omega arith
word_small false = omega arith

-- the words of nobody
no_person : (j : ℕ) → get_or (person_words nobody) j 0 ≡ 0
no_person zero = refl
no_person (suc zero) = refl
no_person (suc (suc zero)) = refl
no_person (suc (suc (suc zero))) = refl
no_person (suc (suc (suc (suc j)))) = refl

no_link : (f : Family) (p j : ℕ) → Valid f → length f ≤ p → get_or (link_row f p) j 0 ≡ 0
unfolding first_of last_of behind
no_link f p j ok h =
    let none : children f p ≡ [] = children_past f (valid_there f (length f) ok (omega arith)) p h in
    let gone : person f p ≡ nobody = nobody_past f p h in
    (λ i. get_or (first_of (none i) ∷ (last_of (none i) ∷ (behind f (gone i).mother p ∷ (behind f (gone i).father p ∷ [])))) j 0) ∙ zeros j
  where
    zeros : (i : ℕ) → get_or (first_of [] ∷ (last_of [] ∷ (behind f 0 p ∷ (behind f 0 p ∷ [])))) i 0 ≡ 0
    zeros zero = refl
    zeros (suc zero) = refl
    zeros (suc (suc zero)) = refl
    zeros (suc (suc (suc zero))) = refl
    zeros (suc (suc (suc (suc i)))) = refl

-- the four words of a person, and of their links
person_word : (ws : List ℕ) (i j : ℕ) → j < 4 → get_or ws (i + 2) 0 ≤ 1 → get_or ws (i + j) 0 ≡ get_or (person_words (person_at ws i)) j 0
person_word ws i zero h small = let e : i + 0 ≡ i = omega arith in ap (λ k. get_or ws k 0) e
person_word ws i (suc zero) h small = refl
person_word ws i (suc (suc zero)) h small = live_word (get_or ws (i + 2) 0) small
person_word ws i (suc (suc (suc zero))) h small = refl
person_word ws i (suc (suc (suc (suc j)))) h small = absurd (omega arith)

four_parts : (a b c d : Bool) → ((a && b) && (c && d)) ≡ true → (a ≡ true) × (b ≡ true) × (c ≡ true) × (d ≡ true)
four_parts a b c d e =
    let u = and_parts (a && b) (c && d) e in
    let v = and_parts a b u.0 in
    let w = and_parts c d u.1 in (v.0, v.1, w.0, w.1)

link_parts :
    (ws : List ℕ) (p : ℕ) → link_fits ws p ≡ true →
    (get_or ws (links_at ws p) 0 ≡ first_of (children (family_in ws) p)) × (get_or ws (links_at ws p + 1) 0 ≡ last_of (children (family_in ws) p))
    × (get_or ws (links_at ws p + 2) 0 ≡ behind (family_in ws) (person (family_in ws) p).mother p)
    × (get_or ws (links_at ws p + 3) 0 ≡ behind (family_in ws) (person (family_in ws) p).father p)
link_parts ws p e =
    let f = family_in ws in
    let at = links_at ws p in
    let x = get_or ws at 0 in
    let y = get_or ws (at + 1) 0 in
    let z = get_or ws (at + 2) 0 in
    let w = get_or ws (at + 3) 0 in
    let parts =
    four_parts (eqb x (first_of (children f p))) (eqb y (last_of (children f p))) (eqb z (behind f (person f p).mother p)) (eqb w (behind f (person f p).father p)) e in (
      eqb-true x (first_of (children f p)) parts.0,
      eqb-true y (last_of (children f p)) parts.1,
      eqb-true z (behind f (person f p).mother p) parts.2,
      eqb-true w (behind f (person f p).father p) parts.3,
    )

link_word : (ws : List ℕ) (p j : ℕ) → j < 4 → link_fits ws p ≡ true → get_or ws (links_at ws p + j) 0 ≡ get_or (link_row (family_in ws) p) j 0
link_word ws p zero h e = let z : links_at ws p + 0 ≡ links_at ws p = omega arith in ap (λ k. get_or ws k 0) z ∙ (link_parts ws p e).0
link_word ws p (suc zero) h e = (link_parts ws p e).1
link_word ws p (suc (suc zero)) h e = (link_parts ws p e).2
link_word ws p (suc (suc (suc zero))) h e = (link_parts ws p e).3
link_word ws p (suc (suc (suc (suc j)))) h e = absurd (omega arith)

pub valid_rows : (ws : List ℕ) → RowsFit ws → Valid (family_in ws)
valid_rows ws rows p h = (and_parts _ _ (rows p (omega (arith, length-family ws)))).1

-- words of which the tables fit hold the family, with some set
module _ (ws : List ℕ) (room : Roomy ws) (fit : TablesFit ws) where
  abbrev n : ℕ
  n = limit_in ws

  abbrev f : Family
  f = family_in ws

  persons_part : drop 2 ws ≡ table n (person_row f) ++ drop (2 + 4 * n) ws
  persons_part =
      part_table ws n 2 (2 + 4 * n) (person_row f) (persons_wide f) refl (omega arith)
      (λ p j h l.
      ⊎_elim
      (λ (a : p < count_in ws).
      person_word ws (2 + 4 * p) j l (leb-true _ 1 (and_parts _ _ (fit.rows p a)).0) ∙ ap (λ (x : Person). get_or (person_words x) j 0) (sym (person_found ws p a)))
      (λ (a : count_in ws ≤ p).
      fit.no_rows (2 + 4 * p + j) (omega arith) (omega arith) ∙ sym (ap (λ (x : Person). get_or (person_words x) j 0) (nobody_past f p (omega (arith, length-family ws))) ∙ no_person j))
      (cases_lt p (count_in ws)))

  links_part : drop (2 + 4 * n) ws ≡ table n (link_row f) ++ drop (2 + 8 * n) ws
  links_part =
      part_table ws n (2 + 4 * n) (2 + 8 * n) (link_row f) (links_wide f) (omega arith) (omega arith)
      (λ p j h l.
      ⊎_elim (λ (a : p < count_in ws). link_word ws p j l (fit.links p a))
      (λ (a : count_in ws ≤ p).
      fit.no_links (2 + 4 * n + 4 * p + j) (omega arith) (omega arith) ∙ sym (no_link f p j (valid_rows ws fit.rows) (omega (arith, length-family ws))))
      (cases_lt p (count_in ws)))

  work_part : drop (130 + 8 * n) ws ≡ replicate (work_words n) 0 ++ rest_in ws
  work_part = part_zeros ws (work_words n) (130 + 8 * n) (words_asked n) (omega arith) room.0 fit.work

  pub held_from : ((i : ℕ) → get_or ws i 0 < 2 ^ 32) → Held ws n f (member_in ws (2 + 8 * n)) (replicate (work_words n) 0) (rest_in ws)
  unfolding laid
  held_from small =
      let l = length-family ws in
      let bits : drop (2 + 8 * n) ws ≡ bit_row 128 (member_in ws (2 + 8 * n)) ++ drop (130 + 8 * n) ws = part_set ws 128 (2 + 8 * n) (130 + 8 * n) (omega arith) (omega arith) small in
      let tail : drop 2 ws ≡ table n (person_row f) ++ (table n (link_row f) ++ (bit_row 128 (member_in ws (2 + 8 * n)) ++ (replicate (work_words n) 0 ++ rest_in ws))) =
      persons_part ∙ ap (λ r. table n (person_row f) ++ r) (links_part ∙ ap (λ r. table n (link_row f) ++ r) (bits ∙ ap (λ r. bit_row 128 (member_in ws (2 + 8 * n)) ++ r) work_part)) in
      let head : ws ≡ n ∷ (count_in ws ∷ drop 2 ws) = drop_more ws 0 0 (omega arith) ∙ ap (λ r. n ∷ r) (drop_more ws 1 0 (omega arith)) in (
        head ∙ (λ i. n ∷ (sym l i ∷ tail i)),
        omega (arith, room.1),
      )

-- a set in which somebody is exactly if they live or a child is in it is that of the living lines
marked_alive : (f : Family) (s : ℕ → Bool) → Valid f → length f ≤ 4096 → Marked f s → (p : ℕ) → p < 4096 → s p ≡ alive f p
marked_alive f s ok few right p h =
    ⊎_elim
    (λ (a : p < length f).
    alive_one_set (valid_ranked f ok) s (λ q l. right q (omega arith) ∙ ap (λ b. b && supported f s q) (lt-ltb q (length f) l)) p a)
    (λ (a : length f ≤ p).
    right p h ∙ and_left (ltb p (length f)) (supported f s p) (le-ltb p (length f) a) ∙ sym (alive_past (valid_ranked f ok) p a))
    (cases_lt p (length f))

pub alive_marked : (f : Family) → Valid f → Marked f (alive f)
alive_marked f ok p h =
    ⊎_elim
    (λ (a : p < length f).
    alive_law (valid_ranked f ok) p ∙ ap (λ b. b && supported f (alive f) p) (sym (lt-ltb p (length f) a)))
    (λ (a : length f ≤ p).
    alive_past (valid_ranked f ok) p a ∙ sym (and_left (ltb p (length f)) (supported f (alive f) p) (le-ltb p (length f) a)))
    (cases_lt p (length f))

pub sound_from : (ws : List ℕ) (s : ℕ → Bool) → Roomy ws → RowsFit ws → Held ws (limit_in ws) (family_in ws) s (replicate (work_words (limit_in ws)) 0) (rest_in ws)
    → Marked (family_in ws) s → Sound ws
unfolding laid
sound_from ws s room rows held right =
    let n = limit_in ws in
    let f = family_in ws in
    let ok = valid_rows ws rows in
    let few : length f ≤ 4096 = omega (arith, length-family ws) in (
      held.0
          ∙ ap (λ r. n ∷ (length f ∷ (table n (person_row f) ++ (table n (link_row f) ++ (r ++ (replicate (work_words n) 0 ++ rest_in ws))))))
          (bit_row_same 128 s (alive f) (λ p h. marked_alive f s ok few right p (omega arith))),
      room,
      ok,
    )

-- the words of a family
module _ (ws : List ℕ) (ok : Sound ws) where
  sound_word : (p j : ℕ) → p < limit_in ws → j < 4 → get_or ws (2 + 4 * p + j) 0 ≡ get_or (person_row (family_in ws) p) j 0
  unfolding laid
  sound_word p j h l =
      let n = limit_in ws in
      let f = family_in ws in
      let back = table n (link_row f) ++ (bit_row 128 (alive f) ++ (replicate (work_words n) 0 ++ rest_in ws)) in
      let e : 2 + 4 * p + j ≡ 2 + (4 * p + j) = omega arith in
      ap (λ k. get_or ws k 0) e ∙ ap (λ r. get_or r (2 + (4 * p + j)) 0) ok.0
      ∙ region_read (n ∷ (length f ∷ [])) (table n (person_row f)) back 0 2 (4 * p + j) refl (omega (arith, length-table 4 n (person_row f) (persons_wide f)))
      ∙ get_or-table 4 n (person_row f) p j (persons_wide f) h l

  sound_link : (p j : ℕ) → p < limit_in ws → j < 4 → get_or ws (2 + 4 * limit_in ws + 4 * p + j) 0 ≡ get_or (link_row (family_in ws) p) j 0
  sound_link p j h l =
      let n = limit_in ws in
      let f = family_in ws in
      let e : 2 + 4 * n + 4 * p + j ≡ 2 + 4 * n + (4 * p + j) = omega arith in
      ap (λ k. get_or ws k 0) e ∙ ap (λ r. get_or r (2 + 4 * n + (4 * p + j)) 0) ok.0
      ∙ laid_link n (length f) (person_row f) (link_row f) (alive f) (replicate (work_words n) 0) (rest_in ws) p j (persons_wide f) (links_wide f) h l

  sound_work : Zeros ws (130 + 8 * limit_in ws) (24576 + 16 * limit_in ws)
  sound_work i h l =
      let n = limit_in ws in
      let f = family_in ws in
      let around = around_work n (length f) (person_row f) (link_row f) (alive f) (rest_in ws) (persons_wide f) (links_wide f) in
      let e : i ≡ 130 + 8 * n + (i - (130 + 8 * n)) = omega arith in
      let w = length-replicate {A = ℕ} (work_words n) 0 in
      ap (λ k. get_or ws k 0) e ∙ ap (λ r. get_or r (130 + 8 * n + (i - (130 + 8 * n))) 0) (ok.0 ∙ around.2 (replicate (work_words n) 0))
      ∙ region_read around.0 (replicate (work_words n) 0) (rest_in ws) 0 (130 + 8 * n) (i - (130 + 8 * n)) around.1 (omega arith)
      ∙ get_or-replicate (work_words n) (i - (130 + 8 * n)) 0 0 (omega arith)

  small_life : (p : ℕ) → p < count_in ws → get_or ws (2 + 4 * p + 2) 0 ≤ 1
  small_life p h = subst (λ x. x ≤ 1) (sym (sound_word p 2 (omega (arith, ok.1.1)) (omega arith))) (word_small (person (family_in ws) p).lives)

  -- words of nobody, by the person whose they would be
  past : (row : ℕ → List ℕ) (a : ℕ) → ((p j : ℕ) → p < limit_in ws → j < 4 → get_or ws (a + 4 * p + j) 0 ≡ get_or (row p) j 0) → ((p j : ℕ) → count_in ws ≤ p → get_or (row p) j 0 ≡ 0)
      → Zeros ws (a + 4 * count_in ws) (a + 4 * limit_in ws)
  past row a at none i h l =
      let e : i ≡ a + 4 * ((i - a) / 4) + (i - a) % 4 = omega arith in
      ap (λ k. get_or ws k 0) e ∙ at ((i - a) / 4) ((i - a) % 4) (omega arith) (omega arith) ∙ none ((i - a) / 4) ((i - a) % 4) (omega arith)

  pub sound_tables : TablesFit ws
  sound_tables =
      let f = family_in ws in
      let l = length-family ws in
      let end : 2 + 4 * limit_in ws + 4 * limit_in ws ≡ 2 + 8 * limit_in ws = omega arith in
      record {
        rows = λ p h. and_from _ _ (le-leb (get_or ws (2 + 4 * p + 2) 0) 1 (small_life p h)) (ok.2 p (omega arith));
        no_rows = past (person_row f) 2 sound_word (λ p j h. ap (λ (x : Person). get_or (person_words x) j 0) (nobody_past f p (omega arith)) ∙ no_person j);
        links = λ p h.
            let q : p < limit_in ws = omega (arith, ok.1.1) in
            let z : links_at ws p ≡ links_at ws p + 0 = omega arith in
            and_from _ _
            (and_from _ _ (eq-eqb (get_or ws (links_at ws p) 0) (first_of (children f p)) (ap (λ k. get_or ws k 0) z ∙ sound_link p 0 q (omega arith)))
            (eq-eqb (get_or ws (links_at ws p + 1) 0) (last_of (children f p)) (sound_link p 1 q (omega arith))))
            (and_from _ _ (eq-eqb (get_or ws (links_at ws p + 2) 0) (behind f (person f p).mother p) (sound_link p 2 q (omega arith)))
            (eq-eqb (get_or ws (links_at ws p + 3) 0) (behind f (person f p).father p) (sound_link p 3 q (omega arith))));
        no_links = λ i h u. past (link_row f) (2 + 4 * limit_in ws) sound_link (λ p j g. no_link f p j ok.2 (omega arith)) i h (omega arith);
        work = sound_work;
      }

  pub sound_held : Held ws (limit_in ws) (family_in ws) (alive (family_in ws)) (replicate (work_words (limit_in ws)) 0) (rest_in ws)
  sound_held = (ok.0, omega (arith, length-family ws, ok.1.1))
