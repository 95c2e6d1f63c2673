-- Shares that are written heir by heir, from the pieces of each. Assumes nothing.
use Rattle.std.proofs.Common.{◌≡◌, ℕ, ◌+◌, ◌-◌, ◌*◌, ◌<◌, ◌≤◌, false, cond, ltb, List, [], ◌∷◌, ◌++◌, map, length, get_or, set, Some, None, sym, refl, ap, ◌∙◌, inl, inr, arith}
use Rattle.std.specs.List.{range_with_len, flat_map, slice_get}
use Rattle.std.proofs.lemmas.Bool.{cases_eq, cases_lt, eq-eqb, le-ltb, lt-ltb, ltb-false, ne_eqb}
use Rattle.law.specs.Family.{Part}
use Rattle.law.specs.Calls.{Share, shares}
use Rattle.rows.specs.Written.{written}
use Rattle.rows.proofs.Written.{written_append, written_none}
use Rattle.bits.specs.Sets.{bit_row, members, no_member}
use Rattle.bits.proofs.Members.{First, first_member, members_none, no_members}
use Rattle.theory.specs.Shares.{lowest_share, shares_from}
use Rattle.wire.specs.Bytes.{le4, row_bytes, share_bytes, answer_bytes, shares_begun}
use Rattle.wire.proofs.Bytes.{length-begun, length-share}
use Rattle.shares.specs.Work.{work_of, has_pieces, divided, no_pieces}
use Rattle.shares.proofs.Work.{heirs_among, parts_area, pieces_read, pieces_set, with_pieces}

-- a front that is written after what lies behind it
written_later : (front behind xs : List ℕ) → written 0 front (written (length front) behind xs) ≡ written 0 (front ++ behind) xs
unfolding written
written_later [] behind xs = written_none 0 (written 0 behind xs)
written_later (y ∷ front) behind [] = refl
written_later (y ∷ front) behind (x ∷ xs) = ap (λ r. y ∷ r) (written_later front behind xs)

begun_whole : (k : ℕ) (ss : List Share) → shares_begun k [] ++ flat_map share_bytes ss ≡ shares_begun k ss
unfolding row_bytes le4
begun_whole k ss = refl

-- the pieces of those from a number on, where those before have been read
abbrev pub pieces_left : (ℕ → ℕ) → ℕ → ℕ → ℕ
pieces_left g from w = cond (ltb w from) 0 (g w)

pub none_read : (g : ℕ → ℕ) → pieces_left g 0 ≡ g
none_read g = λ j w. same w j
  where
    same : (w : ℕ) → pieces_left g 0 w ≡ g w
    same w = rw (le-ltb w 0 (omega arith))

left_here : (g : ℕ → ℕ) (from who : ℕ) → from ≤ who → pieces_left g from who ≡ g who
left_here g from who h = rw (le-ltb who from h)

no_heir : (g : ℕ → ℕ) (w : ℕ) → has_pieces g w ≡ false → g w ≡ 0
no_heir g w e = let l = ltb-false 0 (g w) e in omega arith

left_after : (g : ℕ → ℕ) (from end who : ℕ) → First (has_pieces g) from end who → with_pieces (pieces_left g from) who 0 ≡ pieces_left g (who + 1)
left_after g from end who f = λ j w. same w j
  where
    same : (w : ℕ) → with_pieces (pieces_left g from) who 0 w ≡ pieces_left g (who + 1) w
    same w =
        elim (cases_lt w from) [
          | inl l ↦
              let a = f.above in
              rw (lt-ltb w from l, lt-ltb w (who + 1) (omega arith), ne_eqb w who (λ e. omega arith))
          | inr l ↦
              elim (cases_lt w who) [
                | inl b ↦ rw (le-ltb w from l, lt-ltb w (who + 1) (omega arith), ne_eqb w who (λ e. omega arith)) (no_heir g w (f.before w l b))
                | inr b ↦
                    elim (cases_eq w who) [
                      | inl e ↦ rw (eq-eqb w who e, lt-ltb w (who + 1) (omega arith))
                      | inr ne ↦ rw (le-ltb w from l, ne_eqb w who ne, le-ltb w (who + 1) (omega arith))
                    ]
              ]
        ]

left_none : (g : ℕ → ℕ) (from end : ℕ) → members (has_pieces g) from end ≡ [] → ((w : ℕ) → end ≤ w → g w ≡ 0) → pieces_left g from ≡ no_pieces
left_none g from end e past = λ j w. same w j
  where
    same : (w : ℕ) → pieces_left g from w ≡ 0
    same w =
        elim (cases_lt w from) [
          | inl l ↦ rw (lt-ltb w from l)
          | inr l ↦
              elim (cases_lt w end) [
                | inl b ↦ rw (le-ltb w from l) (no_heir g w (no_members (has_pieces g) from end e w l b))
                | inr b ↦ rw (le-ltb w from l) (past w b)
              ]
        ]

-- the shares of the heirs from a number on
abbrev pub shares_left : ℕ → (ℕ → ℕ) → ℕ → ℕ → List Share
shares_left n g from end = shares_from n g from (end - from)

by_heirs : (n : ℕ) (g : ℕ → ℕ) (from end : ℕ) → shares_left n g from end ≡ map (λ w. lowest_share n (g w) w) (members (has_pieces g) from end)
unfolding members
by_heirs n g from end = refl

next_share : (n : ℕ) (g : ℕ → ℕ) (from end who : ℕ) → First (has_pieces g) from end who → shares_left n g from end ≡ lowest_share n (g who) who ∷ shares_left n g (who + 1) end
next_share n g from end who f =
    by_heirs n g from end ∙ ap (map (λ w. lowest_share n (g w) w)) f.rest ∙ ap (λ r. lowest_share n (g who) who ∷ r) (sym (by_heirs n g (who + 1) end))

no_share : (n : ℕ) (g : ℕ → ℕ) (from end : ℕ) → members (has_pieces g) from end ≡ [] → shares_left n g from end ≡ []
no_share n g from end e = by_heirs n g from end ∙ ap (map (λ w. lowest_share n (g w) w)) e

-- What is left of the work and of the answer, from an heir on: the pieces of those before are read, and their shares written.
pub record Writing (m : ℕ) (ps : List Part) (g : ℕ → ℕ) (rest : List ℕ) (whole persons : ℕ) (before : List ℕ) (count from : ℕ) (work answer : List ℕ) : Type 0 where
  pub words : work ≡ work_of m ps (has_pieces g) (pieces_left g from) rest
  pub bytes : written (5 + 20 * count) (flat_map share_bytes (shares_left whole g from persons)) answer ≡ written 5 (flat_map share_bytes (shares_from whole g 0 persons)) before
  pub many : count + length (shares_left whole g from persons) ≡ length (shares_from whole g 0 persons)

module _ (m : ℕ) (ps : List Part) (g : ℕ → ℕ) (rest : List ℕ) (whole persons : ℕ) (before : List ℕ) where
  pub writing_begins : (work : List ℕ) → work ≡ divided m ps g rest → Writing m ps g rest whole persons before 0 0 work before
  writing_begins work held =
      let all : persons - 0 ≡ persons = omega arith in
      record {
        words = held ∙ ap (λ f. work_of m ps (has_pieces g) f rest) (sym (none_read g));
        bytes = ap (λ k. written 5 (flat_map share_bytes (shares_from whole g 0 k)) before) all;
        many = ap (λ k. 0 + length (shares_from whole g 0 k)) all ∙ omega arith;
      }

  -- the words that the set of heirs lies among
  pub writing_heirs : (count from : ℕ) (work answer : List ℕ) → Writing m ps g rest whole persons before count from work answer
      → work ≡ parts_area ps ++ (bit_row 128 (has_pieces g) ++ (map (pieces_left g from) (range_with_len 0 m) ++ rest))
  writing_heirs count from work answer o = o.words ∙ heirs_among m ps (has_pieces g) (pieces_left g from) rest

  -- one heir more
  pub writing_on :
      length ps ≤ 4096 → persons ≤ m → (count from who : ℕ) (work answer after : List ℕ) (s : Share) → Writing m ps g rest whole persons before count from work answer →
      Some who ≡ slice_get (members (has_pieces g) from persons) 0 → s ≡ lowest_share whole (get_or work (8320 + who) 0) who → after ≡ written (5 + 20 * count) (share_bytes s) answer →
      Writing m ps g rest whole persons before (count + 1) (who + 1) (set work (8320 + who) 0) after
  writing_on few within count from who work answer after s o e is now =
      let f = first_member (has_pieces g) from persons who e in
      let here : who < m = let b = f.below in omega arith in
      let read : get_or work (8320 + who) 0 ≡ g who =
      ap (λ ws. get_or ws (8320 + who) 0) o.words ∙ pieces_read m ps (has_pieces g) (pieces_left g from) rest who few here ∙ left_here g from who f.above in
      let share : s ≡ lowest_share whole (g who) who = is ∙ ap (λ k. lowest_share whole k who) read in
      let others = flat_map share_bytes (shares_left whole g (who + 1) persons) in
      let list = next_share whole g from persons who f in
      let place : 5 + 20 * (count + 1) ≡ 5 + 20 * count + length (share_bytes s) = omega (arith, length-share s) in
      record {
        words =
            ap (λ ws. set ws (8320 + who) 0) o.words
            ∙ pieces_set m ps (has_pieces g) (pieces_left g from) rest who 0 few here
            ∙ ap (λ h. work_of m ps (has_pieces g) h rest) (left_after g from persons who f);
        bytes =
            (λ j. written (place j) others (now j))
            ∙ written_append (5 + 20 * count) (share_bytes s) others answer
            ∙ ap (λ t. written (5 + 20 * count) (share_bytes t ++ others) answer) share
            ∙ ap (λ ss. written (5 + 20 * count) (flat_map share_bytes ss) answer) (sym list)
            ∙ o.bytes;
        many = let n = o.many in let l = ap length list in omega arith;
      }

  -- after the last heir
  module _ (count from : ℕ) (work answer : List ℕ) (o : Writing m ps g rest whole persons before count from work answer) (e : None ≡ slice_get (members (has_pieces g) from persons) 0) where
    abbrev none_left : shares_left whole g from persons ≡ []
    none_left = no_share whole g from persons (members_none (has_pieces g) from persons e)

    pub writing_many : count ≡ length (shares_from whole g 0 persons)
    writing_many = let n = o.many in let l = ap length none_left in omega arith

    pub writing_bytes : written 0 (shares_begun count []) answer ≡ written 0 (answer_bytes (shares (shares_from whole g 0 persons))) before
    writing_bytes =
        let all = shares_from whole g 0 persons in
        let bytes : answer ≡ written 5 (flat_map share_bytes all) before =
        sym (written_none (5 + 20 * count) answer) ∙ ap (λ ss. written (5 + 20 * count) (flat_map share_bytes ss) answer) (sym none_left) ∙ o.bytes in
        ap (written 0 (shares_begun count [])) bytes
        ∙ ap (λ k. written 0 (shares_begun count []) (written k (flat_map share_bytes all) before)) (sym (length-begun count []))
        ∙ written_later (shares_begun count []) (flat_map share_bytes all) before
        ∙ ap (λ r. written 0 r before) (begun_whole count all)
        ∙ ap (λ k. written 0 (shares_begun k all) before) writing_many

    pub writing_words : (after : List ℕ) → ((w : ℕ) → persons ≤ w → g w ≡ 0) → after ≡ parts_area ps ++ (bit_row 128 no_member ++ (map (pieces_left g from) (range_with_len 0 m) ++ rest))
        → after ≡ divided m ps no_pieces rest
    writing_words after past cleared =
        cleared ∙ sym (heirs_among m ps no_member (pieces_left g from) rest)
        ∙ ap (λ f. work_of m ps no_member f rest) (left_none g from persons (members_none (has_pieces g) from persons e) past)
