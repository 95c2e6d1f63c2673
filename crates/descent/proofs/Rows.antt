-- Rows of parts in the work area of memory. Assumes nothing.
use Rattle.std.proofs.Common.{◌≡◌, ℕ, ◌+◌, ◌-◌, ◌*◌, ◌<◌, ◌≤◌, Bool, List, [], ◌∷◌, ◌++◌, map, length, take, drop, replicate, sym, ap, ◌∙◌, arith}
use Rattle.std.specs.List.{range_with_len}
use borrow.Rule.Slice.PartMut.{put_mid}
use Rattle.std.proofs.lemmas.List.{replicate-append-replicate, length-replicate, length-append}
use Rattle.law.specs.Family.{Family, Part}
use Rattle.rows.specs.Written.{written}
use Rattle.rows.proofs.Written.{rest_written, written_whole}
use Rattle.rows.proofs.Regions.{region_write, written_before}
use Rattle.theory.specs.Living.{alive}
use Rattle.bits.specs.Sets.{no_member, bit_row}
use Rattle.children.specs.Links.{link_row}
use Rattle.shares.specs.Work.{part_words, parts_words, work_of, no_pieces}
use Rattle.shares.proofs.Work.{length-parts, length-work, parts_written, work_none}
use Rattle.people.specs.Layout.{work_words, person_row, working, image}
use Rattle.children.proofs.Links.{links_wide}
use Rattle.people.proofs.Layouts.{persons_wide, around_work}
use Rattle.descent.specs.Going.{with_parts}

-- the words that the shares' layer does not use
abbrev pub spare_words : ℕ → List ℕ
spare_words n = replicate (16126 + 7 * n) 0

-- a write to the work area, handed on as the rest of memory
pub work_written :
    (ws part ys : List ℕ) (at many i : ℕ) → at + many ≡ length ws → part ≡ written i ys (take many (drop at ws)) → put_mid at many ws part ≡ written (at + i) ys ws
work_written ws part ys at many i all e = ap (put_mid at many ws) e ∙ rest_written at many i ys ws all

-- one part more
pub part_put :
    (ws : List ℕ) (n : ℕ) (f : Family) (ps : List Part) (spare rest : List ℕ) (q : Part) (at k : ℕ) → ws ≡ with_parts n f ps spare rest → at ≡ 130 + 8 * n → k ≡ length ps → length ps < 4096 →
    written (at + 2 * k) (part_words q) ws ≡ with_parts n f (ps ++ (q ∷ [])) spare rest
part_put ws n f ps spare rest q at k e begins count few =
    let around = around_work n (length f) (person_row f) (link_row f) (alive f) rest (persons_wide f) (links_wide f) in
    let work = work_of n ps no_member no_pieces spare in
    let long = length-work n ps no_member no_pieces spare (omega arith) in
    (λ i. written (at + 2 * count i) (part_words q) ((e ∙ around.2 work) i))
    ∙ region_write around.0 work rest (part_words q) at (2 * length ps) (omega (arith, around.1)) (omega arith)
    ∙ ap (λ r. around.0 ++ (r ++ rest)) (parts_written n ps (q ∷ []) no_member no_pieces spare (omega arith)) ∙ sym (around.2 (work_of n (ps ++ (q ∷ [])) no_member no_pieces spare))

-- all parts' words cleared, whichever parts there were
area_cleared : (m : ℕ) (ps : List Part) (s : ℕ → Bool) (g : ℕ → ℕ) (spare : List ℕ) → length ps ≤ 4096 → written 0 (replicate 8192 0) (work_of m ps s g spare) ≡ work_of m [] s g spare
unfolding work_of
area_cleared m ps s g spare few =
    let area = parts_words ps ++ replicate (8192 - 2 * length ps) 0 in
    let long : length area ≡ 8192 = length-append (parts_words ps) (replicate (8192 - 2 * length ps) 0) ∙ omega (arith, length-parts ps, length-replicate {A = ℕ} (8192 - 2 * length ps) 0) in
    let zeros = length-replicate {A = ℕ} 8192 0 in
    written_before area (bit_row 128 s ++ (map g (range_with_len 0 m) ++ spare)) (replicate 8192 0) 0 (omega arith)
    ∙ ap (λ r. r ++ (bit_row 128 s ++ (map g (range_with_len 0 m) ++ spare))) (written_whole (replicate 8192 0) area (zeros ∙ sym long))

pub rows_cleared :
    (ws : List ℕ) (n : ℕ) (f : Family) (ps : List Part) (spare rest : List ℕ) (at : ℕ) → ws ≡ with_parts n f ps spare rest → at ≡ 130 + 8 * n → length ps ≤ 4096 →
    written at (replicate 8192 0) ws ≡ with_parts n f [] spare rest
rows_cleared ws n f ps spare rest at e begins few =
    let around = around_work n (length f) (person_row f) (link_row f) (alive f) rest (persons_wide f) (links_wide f) in
    let work = work_of n ps no_member no_pieces spare in
    let long = length-work n ps no_member no_pieces spare few in
    let zeros = length-replicate {A = ℕ} 8192 0 in
    let start : at ≡ at + 0 = omega arith in
    (λ i. written (start i) (replicate 8192 0) ((e ∙ around.2 work) i))
    ∙ region_write around.0 work rest (replicate 8192 0) at 0 (omega (arith, around.1)) (omega arith)
    ∙ ap (λ r. around.0 ++ (r ++ rest)) (area_cleared n ps no_member no_pieces spare few) ∙ sym (around.2 (work_of n [] no_member no_pieces spare))

-- between calls there are no parts
pub no_parts : (n : ℕ) (f : Family) (rest : List ℕ) → image n f rest ≡ with_parts n f [] (spare_words n) rest
no_parts n f rest =
    let e : 8320 + n + (16126 + 7 * n) ≡ work_words n = omega arith in
    ap (λ w. working n f w rest) (sym (work_none n (spare_words n) ∙ replicate-append-replicate (8320 + n) (16126 + 7 * n) 0 ∙ ap (λ k. replicate k 0) e))
