-- The ways that end at somebody, one after the other, and what they come to. Assumes nothing.
use Rattle.std.proofs.Common.{◌≡◌, ℕ, ◌+◌, ◌*◌, ◌/◌, ◌<◌, ◌≤◌, cond, eqb, min, sum, List, [], ◌∷◌, ◌++◌, map, length, get_or, take, Option, Some, None, filter, sym, refl, ap, ◌∙◌, arith}
use Rattle.std.proofs.lemmas.List.{append_assoc, append-nil, map-append, map_more, take_all}
use Rattle.std.proofs.lemmas.List.Elements.{filter-append}
use Rattle.std.specs.Option.{MatchOption}
use Rattle.std.proofs.lemmas.Option.{MatchOption-at_some, MatchOption-at_none}
use Rattle.std.specs.Fn.{Called}
use Rattle.std.specs.Iterator.{Drains}
use Rattle.std.specs.List.{FoldsTo}
use denote.Param.Members.{Mut}
use Rattle.std.proofs.lemmas.Fn.{fold_over}
use Rattle.std.proofs.lemmas.Iterator.{YieldsList}
use Rattle.std.proofs.lemmas.List.Sums.{sum_by_push, sum_by-cons}
use Rattle.std.proofs.lemmas.Bool.{eq-eqb, ne_eqb, cond-true, cond-false, cond_both}
use Rattle.shares.specs.declared.Part.{Part}
use Rattle.ways.specs.Laws.{way_pieces}
use Rattle.ways.specs.Ways.{Reason, counted}
use Rattle.ways.specs.Rows.{law_way, law_ways}
use Rattle.ways.specs.declared.Way.{Way}
use Rattle.reasons.specs.Estates.{lead_ways}
use Rattle.why.specs.Explained.{LinePart, line_part, ends_at, parts_to}

pub parts_append : (w : ℕ) (xs ys : List Reason) → parts_to w (xs ++ ys) ≡ parts_to w xs ++ parts_to w ys
parts_append w xs ys = ap (map line_part) (filter-append (ends_at w) xs ys) ∙ map-append line_part (filter (ends_at w) xs) (filter (ends_at w) ys)

-- one way: it ends at somebody, or it does not
pub part_here : (w : ℕ) (r : Reason) → r.who ≡ w → parts_to w (r ∷ []) ≡ line_part r ∷ []
part_here w r e = ap (map line_part) (cond-true (ends_at w r) (r ∷ []) [] (eq-eqb r.who w e))

pub part_elsewhere : (w : ℕ) (r : Reason) → (r.who ≡ w → ⊥) → parts_to w (r ∷ []) ≡ []
part_elsewhere w r e = ap (map line_part) (cond-false (ends_at w r) (r ∷ []) [] (ne_eqb r.who w e))

-- the ways so far, and one more
module _ (up : ℕ) (ws : List Way) where
  pub so_far : ℕ → List Reason
  so_far i = map (counted up) (law_ways (take i ws))

  pub so_far_none : so_far 0 ≡ []
  unfolding so_far
  so_far_none = refl

  pub so_far_more : (i : ℕ) (w : Way) → i < length ws → w ≡ get_or ws i w → so_far (i + 1) ≡ so_far i ++ (counted up (law_way w) ∷ [])
  unfolding so_far
  so_far_more i w h e =
      ap (map (counted up)) (map_more law_way ws i w h ∙ ap (λ x. law_ways (take i ws) ++ (law_way x ∷ [])) (sym e))
      ∙ map-append (counted up) (law_ways (take i ws)) (law_way w ∷ [])

  pub so_far_all : (i : ℕ) → length ws ≤ i → so_far i ≡ map (counted up) (law_ways ws)
  unfolding so_far
  so_far_all i h = ap (λ xs. map (counted up) (law_ways xs)) (take_all i ws h)

  pub found_here : (w i : ℕ) (x : Way) (entry before after : List LinePart) → i < length ws → x ≡ get_or ws i x → x.who ≡ w → before ≡ entry ++ parts_to w (so_far i) →
      after ≡ before ++ (line_part (counted up (law_way x)) ∷ []) → after ≡ entry ++ parts_to w (so_far (i + 1))
  found_here w i x entry before after h e here b a =
      a ∙ ap (λ r. r ++ (line_part (counted up (law_way x)) ∷ [])) b
      ∙ append_assoc entry (parts_to w (so_far i)) (line_part (counted up (law_way x)) ∷ [])
      ∙ ap (λ r. entry ++ r)
      (sym
      (ap (parts_to w) (so_far_more i x h e) ∙ parts_append w (so_far i) (counted up (law_way x) ∷ []) ∙ ap (λ r. parts_to w (so_far i) ++ r) (part_here w (counted up (law_way x)) here)))

  pub found_elsewhere : (w i : ℕ) (x : Way) (entry before : List LinePart) → i < length ws → x ≡ get_or ws i x → (x.who ≡ w → ⊥) → before ≡ entry ++ parts_to w (so_far i) →
      before ≡ entry ++ parts_to w (so_far (i + 1))
  found_elsewhere w i x entry before h e other b =
      b
      ∙ ap (λ r. entry ++ r)
      (sym
      (ap (parts_to w) (so_far_more i x h e) ∙ parts_append w (so_far i) (counted up (law_way x) ∷ []) ∙ ap (λ r. parts_to w (so_far i) ++ r) (part_elsewhere w (counted up (law_way x)) other)
      ∙ append-nil (parts_to w (so_far i))))

-- a spouse's part by itself, or none
pub one_piece : (n w : ℕ) (p : Part) → way_pieces n (map (counted 1) (lead_ways (Some p))) w ≡ cond (eqb p.who w) (1 * (n / p.by)) 0
unfolding way_pieces
one_piece n w p = omega arith

pub no_piece : (n w : ℕ) → way_pieces n (map (counted 1) (lead_ways None)) w ≡ 0
unfolding way_pieces
no_piece n w = refl

-- what follows in each case
pub in_each : {A : Type 0} {P P' : Type 0} {Q Q' : A → Type 0} (o : Option A) → (P → P') → ((x : A) → Q x → Q' x) → MatchOption o P Q → MatchOption o P' Q'
in_each None f g h = f h
in_each (Some x) f g h = g x h

pub spouse_piece : (n w : ℕ) (s o : Option Part) (r : ℕ) → MatchOption s (o ≡ None) (λ p. o ≡ cond (eqb p.who w) (Some p) None) → MatchOption o (r ≡ 0) (λ p. r ≡ 1 * (n / p.by)) →
    r ≡ way_pieces n (map (counted 1) (lead_ways s)) w
spouse_piece n w None o r h k = MatchOption-at_none (r ≡ 0) (λ p. r ≡ 1 * (n / p.by)) h k ∙ sym (no_piece n w)
spouse_piece n w (Some p) o r h k =
    cond_both (eqb p.who w) (Some p) None (λ q. o ≡ q → r ≡ way_pieces n (map (counted 1) (lead_ways (Some p))) w)
    (λ t e. MatchOption-at_some (r ≡ 0) (λ p. r ≡ 1 * (n / p.by)) p e k ∙ sym (one_piece n w p ∙ cond-true (eqb p.who w) (1 * (n / p.by)) 0 t))
    (λ t e. MatchOption-at_none (r ≡ 0) (λ p. r ≡ 1 * (n / p.by)) e k ∙ sym (one_piece n w p ∙ cond-false (eqb p.who w) (1 * (n / p.by)) 0 t)) h

-- what is added up, where it fits
abbrev pub Adds : ℕ → List ℕ → ℕ → Type 0
Adds base ks a = base + sum ks < 18446744073709551616 → a ≡ base + sum ks

adds_more : (base : ℕ) (ks : List ℕ) (a k b : ℕ) → Adds base ks a → b ≡ min (a + k) 18446744073709551615 → Adds base (ks ++ (k ∷ [])) b
adds_more base ks a k b h e fits = let more = sum_by_push (λ (x : ℕ). x) ks k in let before = h (omega arith) in omega arith

pub adds_all : {S F : Type 0} {steps : S → Option ℕ → S → Type 0} {s : S} {g : Mut F (ℕ × (ℕ × Unit {0})) ℕ} {f : F} {all : List ℕ} (base r : ℕ) →
    (xs : List ℕ) × (f' : F) × Drains steps s xs × FoldsTo {P = F × ℕ} (λ p x q. Called g p.0 (p.1, (x, tt)) q.1 q.0) (f, base) xs (f', r) → YieldsList steps (λ x. x) s all →
    ((a x b : ℕ) (q : F) → Called g f (a, (x, tt)) b q → (b ≡ min (a + x) 18446744073709551615) × (q ≡ f)) → Adds base all r
adds_all {steps = steps} {s} {g} {f} {all} base r ran yields step =
    fold_over steps (λ x. x) g (Adds base) f (λ ks a x b q h d. let z = step a x b q d in (adds_more base ks a x b h z.0, z.1)) s all base r yields.runs (λ _. omega arith) ran

-- all ways that end at somebody, in pieces
pub all_pieces : (n w up : ℕ) (ws : List Way) → way_pieces n (map (counted up) (law_ways ws)) w ≡ sum (map (λ (x : Way). up * (n / x.by)) (filter (λ (x : Way). eqb x.who w) ws))
unfolding way_pieces
all_pieces n w up [] = refl
all_pieces n w up (x ∷ xs) =
    let k : Way → ℕ = λ y. up * (n / y.by) in
    let rest : List Way = filter (λ (y : Way). eqb y.who w) xs in
    let ih : way_pieces n (map (counted up) (law_ways xs)) w ≡ sum (map k rest) = all_pieces n w up xs in
    cond_both (eqb x.who w) (x ∷ rest) rest (λ zs. cond (eqb x.who w) (k x) 0 + way_pieces n (map (counted up) (law_ways xs)) w ≡ sum (map k zs))
    (λ t. let c = cond-true (eqb x.who w) (k x) 0 t in let more = sum_by-cons (λ (z : ℕ). z) (k x) (map k rest) in omega arith) (λ t. let c = cond-false (eqb x.who w) (k x) 0 t in omega arith)
