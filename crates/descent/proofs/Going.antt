-- Going down, child by child: how many lines live, what parts come of them, and why it stops. Assumes nothing.
use Rattle.std.proofs.Common.{◌≡◌, ℕ, ◌+◌, ◌-◌, ◌*◌, ◌<◌, ◌≤◌, Bool, true, false, cond, ◌≢◌, List, [], ◌∷◌, ◌++◌, length, get_or, take, drop, Some, None, filter, sym, refl, ap, ◌∙◌, subst, inl, inr, ⊎_elim, arith}
use Rattle.std.specs.List.{flat_map, AllByRecursion}
use Rattle.std.proofs.lemmas.List.{append_assoc, append-nil, length-append, take-append-drop, drop_more}
use Rattle.std.proofs.lemmas.List.Elements.{filter_more, filter-append}
use Rattle.std.proofs.ByRecursion.{All-append}
use Rattle.std.proofs.lemmas.Bool.{cases_eq, cond-true, cond-false}
use Rattle.law.specs.Family.{Person, Family, Part, person, is_child, children, line_parts}
use Rattle.law.specs.Calls.{common_multiple}
use Rattle.theory.specs.Families.{Ranked}
use Rattle.theory.specs.Living.{alive, lines_below}
use Rattle.bits.specs.Sets.{no_member}
use Rattle.children.specs.Links.{link_row}
use Rattle.shares.specs.Work.{work_of, no_pieces}
use Rattle.people.specs.Layout.{person_at}
use Rattle.people.proofs.Layouts.{person_laid}
use Rattle.living.specs.Places.{Held}
use Rattle.theory.proofs.Lists.{joined_append}
use Rattle.theory.proofs.Lines.{below_lives}
use Rattle.theory.proofs.Living.{parts_lives, parts_dead}
use Rattle.theory.proofs.Multiples.{line_below}
use Rattle.descent.specs.Going.{with_parts, Small, TooLarge, Gone, Ready, parts_below}

-- one child more: their line lives, or it does not
kept_one : (s : ℕ → Bool) (cs : List ℕ) (i c : ℕ) → i < length cs → get_or cs i 0 ≡ c → filter s (take (i + 1) cs) ≡ filter s (take i cs) ++ cond (s c) (c ∷ []) []
kept_one s cs i c h e = filter_more s cs i 0 h ∙ ap (λ x. filter s (take i cs) ++ cond (s x) (x ∷ []) []) e

pub count_more : (s : ℕ → Bool) (cs : List ℕ) (i c : ℕ) → i < length cs → get_or cs i 0 ≡ c → s c ≡ true → length (filter s (take (i + 1) cs)) ≡ length (filter s (take i cs)) + 1
count_more s cs i c h e yes' =
    ap length (kept_one s cs i c h e ∙ ap (λ r. filter s (take i cs) ++ r) (cond-true (s c) (c ∷ []) [] yes')) ∙ length-append (filter s (take i cs)) (c ∷ [])

pub kept_same : (s : ℕ → Bool) (cs : List ℕ) (i c : ℕ) → i < length cs → get_or cs i 0 ≡ c → s c ≡ false → filter s (take (i + 1) cs) ≡ filter s (take i cs)
kept_same s cs i c h e none = kept_one s cs i c h e ∙ ap (λ r. filter s (take i cs) ++ r) (cond-false (s c) (c ∷ []) [] none) ∙ append-nil (filter s (take i cs))

module _ (f : Family) (b : ℕ) where
  pub below_more : (cs : List ℕ) (i c : ℕ) → i < length cs → get_or cs i 0 ≡ c → alive f c ≡ true → parts_below f b (take (i + 1) cs) ≡ parts_below f b (take i cs) ++ line_parts f (length f) c b
  below_more cs i c h e lives =
      ap (flat_map (λ x. line_parts f (length f) x b)) (kept_one (alive f) cs i c h e ∙ ap (λ r. filter (alive f) (take i cs) ++ r) (cond-true (alive f c) (c ∷ []) [] lives))
      ∙ joined_append (λ x. line_parts f (length f) x b) (filter (alive f) (take i cs)) (c ∷ [])
      ∙ ap (λ r. parts_below f b (take i cs) ++ r) (append-nil (line_parts f (length f) c b))

  pub below_same : (cs : List ℕ) (i c : ℕ) → i < length cs → get_or cs i 0 ≡ c → alive f c ≡ false → parts_below f b (take (i + 1) cs) ≡ parts_below f b (take i cs)
  below_same cs i c h e none = ap (flat_map (λ x. line_parts f (length f) x b)) (kept_same (alive f) cs i c h e none)

  pub below_split :
      (cs : List ℕ) (i c : ℕ) → i < length cs → get_or cs i 0 ≡ c → alive f c ≡ true →
      parts_below f b cs ≡ parts_below f b (take i cs) ++ (line_parts f (length f) c b ++ parts_below f b (drop (i + 1) cs))
  below_split cs i c h e lives =
      let cut : cs ≡ take i cs ++ (c ∷ drop (i + 1) cs) =
      sym (take-append-drop i cs) ∙ ap (λ r. take i cs ++ r) (drop_more cs i 0 h ∙ ap (λ x. x ∷ drop (i + 1) cs) e) in
      ap (λ xs. parts_below f b xs) cut
      ∙ ap (flat_map (λ x. line_parts f (length f) x b)) (filter-append (alive f) (take i cs) (c ∷ drop (i + 1) cs))
      ∙ joined_append (λ x. line_parts f (length f) x b) (filter (alive f) (take i cs)) (filter (alive f) (c ∷ drop (i + 1) cs))
      ∙ ap (λ r. parts_below f b (take i cs) ++ flat_map (λ x. line_parts f (length f) x b) r) (cond-true (alive f c) (c ∷ filter (alive f) (drop (i + 1) cs)) (filter (alive f) (drop (i + 1) cs)) lives)

-- a row within another that is too large
pub large_within : (xs row zs : List Part) → TooLarge row → TooLarge (xs ++ (row ++ zs))
large_within xs row zs large qs rs =
    ap (λ r. common_multiple r 1)
    (ap (λ r. qs ++ r) (append_assoc xs (row ++ zs) rs ∙ ap (λ r. xs ++ r) (append_assoc row zs rs)) ∙ sym (append_assoc qs xs (row ++ (zs ++ rs))))
    ∙ large (qs ++ xs) (zs ++ rs)

-- a line that is divided by too large a number
pub line_too_large :
    {f : Family} {rk : ℕ → ℕ} → Ranked f rk → (p b : ℕ) → (person f p).lives ≡ false → 4294967296 ≤ b * length (filter (alive f) (children f p)) → TooLarge (line_parts f (length f) p b)
line_too_large {f} s p b dead large qs rs =
    ⊎_elim (λ e. e) (λ ne. absurd (too (lines_below f (length f) p) (below_lives f (length f) p) refl ne)) (cases_eq (common_multiple (qs ++ (line_parts f (length f) p b ++ rs)) 1) 0)
  where
    row : List Part
    row = line_parts f (length f) p b

    too : (cs : List ℕ) → AllByRecursion (λ c. alive f c ≡ true) cs → lines_below f (length f) p ≡ cs → common_multiple (qs ++ (line_parts f (length f) p b ++ rs)) 1 ≢ 0 → ⊥
    too [] lives e ne = let z : b * length (filter (alive f) (children f p)) ≡ 0 = ap (λ xs. b * length xs) e ∙ (let w : b * 0 ≡ 0 = omega arith in w) in omega arith
    too (c ∷ cs) lives e ne =
        let k = length (filter (alive f) (children f p)) in
        let g : ℕ → List Part = λ x. line_parts f (length f) x (b * k) in
        let cut : qs ++ (line_parts f (length f) p b ++ rs) ≡ qs ++ (line_parts f (length f) c (b * k) ++ (flat_map g cs ++ rs)) =
        ap (λ r. qs ++ (r ++ rs)) (parts_dead s p b dead ∙ ap (flat_map g) e) ∙ ap (λ r. qs ++ r) (append_assoc (g c) (flat_map g cs) rs) in
        let small = line_below s (length f) c (b * k) qs (flat_map g cs ++ rs) lives.0 (λ z. ne (ap (λ r. common_multiple r 1) cut ∙ z)) in
        omega arith

-- what a line gives, by whether its person lives
pub line_standing : {f : Family} {rk : ℕ → ℕ} → Ranked f rk → (p b : ℕ) → (person f p).lives ≡ true → line_parts f (length f) p b ≡ record { who = p; by = b } ∷ []
line_standing s p b lives = parts_lives s p b lives

-- what is read of a person in memory, and how the line of one who is dead is divided among the children whose lines live
module _ {ws : List ℕ} {n : ℕ} {f : Family} {rk : ℕ → ℕ} {ps : List Part} {spare rest : List ℕ} {steps who count : ℕ} (ready : Ready ws n f rk ps spare rest steps who count) (r : Person)
    (read : r ≡ person_at ws (2 + 4 * who)) where
  abbrev area : List ℕ
  area = work_of n ps no_member no_pieces spare

  pub read_lives : (person f who).lives ≡ r.lives
  read_lives = sym (ap (λ (x : Person). x.lives) (read ∙ person_laid ws n (length f) f (link_row f) (alive f) area rest who ready.words (omega (arith, ready.there, ready.room))))

  pub divided :
      (by each k : ℕ) → r.lives ≡ false → ((m : ℕ) (g : Family) (s : ℕ → Bool) (work others : List ℕ) → Held ws m g s work others → k ≡ length (filter s (children g who))) → each ≡ by * k →
      line_parts f (length f) who by ≡ parts_below f each (children f who)
  divided by each k dead counted e =
      parts_dead ready.ranked who by (read_lives ∙ dead)
      ∙ ap (λ x. parts_below f x (children f who)) (sym (e ∙ ap (λ j. by * j) (counted n f (alive f) area rest (ready.words, ready.room))))

-- a child's line stops: so does the whole
pub stopped_below :
    (n : ℕ) (f : Family) (spare rest : List ℕ) (ps row xs zs : List Part) (whole : List Part) (later : List ℕ) → whole ≡ xs ++ (row ++ zs) →
    Gone n f spare rest (ps ++ xs) row later None → Gone n f spare rest ps whole later None
stopped_below n f spare rest ps row xs zs whole later e g = (
  ⊎_elim
      (λ (h : 4096 < length (ps ++ xs) + length row). inl (omega (arith, ap length e, length-append xs (row ++ zs), length-append row zs, length-append ps xs)))
      (λ h. inr (subst TooLarge (sym e) (large_within xs row zs h))) g.0,
  g.1,
)

-- from a person to a child
pub ready_child :
    (ws mem : List ℕ) (n : ℕ) (f : Family) (rk : ℕ → ℕ) (ps xs : List Part) (spare rest : List ℕ) (steps who count c at : ℕ) → Ready ws n f rk ps spare rest steps who count →
    mem ≡ with_parts n f (ps ++ xs) spare rest → at ≡ length ps + length xs → at ≤ 4096 → (c < length f) × (is_child f who c ≡ true) → (steps ≡ 0 → ⊥) →
    Ready mem n f rk (ps ++ xs) spare rest (steps - 1) c at
ready_child ws mem n f rk ps xs spare rest steps who count c at ready e is few child some =
    let up = ready.ranked.up who c child.1 in
    let enough = ready.enough in
    record {
      words = e;
      parts = length-append ps xs ∙ sym is;
      few = omega (arith, length-append ps xs);
      room = ready.room;
      ranked = ready.ranked;
      there = child.0;
      enough = omega arith;
    }

-- one line more behind the others
pub gone_more :
    (mem : List ℕ) (n : ℕ) (f : Family) (ps xs row ys : List Part) (spare rest : List ℕ) (next : ℕ) → ys ≡ xs ++ row → Gone n f spare rest (ps ++ xs) row mem (Some next) →
    AllByRecursion Small xs → (mem ≡ with_parts n f (ps ++ ys) spare rest) × (next ≡ length ps + length ys) × (next ≤ 4096) × AllByRecursion Small ys
gone_more mem n f ps xs row ys spare rest next e g small =
    let long : length (ps ++ xs) + length row ≡ length ps + length ys = omega (arith, length-append ps xs, ap length e, length-append xs row) in (
      g.2 ∙ ap (λ r. with_parts n f r spare rest) (append_assoc ps xs row ∙ ap (λ r. ps ++ r) (sym e)),
      g.0 ∙ long,
      let few = g.1 in let is = g.0 in omega arith,
      subst (AllByRecursion Small) (sym e) (All-append Small xs row small g.3),
    )
