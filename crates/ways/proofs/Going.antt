-- Going down lines: what one more line gives, and why going down stops. Assumes nothing.
use Rattle.std.proofs.Common.{◌≡◌, ℕ, zero, suc, ◌+◌, ◌-◌, ◌*◌, ◌<◌, ◌≤◌, Bool, true, false, cond, ◌≢◌, List, [], ◌∷◌, ◌++◌, map, length, get_or, take, drop, filter, sym, refl, ap, ◌∙◌, subst, inl, inr, ⊎_elim, Ok, Err, Result, IsErrAnd, MatchResult, arith}
use Rattle.std.specs.List.{flat_map, AllByRecursion}
use Rattle.std.proofs.lemmas.List.{append_assoc, append-nil, length-append, take_more, take-append-drop, drop_more, map-append}
use Rattle.std.proofs.lemmas.Bool.{cases_eq, both_ways, and_cases, not-false, eqb-true, or_cases, cond-true, cond-false}
use Rattle.law.specs.Family.{Family, Part, person, is_child, children, some_of, line_lives, living_lines, line_parts_in, line_parts}
use Rattle.law.specs.Calls.{common_multiple}
use Rattle.theory.specs.Families.{Ranked}
use Rattle.theory.specs.Living.{lines_below}
use Rattle.theory.proofs.Lists.{joined_append, joined_cong, all_both, all_any, kept_cong}
use Rattle.theory.proofs.Families.{child_there}
use Rattle.theory.proofs.Children.{child_of_some}
use Rattle.theory.proofs.Lines.{decedent_line, line_lives_other, below_child, below_lives, parts_enough, parts_divided}
use Rattle.theory.proofs.Multiples.{line_below}
use Rattle.descent.specs.Going.{TooLarge}
use Rattle.descent.proofs.Going.{large_within}
use Rattle.ways.specs.Ways.{Way, way_part, stands, line_ways_in}
use Rattle.ways.specs.Going.{ways_below, Enough, Beyond, Marks, ByLimit}
use Rattle.ways.specs.declared.WaysError.{WaysError}
use Rattle.ways.specs.declared.WaysError.TheVariants.{BeyondLimit, NoMemory}

pub map-joined : {X A B : Type 0} (g : A → B) (h : X → List A) (xs : List X) → map g (flat_map h xs) ≡ flat_map (λ x. map g (h x)) xs
map-joined g h [] = refl
map-joined g h (x ∷ xs) = map-append g (h x) (flat_map h xs) ∙ ap (λ ys. map g (h x) ++ ys) (map-joined g h xs)

-- without the persons on the way, the ways of a line are its parts
pub ways_forget : (n : ℕ) (f : Family) (d : ℕ) (xs : List ℕ) (p b : ℕ) → map way_part (line_ways_in n f d xs p b) ≡ line_parts_in n f d p b
unfolding line_ways_in line_parts_in
ways_forget zero f d xs p b = refl
ways_forget (suc n) f d xs p b = go (stands f d p) (below (λ c k. ways_forget n f d (xs ++ (c ∷ [])) c k) (living_lines f d (children f p)))
  where
    each : ℕ
    each = b * length (living_lines f d (children f p))

    below : ((c k : ℕ) → map way_part (line_ways_in n f d (xs ++ (c ∷ [])) c k) ≡ line_parts_in n f d c k) → (cs : List ℕ) →
        map way_part (flat_map (λ c. line_ways_in n f d (xs ++ (c ∷ [])) c each) cs) ≡ flat_map (λ c. line_parts_in n f d c each) cs
    below h cs =
        map-joined way_part (λ c. line_ways_in n f d (xs ++ (c ∷ [])) c each) cs
        ∙ joined_cong (λ c. map way_part (line_ways_in n f d (xs ++ (c ∷ [])) c each)) (λ c. line_parts_in n f d c each) cs
        (all_any (λ c. map way_part (line_ways_in n f d (xs ++ (c ∷ [])) c each) ≡ line_parts_in n f d c each) (λ c. h c each) cs)

    go : (t : Bool) →
        map way_part (flat_map (λ c. line_ways_in n f d (xs ++ (c ∷ [])) c each) (living_lines f d (children f p))) ≡ flat_map (λ c. line_parts_in n f d c each) (living_lines f d (children f p)) →
        map way_part (cond t (record { line = xs; who = p; by = b } ∷ []) (flat_map (λ c. line_ways_in n f d (xs ++ (c ∷ [])) c each) (living_lines f d (children f p))))
        ≡ cond t (record { who = p; by = b } ∷ []) (flat_map (λ c. line_parts_in n f d c each) (living_lines f d (children f p)))
    go true h = refl
    go false h = h

module _ (f : Family) (d : ℕ) where
  -- who stands for the line; who does not
  pub way_standing : (n : ℕ) (ys : List ℕ) (p b : ℕ) → stands f d p ≡ true → line_ways_in (suc n) f d ys p b ≡ record { line = ys; who = p; by = b } ∷ []
  unfolding line_ways_in
  way_standing n ys p b e = cond-true (stands f d p) (record { line = ys; who = p; by = b } ∷ []) _ e

  -- those of some persons whose lines live, by a row
  pub kept_lines : (s : ℕ → Bool) (ps : List ℕ) → Marks f d s → filter s ps ≡ living_lines f d ps
  kept_lines s ps right = kept_cong s (line_lives f d) ps (all_any (λ p. s p ≡ line_lives f d p) right ps)

  pub way_divided : (n : ℕ) (s : ℕ → Bool) (ys cs : List ℕ) (p b each : ℕ) → Marks f d s → cs ≡ filter s (children f p) → stands f d p ≡ false → each ≡ b * length cs → 0 < n →
      line_ways_in (suc n) f d ys p b ≡ ways_below (n - 1) f d ys cs each
  unfolding line_ways_in
  way_divided n s ys cs p b each right e dead k some =
      let same : living_lines f d (children f p) ≡ cs = sym (kept_lines s (children f p) right) ∙ sym e in
      let up : suc (n - 1) ≡ n = omega arith in
      cond-false (stands f d p) (record { line = ys; who = p; by = b } ∷ []) _ dead
      ∙ ap (λ (zs : List ℕ). flat_map (λ c. line_ways_in n f d (ys ++ (c ∷ [])) c (b * length zs)) zs) same
      ∙ ap (λ (z : ℕ). flat_map (λ c. line_ways_in n f d (ys ++ (c ∷ [])) c z) cs) (sym k)
      ∙ ap (λ (z : ℕ). flat_map (λ c. line_ways_in z f d (ys ++ (c ∷ [])) c each) cs) (sym up)

  module _ (n : ℕ) (xs : List ℕ) (b : ℕ) where
    abbrev one_line : ℕ → List Way
    one_line p = line_ways_in (suc n) f d (xs ++ (p ∷ [])) p b

    -- one line more, and the lines before and after one
    pub below_more : (ps : List ℕ) (i p : ℕ) → i < length ps → get_or ps i 0 ≡ p → ways_below n f d xs (take (i + 1) ps) b ≡ ways_below n f d xs (take i ps) b ++ one_line p
    below_more ps i p h e =
        ap (flat_map one_line) (take_more ps i 0 h ∙ ap (λ x. take i ps ++ (x ∷ [])) e)
        ∙ joined_append one_line (take i ps) (p ∷ [])
        ∙ ap (λ r. ways_below n f d xs (take i ps) b ++ r) (append-nil (one_line p))

    below_split : (ps : List ℕ) (i p : ℕ) → i < length ps → get_or ps i 0 ≡ p →
        ways_below n f d xs ps b ≡ ways_below n f d xs (take i ps) b ++ (one_line p ++ ways_below n f d xs (drop (i + 1) ps) b)
    below_split ps i p h e =
        ap (flat_map one_line) (sym (take-append-drop i ps) ∙ ap (λ r. take i ps ++ r) (drop_more ps i 0 h ∙ ap (λ x. x ∷ drop (i + 1) ps) e))
        ∙ joined_append one_line (take i ps) (p ∷ drop (i + 1) ps)

    -- one line is beyond the limits, behind those before it: so are all
    pub stopped_at : (ps : List ℕ) (i : ℕ) (before mid : List Way) → i < length ps → mid ≡ before ++ ways_below n f d xs (take i ps) b →
        Beyond mid (one_line (get_or ps i 0)) → Beyond before (ways_below n f d xs ps b)
    stopped_at ps i before mid h e stop =
        let p = get_or ps i 0 in
        let front = ways_below n f d xs (take i ps) b in
        let back = ways_below n f d xs (drop (i + 1) ps) b in
        let cut = below_split ps i p h refl in
        ⊎_elim
        (λ (m : 4096 < length mid + length (one_line p)).
        inl (omega (arith, ap length e, ap length cut, length-append front (one_line p ++ back), length-append (one_line p) back, length-append before front)))
        (λ (m : TooLarge (map way_part (one_line p))).
        inr
        (subst TooLarge
        (sym (ap (map way_part) cut ∙ map-append way_part front (one_line p ++ back) ∙ ap (λ r. map way_part front ++ r) (map-append way_part (one_line p) back)))
        (large_within (map way_part front) (map way_part (one_line p)) (map way_part back) m)))
        stop

  -- a living line that its person does not stand for has a child whose line lives
  pub line_child : {rk : ℕ → ℕ} → Ranked f rk → (p : ℕ) → line_lives f d p ≡ true → stands f d p ≡ false → (c : ℕ) × (is_child f p c ≡ true) × (line_lives f d c ≡ true)
  line_child s p lives dead =
      let other : p ≢ d = λ e. both_ways (line_lives f d p) (ap (line_lives f d) e ∙ decedent_line f d) lives in
      ⊎_elim
      (λ (z : (person f p).lives ≡ true).
      absurd
      (⊎_elim (λ t. other (eqb-true p d (not-false _ t))) (λ t. both_ways (person f p).lives t z) (and_cases _ (person f p).lives dead)))
      (λ (z : some_of (line_lives f d) (children f p) ≡ true). child_of_some f (line_lives f d) p z)
      (or_cases (person f p).lives (some_of (line_lives f d) (children f p)) (sym (line_lives_other s d p other) ∙ lives))

  pub no_steps : {rk : ℕ → ℕ} → Ranked f rk → (p : ℕ) → Enough f rk d 0 p → stands f d p ≡ false → ⊥
  no_steps {rk} s p enough dead =
      let t = line_child s p enough.0 dead in
      let up = s.up p t.0 t.1 in
      let within = s.within t.0 (child_there f p t.0 t.1) in
      let l = enough.1 in
      omega arith

  pub enough_below : {rk : ℕ → ℕ} → Ranked f rk → (n p : ℕ) (cs : List ℕ) → cs ≡ living_lines f d (children f p) → Enough f rk d n p → 0 < n → AllByRecursion (Enough f rk d (n - 1)) cs
  enough_below {rk} s n p cs e enough some =
      subst (AllByRecursion (Enough f rk d (n - 1))) (sym e)
      (all_both (λ c. is_child f p c ≡ true) (λ c. line_lives f d c ≡ true) (Enough f rk d (n - 1))
      (λ c k v. (v, let up = s.up p c k in let l = enough.1 in omega arith)) (lines_below f d p) (below_child f d p) (below_lives f d p))

  -- a line that is divided by too large a number
  pub line_large : {rk : ℕ → ℕ} → Ranked f rk → (n p b : ℕ) (ys : List ℕ) → length f ≤ suc n + rk p → stands f d p ≡ false → 4294967296 ≤ b * length (living_lines f d (children f p)) →
      TooLarge (map way_part (line_ways_in (suc n) f d ys p b))
  line_large {rk} s n p b ys enough dead large =
      subst TooLarge (sym (ways_forget (suc n) f d ys p b ∙ parts_enough s d (suc n) p b enough))
      (λ qs rs. ⊎_elim (λ e. e) (λ ne. absurd (too qs rs (lines_below f d p) (below_lives f d p) refl ne)) (cases_eq (common_multiple (qs ++ (line_parts f d p b ++ rs)) 1) 0))
    where
      too : (qs rs : List Part) (cs : List ℕ) → AllByRecursion (λ c. line_lives f d c ≡ true) cs → lines_below f d p ≡ cs → common_multiple (qs ++ (line_parts f d p b ++ rs)) 1 ≢ 0 → ⊥
      too qs rs [] lives e ne = let z : b * length (lines_below f d p) ≡ 0 = ap (λ xs. b * length xs) e ∙ (let w : b * 0 ≡ 0 = omega arith in w) in omega arith
      too qs rs (c ∷ cs) lives e ne =
          let k = length (lines_below f d p) in
          let g : ℕ → List Part = λ x. line_parts f d x (b * k) in
          let cut : qs ++ (line_parts f d p b ++ rs) ≡ qs ++ (line_parts f d c (b * k) ++ (flat_map g cs ++ rs)) =
          ap (λ r. qs ++ (r ++ rs)) (parts_divided s d p b dead ∙ ap (flat_map g) e) ∙ ap (λ r. qs ++ r) (append_assoc (g c) (flat_map g cs) rs) in
          let small = line_below s d c (b * k) qs (flat_map g cs ++ rs) lives.0 (λ z. ne (ap (λ r. common_multiple r 1) cut ∙ z)) in
          omega arith

-- one line more behind those that are there
pub went_on : (before mid after front row : List Way) → mid ≡ before ++ front → after ≡ mid ++ row → after ≡ before ++ (front ++ row)
went_on before mid after front row e h = h ∙ ap (λ r. r ++ row) e ∙ append_assoc before front row

-- A refusal: that it is by the limits has to be shown only if it is; what it says is handed on.
pub refused_by : (P : Type 0) (e : WaysError) → P → ByLimit P e
refused_by P BeyondLimit h = h
refused_by P NoMemory h = tt

pub refused_if : {T : Type 0} (P : Type 0) (e : WaysError) → (◌≡◌ {A = Result T WaysError} (Err e) (Err BeyondLimit) → P) → ByLimit P e
refused_if P BeyondLimit h = h refl
refused_if P NoMemory h = tt

pub by_limit : {P Q : Type 0} (e : WaysError) → (P → Q) → ByLimit P e → ByLimit Q e
by_limit BeyondLimit f h = f h
by_limit NoMemory f h = h

pub handed_on : {T : Type 0} (r : Result T WaysError) (X : T → Type 0) (P Q : Type 0) (e : WaysError) → IsErrAnd r (λ z. z ≡ e) → (P → Q) → ByLimit P e → MatchResult r X (ByLimit Q)
handed_on (Ok x) X P Q e h f p = absurd h
handed_on (Err z) X P Q e h f p = subst (ByLimit Q) (sym h) (by_limit e f p)
