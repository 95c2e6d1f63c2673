-- Ways are chains, all of them, each once. Assumes nothing.
use Rattle.std.proofs.Common.{◌≡◌, ℕ, zero, suc, ◌+◌, ◌*◌, ◌<◌, ◌≤◌, Bool, true, false, cond, not, eqb, ◌≢◌, ◌⊎◌, List, [], ◌∷◌, ◌++◌, length, filter, sym, refl, ap, ◌∙◌, subst, inl, inr, ⊎_elim, arith}
use Rattle.std.specs.List.{flat_map, AllByRecursion}
use Rattle.std.proofs.lemmas.List.{append_assoc, append-nil}
use Rattle.std.proofs.ByRecursion.{All-weaker, All-append}
use Rattle.std.proofs.lemmas.Bool.{and_parts, not-true, eqb-false, ne_eqb, not_from_false, cond-true, cond-false, cond_both}
use Rattle.law.specs.Family.{Family, person, is_child, children_in, children, parents, known, line_lives, living_lines, side_lives, living_sides, order}
use Rattle.law.specs.Promise.{descends_by, OfLine}
use Rattle.theory.specs.Families.{Ranked}
use Rattle.theory.proofs.Lists.{joined_all, all_any}
use Rattle.theory.proofs.Families.{lives_there}
use Rattle.theory.proofs.Lines.{below_child}
use Rattle.ways.specs.Ways.{Way, stands, line_ways_in, line_ways, heads_ways, couple_ways, first_ways, third_ways}
use Rattle.ways.proofs.Going.{way_standing}
use Rattle.reasons.proofs.Orders.{ways_first, ways_second, ways_third}
use Rattle.kinship.proofs.Standing.{in_left, in_right, in_joined, in_kept, in_some, child_in, lives_up}
use Rattle.lineage.specs.Chains.{leads, On, Listed, LeadsFrom, Once, grandparents, WaysAreChains, ChainsAreWays, EachOnce}

all_on : (P : ℕ → Type 0) (xs : List ℕ) → ((x : ℕ) → On x xs → P x) → AllByRecursion P xs
all_on P [] h = tt
all_on P (x ∷ xs) h = (h x (inl refl), all_on P xs (λ y k. h y (inr k)))

kept_on : (s : ℕ → Bool) (x : ℕ) (xs : List ℕ) → On x (filter s xs) → On x xs
kept_on s x [] h = h
kept_on s x (y ∷ ys) h = go (λ m. kept_on s x ys m) (s y) h
  where
    go : (On x (filter s ys) → On x ys) → (t : Bool) → On x (cond t (y ∷ filter s ys) (filter s ys)) → (y ≡ x) ⊎ On x ys
    go ih true k = ⊎_elim (λ e. inl e) (λ m. inr (ih m)) k
    go ih false k = inr (ih k)

joined_on : (g : ℕ → List ℕ) (x q : ℕ) (qs : List ℕ) → On q qs → On x (g q) → On x (flat_map g qs)
joined_on g x q [] h k = absurd h
joined_on g x q (y ∷ ys) h k =
    ⊎_elim (λ (e : y ≡ q). in_left x (g y) (flat_map g ys) (subst (λ z. On x (g z)) (sym e) k)) (λ m. in_right x (g y) (flat_map g ys) (joined_on g x q ys m k)) h

-- every way of a line leads from its person down
abbrev Down : Family → ℕ → List ℕ → ℕ → Way → Type 0
Down f d xs p v = (ys : List ℕ) × (v.line ≡ xs ++ ys) × leads f d p ys v.who

ways_down : (n : ℕ) (f : Family) (d : ℕ) (xs : List ℕ) (p b : ℕ) → AllByRecursion (Down f d xs p) (line_ways_in n f d xs p b)
unfolding line_ways_in leads
ways_down zero f d xs p b = tt
ways_down (suc n) f d xs p b =
    cond_both (stands f d p) (record { line = xs; who = p; by = b } ∷ []) (flat_map (λ c. line_ways_in n f d (xs ++ (c ∷ [])) c each) (living_lines f d (children f p))) (AllByRecursion (Down f d xs p))
    (λ e. (([], sym (append-nil xs), (refl, e)), tt))
    (λ e.
    joined_all (Down f d xs p) (λ c. line_ways_in n f d (xs ++ (c ∷ [])) c each) (living_lines f d (children f p))
    (All-weaker (λ c. is_child f p c ≡ true) (λ c. AllByRecursion (Down f d xs p) (line_ways_in n f d (xs ++ (c ∷ [])) c each))
    (λ c k.
    All-weaker (Down f d (xs ++ (c ∷ [])) c) (Down f d xs p) (λ v t. (c ∷ t.0, t.1 ∙ append_assoc xs (c ∷ []) t.0, (e, k, t.2))) (line_ways_in n f d (xs ++ (c ∷ [])) c each)
    (ways_down n f d (xs ++ (c ∷ [])) c each))
    (living_lines f d (children f p)) (below_child f d p)))
  where
    each : ℕ
    each = b * length (living_lines f d (children f p))

heads_lead : (f : Family) (d : ℕ) (ps qs : List ℕ) (b : ℕ) → ((p : ℕ) → On p ps → On p qs) → AllByRecursion (LeadsFrom f d qs) (heads_ways f d ps b)
heads_lead f d ps qs b within =
    joined_all (LeadsFrom f d qs) (λ p. line_ways f d (p ∷ []) p b) ps
    (all_on (λ p. AllByRecursion (LeadsFrom f d qs) (line_ways f d (p ∷ []) p b)) ps
    (λ p i.
    All-weaker (Down f d (p ∷ []) p) (LeadsFrom f d qs) (λ v t. (p, t.0, within p i, t.1, t.2)) (line_ways f d (p ∷ []) p b) (ways_down (suc (length f)) f d (p ∷ []) p b)))

pub ways_are_chains : WaysAreChains
unfolding WaysAreChains
ways_are_chains f d b =
    record {
      first = λ o.
          subst (AllByRecursion (λ (v : Way). leads f d d v.line v.who)) (sym (ways_first f d b o))
          (All-weaker (Down f d [] d) (λ (v : Way). leads f d d v.line v.who) (λ v t. subst (λ xs. leads f d d xs v.who) (sym t.1) t.2) (first_ways f d b)
          (ways_down (suc (length f)) f d [] d b));
      second = λ o.
          subst (AllByRecursion (LeadsFrom f d (parents f d))) (sym (ways_second f d b o))
          (heads_lead f d (living_lines f d (parents f d)) (parents f d) (b * length (living_lines f d (parents f d))) (λ p i. kept_on (line_lives f d) p (parents f d) i));
      third = λ o.
          subst (AllByRecursion (LeadsFrom f d (grandparents f d))) (sym (ways_third f d b o))
          (joined_all (LeadsFrom f d (grandparents f d)) (λ q. couple_ways f d (parents f q) (b * length (living_sides f d))) (living_sides f d)
          (all_on (λ q. AllByRecursion (LeadsFrom f d (grandparents f d)) (couple_ways f d (parents f q) (b * length (living_sides f d)))) (living_sides f d)
          (λ q i.
          heads_lead f d (living_lines f d (parents f q)) (grandparents f d) (b * length (living_sides f d) * length (living_lines f d (parents f q)))
          (λ p k. joined_on (λ r. parents f r) p q (parents f d) (kept_on (λ r. side_lives f d r) q (parents f d) i) (kept_on (line_lives f d) p (parents f q) k)))));
    }

-- listed among others
listed_left : (xs : List ℕ) (w : ℕ) (us vs : List Way) → Listed xs w us → Listed xs w (us ++ vs)
listed_left xs w [] vs h = absurd h
listed_left xs w (u ∷ us) vs h = ⊎_elim (λ e. inl e) (λ k. inr (listed_left xs w us vs k)) h

listed_right : (xs : List ℕ) (w : ℕ) (us vs : List Way) → Listed xs w vs → Listed xs w (us ++ vs)
listed_right xs w [] vs h = h
listed_right xs w (u ∷ us) vs h = inr (listed_right xs w us vs h)

listed_joined : (xs : List ℕ) (w : ℕ) (g : ℕ → List Way) (x : ℕ) (ps : List ℕ) → On x ps → Listed xs w (g x) → Listed xs w (flat_map g ps)
listed_joined xs w g x [] h e = absurd h
listed_joined xs w g x (y ∷ ys) h e =
    ⊎_elim (λ (q : y ≡ x). listed_left xs w (g y) (flat_map g ys) (subst (λ z. Listed xs w (g z)) (sym q) e)) (λ k. listed_right xs w (g y) (flat_map g ys) (listed_joined xs w g x ys k e)) h

-- who a chain leads to lives and is not the decedent, and it descends
end_stands : (f : Family) (d p : ℕ) (xs : List ℕ) (w : ℕ) → leads f d p xs w → (stands f d w ≡ true) × descends_by f p xs w
unfolding leads descends_by
end_stands f d p [] w h = (subst (λ z. stands f d z ≡ true) h.0 h.1, h.0)
end_stands f d p (x ∷ xs) w h = let t = end_stands f d x xs w h.2 in (t.0, (h.1, t.1))

module _ {f : Family} {rk : ℕ → ℕ} (s : Ranked f rk) (d w : ℕ) (end : stands f d w ≡ true) where
  lives : (person f w).lives ≡ true
  lives = (and_parts (not (eqb w d)) (person f w).lives end).1

  other : w ≢ d
  other = eqb-false w d (not-true (eqb w d) (and_parts (not (eqb w d)) (person f w).lives end).0)

  way_listed : (n p b : ℕ) (ys xs : List ℕ) → length f < n + rk p → (rk d ≤ rk p) ⊎ (OfLine f d w → ⊥) → leads f d p xs w → Listed (ys ++ xs) w (line_ways_in n f d ys p b)
  unfolding leads line_ways_in
  way_listed zero p b ys [] l c h = absurd (let z = s.within w (lives_there f w lives) in omega (arith, ap rk h.0))
  way_listed zero p b ys (x ∷ xs) l c h = absurd (let z = s.within p (s.here p x h.1) in omega arith)
  way_listed (suc n) p b ys [] l c h = subst (Listed (ys ++ []) w) (sym (way_standing f d n ys p b h.1)) (inl (sym (append-nil ys), h.0))
  way_listed (suc n) p b ys (x ∷ xs) l c h =
      let each = b * length (living_lines f d (children f p)) in
      let up = s.up p x h.1 in
      let beside : (rk d < rk x) ⊎ (OfLine f d w → ⊥) = ⊎_elim (λ (m : rk d ≤ rk p). inl (omega arith)) (λ m. inr m) c in
      subst (Listed (ys ++ (x ∷ xs)) w)
      (sym (cond-false (stands f d p) (record { line = ys; who = p; by = b } ∷ []) (flat_map (λ c. line_ways_in n f d (ys ++ (c ∷ [])) c each) (living_lines f d (children f p))) h.0))
      (listed_joined (ys ++ (x ∷ xs)) w (λ c. line_ways_in n f d (ys ++ (c ∷ [])) c each) x (living_lines f d (children f p))
      (in_kept (line_lives f d) x (children f p) (child_in f p x h.1) (lives_up s d w lives other x xs beside (end_stands f d x xs w h.2).1))
      (subst (λ zs. Listed zs w (line_ways_in n f d (ys ++ (x ∷ [])) x each)) (append_assoc ys (x ∷ []) xs)
      (way_listed n x each (ys ++ (x ∷ [])) xs (omega arith) (⊎_elim (λ (m : rk d < rk x). inl (omega arith)) (λ m. inr m) beside) h.2)))

  -- where the first order does not inherit, nobody who lives is of the decedent's line
  apart : order f d ≢ 1 → OfLine f d w → ⊥
  unfolding OfLine descends_by
  apart behind h = go h.0 h.1
    where
      go : (xs : List ℕ) → descends_by f d xs w → ⊥
      go [] k = other (sym k)
      go (x ∷ xs) k =
          let l = in_some x (living_lines f d (children f d)) (in_kept (line_lives f d) x (children f d) (child_in f d x k.0) (lives_up s d w lives other x xs (inl (s.up d x k.0)) k.1)) in
          behind (cond-true (not (eqb (length (living_lines f d (children f d))) 0)) 1 _ (not_from_false (eqb (length (living_lines f d (children f d))) 0) (ne_eqb (length (living_lines f d (children f d))) 0 (λ z. omega arith))))

  module _ (behind : order f d ≢ 1) where
    couple_listed : (b p : ℕ) (ps xs : List ℕ) → On p ps → leads f d p xs w → Listed (p ∷ xs) w (couple_ways f d ps b)
    couple_listed b p ps xs i h =
        let each = b * length (living_lines f d ps) in
        listed_joined (p ∷ xs) w (λ q. line_ways f d (q ∷ []) q each) p (living_lines f d ps)
        (in_kept (line_lives f d) p ps i (lives_up s d w lives other p xs (inr (apart behind)) (end_stands f d p xs w h).1))
        (way_listed (suc (length f)) p each (p ∷ []) xs (omega arith) (inr (apart behind)) h)

    third_listed : (b p : ℕ) (xs : List ℕ) → On p (grandparents f d) → leads f d p xs w → Listed (p ∷ xs) w (third_ways f d b)
    unfolding side_lives
    third_listed b p xs i h =
        let t = in_joined (λ q. parents f q) p (parents f d) i in
        let q = t.0 in
        let k = b * length (living_sides f d) in
        let some =
        in_some p (living_lines f d (parents f q)) (in_kept (line_lives f d) p (parents f q) t.2 (lives_up s d w lives other p xs (inr (apart behind)) (end_stands f d p xs w h).1)) in
        let side : side_lives f d q ≡ true = not_from_false (eqb (length (living_lines f d (parents f q))) 0) (ne_eqb (length (living_lines f d (parents f q))) 0 (λ z. omega arith)) in
        listed_joined (p ∷ xs) w (λ r. couple_ways f d (parents f r) k) q (living_sides f d) (in_kept (λ r. side_lives f d r) q (parents f d) t.1 side) (couple_listed k p (parents f q) xs t.2 h)

pub chains_are_ways : ChainsAreWays
unfolding ChainsAreWays
chains_are_ways f rk d b s =
    record {
      first = λ o xs w h.
          subst (Listed xs w) (sym (ways_first f d b o)) (way_listed s d w (end_stands f d d xs w h).0 (suc (length f)) d b [] xs (omega arith) (inl (omega arith)) h);
      second = λ o p xs w i h.
          subst (Listed (p ∷ xs) w) (sym (ways_second f d b o)) (couple_listed s d w (end_stands f d p xs w h).0 (λ e. omega (arith, o, e)) b p (parents f d) xs i h);
      third = λ o p xs w i h.
          subst (Listed (p ∷ xs) w) (sym (ways_third f d b o)) (third_listed s d w (end_stands f d p xs w h).0 (λ e. omega (arith, o, e)) b p xs i h);
    }

-- rows without anybody twice
abbrev Apart : List ℕ → Type 0
Apart [] = Unit {0}
Apart (x ∷ xs) = AllByRecursion (λ y. x ≢ y) xs × Apart xs

all_kept : (s : ℕ → Bool) (P : ℕ → Type 0) (xs : List ℕ) → AllByRecursion P xs → AllByRecursion P (filter s xs)
all_kept s P [] a = tt
all_kept s P (x ∷ xs) a = cond_both (s x) (x ∷ filter s xs) (filter s xs) (AllByRecursion P) (λ _. (a.0, all_kept s P xs a.1)) (λ _. all_kept s P xs a.1)

kept_apart : (s : ℕ → Bool) (xs : List ℕ) → Apart xs → Apart (filter s xs)
kept_apart s [] a = tt
kept_apart s (x ∷ xs) a =
    cond_both (s x) (x ∷ filter s xs) (filter s xs) Apart (λ _. (all_kept s (λ y. x ≢ y) xs a.0, kept_apart s xs a.1)) (λ _. kept_apart s xs a.1)

children_apart : (f : Family) (p n c : ℕ) → AllByRecursion (λ y. c ≤ y) (children_in f p n c) × Apart (children_in f p n c)
unfolding children_in
children_apart f p zero c = (tt, tt)
children_apart f p (suc n) c =
    let ih = children_apart f p n (suc c) in
    let more = All-weaker (λ y. suc c ≤ y) (λ y. c ≤ y) (λ y l. omega arith) (children_in f p n (suc c)) ih.0 in
    cond_both (is_child f p c) (c ∷ children_in f p n (suc c)) (children_in f p n (suc c)) (λ xs. AllByRecursion (λ y. c ≤ y) xs × Apart xs)
    (λ _. ((omega arith, more), (All-weaker (λ y. suc c ≤ y) (λ y. c ≢ y) (λ y l e. omega arith) (children_in f p n (suc c)) ih.0, ih.1))) (λ _. (more, ih.1))

once_append : (us vs : List Way) → Once us → Once vs → AllByRecursion (λ (u : Way). AllByRecursion (λ (v : Way). u.line ≢ v.line) vs) us → Once (us ++ vs)
once_append [] vs a b c = b
once_append (u ∷ us) vs a b c = (All-append (λ (v : Way). u.line ≢ v.line) us vs a.0 c.0, once_append us vs a.1 b c.1)

module _ (g : ℕ → List Way) (once : (c : ℕ) → Once (g c)) (differ : (c e : ℕ) → c ≢ e → AllByRecursion (λ (u : Way). AllByRecursion (λ (v : Way). u.line ≢ v.line) (g e)) (g c)) where
  one_more : (c : ℕ) (cs : List ℕ) → AllByRecursion (λ y. c ≢ y) cs → AllByRecursion (λ (u : Way). AllByRecursion (λ (v : Way). u.line ≢ v.line) (flat_map g cs)) (g c)
  one_more c [] a = all_any (λ (u : Way). AllByRecursion (λ (v : Way). u.line ≢ v.line) []) (λ u. tt) (g c)
  one_more c (e ∷ es) a =
      all_two (λ (u : Way). AllByRecursion (λ (v : Way). u.line ≢ v.line) (g e)) (λ (u : Way). AllByRecursion (λ (v : Way). u.line ≢ v.line) (flat_map g es))
      (λ (u : Way). AllByRecursion (λ (v : Way). u.line ≢ v.line) (g e ++ flat_map g es)) (λ u x y. All-append (λ (v : Way). u.line ≢ v.line) (g e) (flat_map g es) x y) (g c) (differ c e a.0) (one_more c es a.1)
    where
      all_two : (P Q R : Way → Type 0) → ((u : Way) → P u → Q u → R u) → (us : List Way) → AllByRecursion P us → AllByRecursion Q us → AllByRecursion R us
      all_two P Q R h [] x y = tt
      all_two P Q R h (u ∷ us) x y = (h u x.0 y.0, all_two P Q R h us x.1 y.1)

  once_joined : (cs : List ℕ) → Apart cs → Once (flat_map g cs)
  once_joined [] a = tt
  once_joined (c ∷ cs) a = once_append (g c) (flat_map g cs) (once c) (once_joined cs a.1) (one_more c cs a.0)

-- lines that go on from the same persons with somebody else differ
same_next : (xs ys zs : List ℕ) (c e : ℕ) → (xs ++ (c ∷ [])) ++ ys ≡ (xs ++ (e ∷ [])) ++ zs → c ≡ e
same_next [] ys zs c e h = cc
same_next (x ∷ xs) ys zs c e h = same_next xs ys zs c e (cc)

lines_differ : (n : ℕ) (f : Family) (d b : ℕ) (xs : List ℕ) (c e : ℕ) → c ≢ e →
    AllByRecursion (λ (u : Way). AllByRecursion (λ (v : Way). u.line ≢ v.line) (line_ways_in n f d (xs ++ (e ∷ [])) e b)) (line_ways_in n f d (xs ++ (c ∷ [])) c b)
lines_differ n f d b xs c e unlike =
    All-weaker (Down f d (xs ++ (c ∷ [])) c) (λ (u : Way). AllByRecursion (λ (v : Way). u.line ≢ v.line) (line_ways_in n f d (xs ++ (e ∷ [])) e b))
    (λ u t.
    All-weaker (Down f d (xs ++ (e ∷ [])) e) (λ (v : Way). u.line ≢ v.line) (λ v r q. unlike (same_next xs t.0 r.0 c e (sym t.1 ∙ q ∙ r.1))) (line_ways_in n f d (xs ++ (e ∷ [])) e b)
    (ways_down n f d (xs ++ (e ∷ [])) e b))
    (line_ways_in n f d (xs ++ (c ∷ [])) c b) (ways_down n f d (xs ++ (c ∷ [])) c b)

line_once : (n : ℕ) (f : Family) (d : ℕ) (xs : List ℕ) (p b : ℕ) → Once (line_ways_in n f d xs p b)
unfolding line_ways_in
line_once zero f d xs p b = tt
line_once (suc n) f d xs p b =
    let each = b * length (living_lines f d (children f p)) in
    cond_both (stands f d p) (record { line = xs; who = p; by = b } ∷ []) (flat_map (λ c. line_ways_in n f d (xs ++ (c ∷ [])) c each) (living_lines f d (children f p))) Once (λ _. (tt, tt))
    (λ _.
    once_joined (λ c. line_ways_in n f d (xs ++ (c ∷ [])) c each) (λ c. line_once n f d (xs ++ (c ∷ [])) c each) (lines_differ n f d each xs) (living_lines f d (children f p))
    (kept_apart (line_lives f d) (children f p) (children_apart f p (length f) 0).1))

parents_apart : (f : Family) (d : ℕ) → (person f d).mother ≢ (person f d).father → Apart (parents f d)
unfolding known
parents_apart f d unlike = go (person f d).mother (person f d).father unlike
  where
    go : (m e : ℕ) → m ≢ e → Apart (known m ++ known e)
    go zero zero h = tt
    go zero (suc e) h = (tt, tt)
    go (suc m) zero h = (tt, tt)
    go (suc m) (suc e) h = ((λ q. h (ap suc q), tt), (tt, tt))

pub each_once : EachOnce
unfolding EachOnce
each_once f d b = (
  λ o. subst Once (sym (ways_first f d b o)) (line_once (suc (length f)) f d [] d b),
  λ o unlike.
      let each = b * length (living_lines f d (parents f d)) in
      subst Once (sym (ways_second f d b o))
      (once_joined (λ p. line_ways f d (p ∷ []) p each) (λ p. line_once (suc (length f)) f d (p ∷ []) p each) (lines_differ (suc (length f)) f d each []) (living_lines f d (parents f d))
      (kept_apart (line_lives f d) (parents f d) (parents_apart f d unlike))),
)
