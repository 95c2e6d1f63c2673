-- There is just one row of shares in lowest terms that is as the parts are. Assumes nothing.
use Rattle.std.proofs.Common.{◌≡◌, ℕ, ◌<◌, ◌≤◌, true, ◌&&◌, eqb, ltb, ◌≢◌, List, [], ◌∷◌, sym, refl, ap, ◌∙◌, ap₂, ⊎_elim, arith}
use Rattle.std.specs.List.{AllByRecursion}
use Rattle.std.proofs.lemmas.Bool.{cases_order, cases_eq, and_parts, ltb-true, eq-eqb, ne_eqb, cond-true, cond-false}
use Rattle.law.specs.Family.{Part}
use Rattle.law.specs.Calls.{Share, in_order, share_of, as_parts, common_multiple, divides_all, pieces}
use Rattle.law.specs.Promise.{JustOne}
use Rattle.theory.specs.Shares.{shares_from, shares_of}
use Rattle.theory.proofs.Fractions.{same_fraction, cross}
use Rattle.theory.proofs.Shares.{shares_as_parts, shares_right}

-- rows by number
head_positive : (s : Share) (ss : List Share) → in_order (s ∷ ss) ≡ true → (0 < s.up) × (0 < s.down)
unfolding in_order
head_positive s [] h = let r = and_parts (ltb 0 s.up) (ltb 0 s.down) h in (ltb-true 0 s.up r.0, ltb-true 0 s.down r.1)
head_positive s (t ∷ ts) h =
    let r = and_parts (ltb 0 s.up && (ltb 0 s.down && ltb s.who t.who)) (in_order (t ∷ ts)) h in
    let u = and_parts (ltb 0 s.up) (ltb 0 s.down && ltb s.who t.who) r.0 in
    let v = and_parts (ltb 0 s.down) (ltb s.who t.who) u.1 in
    (ltb-true 0 s.up u.0, ltb-true 0 s.down v.0)

tail_order : (s : Share) (ss : List Share) → in_order (s ∷ ss) ≡ true → in_order ss ≡ true
unfolding in_order
tail_order s [] h = refl
tail_order s (t ∷ ts) h = (and_parts (ltb 0 s.up && (ltb 0 s.down && ltb s.who t.who)) (in_order (t ∷ ts)) h).1

next_more : (s t : Share) (ts : List Share) → in_order (s ∷ (t ∷ ts)) ≡ true → s.who < t.who
unfolding in_order
next_more s t ts h =
    let r = and_parts (ltb 0 s.up && (ltb 0 s.down && ltb s.who t.who)) (in_order (t ∷ ts)) h in
    let u = and_parts (ltb 0 s.up) (ltb 0 s.down && ltb s.who t.who) r.0 in
    ltb-true s.who t.who (and_parts (ltb 0 s.down) (ltb s.who t.who) u.1).1

-- somebody's share
abbrev nothing : ℕ → Share
nothing w = record { who = w; up = 0; down = 1 }

share_here : (s : Share) (ss : List Share) (w : ℕ) → s.who ≡ w → share_of (s ∷ ss) w ≡ s
unfolding share_of
share_here s ss w e = cond-true (eqb s.who w) s (share_of ss w) (eq-eqb s.who w e)

share_later : (s : Share) (ss : List Share) (w : ℕ) → (s.who ≡ w → ⊥) → share_of (s ∷ ss) w ≡ share_of ss w
unfolding share_of
share_later s ss w e = cond-false (eqb s.who w) s (share_of ss w) (ne_eqb s.who w e)

-- who is not after the first of a row has nothing of the rest
share_rest : (s : Share) (ss : List Share) (w : ℕ) → in_order (s ∷ ss) ≡ true → w ≤ s.who → share_of ss w ≡ nothing w
unfolding share_of
share_rest s [] w h l = refl
share_rest s (t ∷ ts) w h l =
    let m : s.who < t.who = next_more s t ts h in
    share_later t ts w (λ e. omega arith) ∙ share_rest t ts w (tail_order s (t ∷ ts) h) (omega arith)

share_before : (t : Share) (ts : List Share) (w : ℕ) → in_order (t ∷ ts) ≡ true → w < t.who → share_of (t ∷ ts) w ≡ nothing w
share_before t ts w h l = share_later t ts w (λ e. omega arith) ∙ share_rest t ts w h (omega arith)

-- rows that give everybody the same
abbrev Same : List Share → List Share → Type 0
Same ss ts = (w : ℕ) → ((share_of ss w).up ≡ (share_of ts w).up) × ((share_of ss w).down ≡ (share_of ts w).down)

-- the first of one row has something of the other
not_apart : (s : Share) (ss ts : List Share) → in_order (s ∷ ss) ≡ true → share_of ts s.who ≡ nothing s.who
    → (share_of (s ∷ ss) s.who).up ≡ (share_of ts s.who).up → ⊥
not_apart s ss ts h n e =
    let a : (share_of (s ∷ ss) s.who).up ≡ s.up = ap (λ (x : Share). x.up) (share_here s ss s.who refl) in
    let b : (share_of ts s.who).up ≡ 0 = ap (λ (x : Share). x.up) n in
    let c = head_positive s ss h in
    omega arith

tails_same : (s t : Share) (ss ts : List Share) → in_order (s ∷ ss) ≡ true → in_order (t ∷ ts) ≡ true → s.who ≡ t.who → Same (s ∷ ss) (t ∷ ts) → Same ss ts
tails_same s t ss ts h k p e w =
    ⊎_elim
    (λ (q : s.who ≡ w).
    let a : share_of ss w ≡ share_of ts w = share_rest s ss w h (omega arith) ∙ sym (share_rest t ts w k (omega arith)) in
    (ap (λ (x : Share). x.up) a, ap (λ (x : Share). x.down) a))
    (λ (q : s.who ≡ w → ⊥).
    let a : share_of (s ∷ ss) w ≡ share_of ss w = share_later s ss w q in
    let b : share_of (t ∷ ts) w ≡ share_of ts w = share_later t ts w (λ r. q (p ∙ r)) in (
      sym (ap (λ (x : Share). x.up) a) ∙ (e w).0 ∙ ap (λ (x : Share). x.up) b,
      sym (ap (λ (x : Share). x.down) a) ∙ (e w).1 ∙ ap (λ (x : Share). x.down) b,
    ))
    (cases_eq s.who w)

heads_same : (s t : Share) (ss ts : List Share) → s.who ≡ t.who → Same (s ∷ ss) (t ∷ ts) → s ≡ t
heads_same s t ss ts p e =
    let a : share_of (s ∷ ss) s.who ≡ s = share_here s ss s.who refl in
    let b : share_of (t ∷ ts) s.who ≡ t = share_here t ts s.who (sym p) in
    same p (sym (ap (λ (x : Share). x.up) a) ∙ (e s.who).0 ∙ ap (λ (x : Share). x.up) b)
    (sym (ap (λ (x : Share). x.down) a) ∙ (e s.who).1 ∙ ap (λ (x : Share). x.down) b)
  where
    same : s.who ≡ t.who → s.up ≡ t.up → s.down ≡ t.down → s ≡ t
    same x y z = λ i. record { who = x i; up = y i; down = z i }

rows_same : (ss ts : List Share) → in_order ss ≡ true → in_order ts ≡ true → Same ss ts → ss ≡ ts
unfolding share_of
rows_same [] [] h k e = refl
rows_same [] (t ∷ ts) h k e = absurd (not_apart t ts [] k refl (sym (e t.who).0))
rows_same (s ∷ ss) [] h k e = absurd (not_apart s ss [] h refl (e s.who).0)
rows_same (s ∷ ss) (t ∷ ts) h k e =
    ⊎_elim
    (λ (p : s.who ≡ t.who).
    ap₂ {C = List Share} (λ (x : Share) (xs : List Share). x ∷ xs) (heads_same s t ss ts p e)
    (rows_same ss ts (tail_order s ss h) (tail_order t ts k) (tails_same s t ss ts h k p e)))
    (⊎_elim (λ (p : s.who < t.who). absurd (not_apart s ss (t ∷ ts) h (share_before t ts s.who k p) (e s.who).0))
    (λ (p : t.who < s.who). absurd (not_apart t ts (s ∷ ss) k (share_before s ss t.who h p) (sym (e t.who).0))))
    (cases_order s.who t.who)

pub one_answer : (ps : List Part) (n : ℕ) (ss ts : List Share) → 0 < n → divides_all n ps ≡ true → as_parts ps ss → as_parts ps ts → ss ≡ ts
one_answer ps n ss ts h d p q =
    rows_same ss ts p.0 q.0
    (λ w.
    same_fraction (share_of ss w).up (share_of ss w).down (share_of ts w).up (share_of ts w).down (p.1 w) (q.1 w)
    (cross n (pieces n ps w) (share_of ss w).up (share_of ss w).down (share_of ts w).up (share_of ts w).down h (p.2 n w h d) (q.2 n w h d)))

pub just_one : JustOne
unfolding JustOne
just_one ps n ss ts h d p q = one_answer ps n ss ts h d p q

-- pieces of any number that all parts divide, of anybody below any bound, come to the same shares
pub shares_by : (n m : ℕ) (ps : List Part) → 0 < n → divides_all n ps ≡ true → AllByRecursion (λ q. q.who < m) ps → common_multiple ps 1 ≢ 0
    → shares_from n (pieces n ps) 0 m ≡ shares_of ps
shares_by n m ps l h a z = one_answer ps n (shares_from n (pieces n ps) 0 m) (shares_of ps) l h (shares_as_parts n m ps l h a) (shares_right ps z)
