-- Downward along a listing everybody comes to what all their parts come to. Assumes nothing.
use Rattle.std.proofs.Common.{◌≡◌, ℕ, zero, suc, ◌+◌, ◌*◌, ◌/◌, ◌<◌, ◌≤◌, Bool, true, false, cond, eqb, ◌≢◌, List, [], ◌∷◌, length, get_or, set, sum_by, sym, refl, ap, ◌∙◌, subst, ap₂, ⊎_elim, div-one, arith}
use Rattle.std.specs.List.{AllByRecursion}
use Rattle.std.proofs.lemmas.List.{length-set, get_or-set_same, get_or-set_other, get_or_past}
use Rattle.std.proofs.ByRecursion.{All-weaker}
use Rattle.std.proofs.lemmas.List.Sums.{sum_by-cons}
use Rattle.std.proofs.lemmas.Bool.{cases_eq, cases_lt, cases_Bool, eq-eqb, ne_eqb, cond-true, cond-false}
use Rattle.law.specs.Family.{person, Family, Part, line_parts}
use Rattle.law.specs.Calls.{divides_all, pieces}
use Rattle.theory.specs.Families.{Ranked}
use Rattle.theory.specs.Living.{alive, lines_below}
use Rattle.theory.proofs.Lists.{all_any}
use Rattle.theory.proofs.Living.{parts_lives, parts_dead}
use Rattle.theory.proofs.Parts.{divides_both, divides_joined, pieces_append}
use Rattle.amounts.specs.Passes.{is_in, added_each, handed_on, handed_down, started}
use Rattle.amounts.specs.Lines.{divided_among, line_pieces, starts_parts}
use Rattle.amounts.specs.Statements.{Listing, Starts, NoAmounts, PiecesRight}
use Rattle.amounts.proofs.Members.{all_in, in_not}
use Rattle.amounts.proofs.Listing.{alive_there, divided_among_there}
use Rattle.amounts.proofs.Rows.{line_pieces_by, line_divides_by, pieces_nothing, divides_nothing, divides_sum, pieces_sum, divides_times, pieces_times, sumBy_cong, pieces_joined}
use Rattle.amounts.proofs.Lines.{among_lives, among_dead, some_below}
use Rattle.amounts.proofs.Downward.{length-handed_on, length-started, handed_many, handed_down_other, handed_down_self, started_other}

-- What all places of a row come to, where the place of p with x in it comes to h p x.
unfoldable pub total_from : (ℕ → ℕ → ℕ) → ℕ → List ℕ → ℕ
total_from h i [] = 0
total_from h i (x ∷ xs) = h i x + total_from h (suc i) xs

total_set : (h : ℕ → ℕ → ℕ) (i : ℕ) (row : List ℕ) (c y : ℕ) → c < length row → total_from h i (set row c y) + h (i + c) (get_or row c 0) ≡ total_from h i row + h (i + c) y
unfolding total_from
total_set h i [] c y l = absurd (omega arith)
total_set h i (x ∷ xs) zero y l =
    let e : i + 0 ≡ i = omega arith in
    let a : h (i + 0) x ≡ h i x = ap (λ (k : ℕ). h k x) e in
    let b : h (i + 0) y ≡ h i y = ap (λ (k : ℕ). h k y) e in
    omega arith
total_set h i (x ∷ xs) (suc c) y l =
    let e : i + suc c ≡ suc i + c = omega arith in
    let a : h (i + suc c) (get_or xs c 0) ≡ h (suc i + c) (get_or xs c 0) = ap (λ (k : ℕ). h k (get_or xs c 0)) e in
    let b : h (i + suc c) y ≡ h (suc i + c) y = ap (λ (k : ℕ). h k y) e in
    let r = total_set h (suc i) xs c y (omega arith) in
    omega arith

total_cong : (h k : ℕ → ℕ → ℕ) (i : ℕ) (row : List ℕ) → ((p : ℕ) → h (i + p) (get_or row p 0) ≡ k (i + p) (get_or row p 0)) → total_from h i row ≡ total_from k i row
unfolding total_from
total_cong h k i [] e = refl
total_cong h k i (x ∷ xs) e =
    let z : i + 0 ≡ i = omega arith in
    ap₂ (λ (u v : ℕ). u + v) (subst (λ (p : ℕ). h p x ≡ k p x) z (e 0))
    (total_cong h k (suc i) xs (λ p. let s : i + suc p ≡ suc i + p = omega arith in subst (λ (q : ℕ). h q (get_or xs p 0) ≡ k q (get_or xs p 0)) s (e (suc p))))

total_none : (h : ℕ → ℕ → ℕ) (i : ℕ) (row : List ℕ) → ((p : ℕ) → h (i + p) (get_or row p 0) ≡ 0) → total_from h i row ≡ 0
unfolding total_from
total_none h i [] e = refl
total_none h i (x ∷ xs) e =
    let z : i + 0 ≡ i = omega arith in
    let a : h i x ≡ 0 = subst (λ (p : ℕ). h p x ≡ 0) z (e 0) in
    let b = total_none h (suc i) xs (λ p. let s : i + suc p ≡ suc i + p = omega arith in subst (λ (q : ℕ). h q (get_or xs p 0) ≡ 0) s (e (suc p))) in
    omega arith

-- only the place of w counts
abbrev own : ℕ → ℕ → ℕ → ℕ
own w p x = cond (eqb p w) x 0

total_own : (i k : ℕ) (row : List ℕ) → total_from (own (i + k)) i row ≡ get_or row k 0
unfolding total_from
total_own i k [] = refl
total_own i zero (x ∷ xs) =
    let a : own (i + 0) i x ≡ x = cond-true (eqb i (i + 0)) x 0 (eq-eqb i (i + 0) (omega arith)) in
    let b : total_from (own (i + 0)) (suc i) xs ≡ 0 = total_none (own (i + 0)) (suc i) xs (λ p. cond-false (eqb (suc i + p) (i + 0)) (get_or xs p 0) 0 (ne_eqb (suc i + p) (i + 0) (λ e. omega arith))) in
    omega arith
total_own i (suc k) (x ∷ xs) =
    let a : own (i + suc k) i x ≡ 0 = cond-false (eqb i (i + suc k)) x 0 (ne_eqb i (i + suc k) (λ e. omega arith)) in
    let s : i + suc k ≡ suc i + k = omega arith in
    let b : total_from (own (i + suc k)) (suc i) xs ≡ get_or xs k 0 = ap (λ (w : ℕ). total_from (own w) (suc i) xs) s ∙ total_own (suc i) k xs in
    omega arith

module _ {g : Family} {rk : ℕ → ℕ} (s : Ranked g rk) where
  -- everybody has a number of pieces that all parts of their line divide
  abbrev Whole : List ℕ → Type 0
  Whole row = (p : ℕ) → divides_all (get_or row p 0) (line_parts g (length g) p 1) ≡ true

  whole_set : (row : List ℕ) (c y : ℕ) → Whole row → divides_all y (line_parts g (length g) c 1) ≡ true → Whole (set row c y)
  whole_set row c y h d p =
      ⊎_elim
      (λ (e : p ≡ c).
      subst (λ (q : ℕ). divides_all (get_or (set row c y) q 0) (line_parts g (length g) q 1) ≡ true) (sym e)
      (⊎_elim (λ (l : c < length row). ap (λ (x : ℕ). divides_all x (line_parts g (length g) c 1)) (get_or-set_same row c y 0 l) ∙ d)
      (λ (l : length row ≤ c).
      ap (λ (x : ℕ). divides_all x (line_parts g (length g) c 1)) (get_or_past (set row c y) c 0 (let z = length-set row c y in omega arith))
      ∙ divides_nothing (line_parts g (length g) c 1))
      (cases_lt c (length row))))
      (λ (n : p ≡ c → ⊥). ap (λ (x : ℕ). divides_all x (line_parts g (length g) p 1)) (get_or-set_other row c p y 0 n) ∙ h p) (cases_eq p c)

  module _ (w : ℕ) where
    -- what all pieces in a row give to w
    abbrev total : List ℕ → ℕ
    total row = total_from (λ p x. line_pieces g w p x) 0 row

    total_put : (row : List ℕ) (c y : ℕ) → c < length row → total (set row c y) + line_pieces g w c (get_or row c 0) ≡ total row + line_pieces g w c y
    total_put row c y l =
        let e : 0 + c ≡ c = omega arith in
        subst (λ (k : ℕ). total (set row c y) + line_pieces g w k (get_or row c 0) ≡ total row + line_pieces g w k y) e (total_set (λ p x. line_pieces g w p x) 0 row c y l)

    -- so many pieces more for somebody
    total_more : (row : List ℕ) (c y : ℕ) → c < length row → Whole row → divides_all y (line_parts g (length g) c 1) ≡ true
        → (total (set row c (get_or row c 0 + y)) ≡ line_pieces g w c y + total row) × Whole (set row c (get_or row c 0 + y))
    total_more row c y l h d =
        let x = get_or row c 0 in
        let e = total_put row c (x + y) l in
        let k : line_pieces g w c (x + y) ≡ line_pieces g w c x + line_pieces g w c y = pieces_sum x y w (line_parts g (length g) c 1) (h c) d in
        (omega arith, whole_set row c (x + y) h (divides_sum x y (line_parts g (length g) c 1) (h c) d))

    total_added : (cs : List ℕ) (y : ℕ) (row : List ℕ) → AllByRecursion (λ c. c < length row) cs → AllByRecursion (λ c. divides_all y (line_parts g (length g) c 1) ≡ true) cs → Whole row
        → (total (added_each cs y row) ≡ sum_by (λ c. line_pieces g w c y) cs + total row) × Whole (added_each cs y row)
    unfolding added_each
    total_added [] y row l d h = (omega arith, h)
    total_added (c ∷ cs) y row l d h =
        let r : List ℕ = set row c (get_or row c 0 + y) in
        let m = total_more row c y l.0 h d.0 in
        let t = total_added cs y r (All-weaker (λ x. x < length row) (λ x. x < length r) (λ x k. let z = length-set row c (get_or row c 0 + y) in omega arith) cs l.1) d.1 m.1 in
        let e = t.0 in
        let k = m.0 in
        let z = sum_by-cons (λ x. line_pieces g w x y) c cs in
        (omega arith, t.1)

    -- what comes to somebody dead is divided among the lines below
    pieces_divided : (q x : ℕ) → (person g q).lives ≡ false
        → line_pieces g w q x ≡ sum_by (λ c. line_pieces g w c (x / length (lines_below g (length g) q))) (lines_below g (length g) q)
    pieces_divided q x v =
        let ws = lines_below g (length g) q in
        let k = length ws in
        ap (λ (ps : List Part). pieces x ps w) (parts_dead s q 1 v)
        ∙ (pieces_joined x w (λ c. line_parts g (length g) c (1 * k)) ws
        ∙ sumBy_cong (λ c. pieces x (line_parts g (length g) c (1 * k)) w) (λ c. line_pieces g w c (x / k)) ws
        (all_any (λ c. pieces x (line_parts g (length g) c (1 * k)) w ≡ line_pieces g w c (x / k))
        (λ c. line_pieces_by g (length g) x c (1 * k) w ∙ ap (λ (j : ℕ). line_pieces g w c (x / j)) (one k)) ws))
      where
        one : (k : ℕ) → 1 * k ≡ k
        one k = omega arith

    divides_below : (q x : ℕ) → (person g q).lives ≡ false → divides_all x (line_parts g (length g) q 1) ≡ true
        → AllByRecursion (λ c. divides_all (x / length (lines_below g (length g) q)) (line_parts g (length g) c 1) ≡ true) (lines_below g (length g) q)
    divides_below q x v h =
        let ws = lines_below g (length g) q in
        let k = length ws in
        All-weaker (λ c. divides_all x (line_parts g (length g) c (1 * k)) ≡ true) (λ c. divides_all (x / k) (line_parts g (length g) c 1) ≡ true)
        (λ c d. ap (λ (j : ℕ). divides_all (x / j) (line_parts g (length g) c 1)) (one k) ∙ line_divides_by g (length g) x c (1 * k) d) ws
        (divides_joined x (λ c. line_parts g (length g) c (1 * k)) ws (ap (divides_all x) (sym (parts_dead s q 1 v)) ∙ h))
      where
        one : (k : ℕ) → k ≡ 1 * k
        one k = omega arith

    total_handed : (q : ℕ) (row : List ℕ) → alive g q ≡ true → length g ≤ length row → Whole row
        → (total (handed_on (divided_among g q) q row) ≡ total row) × Whole (handed_on (divided_among g q) q row)
    unfolding handed_on
    total_handed q row a l h =
        ⊎_elim
        (λ (v : (person g q).lives ≡ true).
        subst (λ (cs : List ℕ). (total (handed_on cs q row) ≡ total row) × Whole (handed_on cs q row)) (sym (among_lives s q v)) (refl, h))
        (λ (v : (person g q).lives ≡ false).
        let ws = lines_below g (length g) q in
        let x = get_or row q 0 in
        let r : List ℕ = set row q 0 in
        let there : q < length row = let z = alive_there s q a in omega arith in
        let nothing = pieces_nothing (line_parts g (length g) q 1) w in
        let put = total_put row q 0 there in
        let t =
        total_added ws (x / length ws) r
        (All-weaker (λ c. c < length g) (λ c. c < length r) (λ c k. let z = length-set row q 0 in omega arith) ws (subst (AllByRecursion (λ c. c < length g)) (among_dead s q v) (divided_among_there s q)))
        (divides_below q x v (h q)) (whole_set row q 0 h (divides_nothing (line_parts g (length g) q 1))) in
        let e = t.0 in
        let k = pieces_divided q x v in
        subst (λ (z : List ℕ). (total z ≡ total row) × Whole z)
        (sym (ap (λ (cs : List ℕ). handed_on cs q row) (among_dead s q v) ∙ handed_many ws q row (some_below s q a v))) (omega arith, t.1))
        (cases_Bool (person g q).lives)

    total_handed_down : (os row : List ℕ) → AllByRecursion (λ q. alive g q ≡ true) os → length g ≤ length row → Whole row → total (handed_down (divided_among g) os row) ≡ total row
    unfolding handed_down
    total_handed_down [] row a l h = refl
    total_handed_down (q ∷ qs) row a l h =
        let t = total_handed q row a.0 l h in
        let z = length-handed_on (divided_among g q) q row in
        total_handed_down qs (handed_on (divided_among g q) q row) a.1 (omega arith) t.1 ∙ t.0

    -- what lines begin with
    total_started : (times n : ℕ) (ss : List Part) (row : List ℕ) → AllByRecursion (λ (p : Part). p.who < length row) ss → divides_all n (starts_parts g ss) ≡ true → Whole row
        → (total (started times n ss row) ≡ times * pieces n (starts_parts g ss) w + total row) × Whole (started times n ss row)
    unfolding started pieces
    total_started times n [] row l d h = (omega arith, h)
    total_started times n (p ∷ ss) row l d h =
        let y = times * (n / p.by) in
        let r : List ℕ = set row p.who (get_or row p.who 0 + y) in
        let k = divides_both n (line_parts g (length g) p.who p.by) (starts_parts g ss) d in
        let one : divides_all (n / p.by) (line_parts g (length g) p.who 1) ≡ true = line_divides_by g (length g) n p.who p.by k.0 in
        let m = total_more row p.who y l.0 h (divides_times times (n / p.by) (line_parts g (length g) p.who 1) one) in
        let t =
        total_started times n ss r
        (All-weaker (λ (x : Part). x.who < length row) (λ (x : Part). x.who < length r) (λ x i. let z = length-set row p.who (get_or row p.who 0 + y) in omega arith) ss l.1) k.1 m.1 in
        let e = t.0 in
        let f = m.0 in
        let u : line_pieces g w p.who y ≡ times * pieces n (line_parts g (length g) p.who p.by) w =
        pieces_times times (n / p.by) w (line_parts g (length g) p.who 1) one
        ∙ ap (λ (x : ℕ). times * x) (sym (line_pieces_by g (length g) n p.who p.by w)) in
        let v = pieces_append n (line_parts g (length g) p.who p.by) (starts_parts g ss) w in (
          join times (total (started times n ss r)) (pieces n (starts_parts g ss) w) (total r) (line_pieces g w p.who y) (total row) (pieces n (line_parts g (length g) p.who p.by) w)
              (pieces n (starts_parts g (p ∷ ss)) w) e f u v,
          t.1,
        )
      where
        join : (times a b c d e x y : ℕ) → a ≡ times * b + c → c ≡ d + e → d ≡ times * x → y ≡ x + b → a ≡ times * y + e
        join times a b c d e x y i j k l = omega (arith, ap (λ (z : ℕ). times * z) l)

    total_nothing : (row : List ℕ) → NoAmounts row → total row ≡ 0
    total_nothing row z =
        total_none (λ p x. line_pieces g w p x) 0 row
        (λ p. ap (λ (x : ℕ). line_pieces g w (0 + p) x) (z p) ∙ pieces_nothing (line_parts g (length g) (0 + p) 1) w)

    -- at the end only w's own place gives w something
    pub pieces_at_end : (os row : List ℕ) (ss : List Part) (times n : ℕ) → Listing g os → Starts g os ss → length g ≤ length row → NoAmounts row → divides_all n (starts_parts g ss) ≡ true
        → get_or (handed_down (divided_among g) os (started times n ss row)) w 0 ≡ times * pieces n (starts_parts g ss) w
    pieces_at_end os row ss times n h b l z d =
        let r : List ℕ = started times n ss row in
        let end : List ℕ = handed_down (divided_among g) os r in
        let t = total_started times n ss row there d whole in
        let long = length-started times n ss row in
        let e : total end ≡ total r = total_handed_down os r h.living (omega arith) t.1 in
        let f : total end ≡ get_or end w 0 =
        total_cong (λ p x. line_pieces g w p x) (own w) 0 end (λ p. subst (λ (q : ℕ). line_pieces g w q (get_or end p 0) ≡ own w q (get_or end p 0)) (sym (nought p)) (each p))
        ∙ (ap (λ (v : ℕ). total_from (own v) 0 end) (sym (nought w)) ∙ total_own 0 w end) in
        let k = t.0 in
        let y = total_nothing row z in
        omega (arith, sym f ∙ e)
      where
        nought : (p : ℕ) → 0 + p ≡ p
        nought p = omega arith

        there : AllByRecursion (λ (p : Part). p.who < length row) ss
        there = All-weaker (λ (p : Part). alive g p.who ≡ true) (λ (p : Part). p.who < length row) (λ p a. let v = alive_there s p.who a in omega arith) ss b.living

        whole : Whole row
        whole p = ap (λ (x : ℕ). divides_all x (line_parts g (length g) p 1)) (z p) ∙ divides_nothing (line_parts g (length g) p 1)

        nothing : (t : Bool) → cond {A = ℕ} t 0 0 ≡ 0
        nothing true = refl
        nothing false = refl

        -- a place in which there is nothing
        empty : (p x : ℕ) → x ≡ 0 → line_pieces g w p x ≡ own w p x
        empty p x e = ap (λ (y : ℕ). line_pieces g w p y) e ∙ (pieces_nothing (line_parts g (length g) p 1) w ∙ sym (ap (λ (y : ℕ). own w p y) e ∙ nothing (eqb p w)))

        -- the place of somebody who lives
        lived : (p x : ℕ) → (person g p).lives ≡ true → line_pieces g w p x ≡ own w p x
        lived p x v = ap (λ (ps : List Part). pieces x ps w) (parts_lives s p 1 v) ∙ one p x
          where
            one : (p x : ℕ) → pieces x (record { who = p; by = 1 } ∷ []) w ≡ own w p x
            one p x = unfold pieces in (let e = div-one x in rw e (omega arith))

        each : (p : ℕ) → line_pieces g w p (get_or (handed_down (divided_among g) os (started times n ss row)) p 0) ≡ own w p (get_or (handed_down (divided_among g) os (started times n ss row)) p 0)
        each p =
            ⊎_elim
            (λ (i : is_in p os ≡ true).
            ⊎_elim (λ (v : (person g p).lives ≡ true). lived p (get_or (handed_down (divided_among g) os (started times n ss row)) p 0) v)
            (λ (v : (person g p).lives ≡ false).
            empty p (get_or (handed_down (divided_among g) os (started times n ss row)) p 0)
            (handed_down_self (divided_among g) os (started times n ss row) p h.order i
            (subst (λ (cs : List ℕ). 0 < length cs) (sym (among_dead s p v)) (some_below s p (all_in (λ q. alive g q ≡ true) os h.living p i) v))))
            (cases_Bool (person g p).lives))
            (λ (i : is_in p os ≡ false).
            empty p (get_or (handed_down (divided_among g) os (started times n ss row)) p 0)
            (handed_down_other (divided_among g) os (started times n ss row) p h.order i
            ∙ (started_other times n ss row p (All-weaker (λ (q : Part). is_in q.who os ≡ true) (λ (q : Part). p ≢ q.who) (λ q k e. in_not q.who p os k i (sym e)) ss b.listed) ∙ z p)))
            (cases_Bool (is_in p os))

  -- who has anything at the end is listed, and lives
  pub heir_listed : (os row : List ℕ) (ss : List Part) (times n w : ℕ) → Listing g os → Starts g os ss → NoAmounts row
      → 0 < get_or (handed_down (divided_among g) os (started times n ss row)) w 0 → (is_in w os ≡ true) × ((person g w).lives ≡ true)
  heir_listed os row ss times n w h b z l =
      ⊎_elim
      (λ (i : is_in w os ≡ true).
      ⊎_elim (λ (v : (person g w).lives ≡ true). (i, v))
      (λ (v : (person g w).lives ≡ false).
      let e =
      handed_down_self (divided_among g) os (started times n ss row) w h.order i
      (subst (λ (cs : List ℕ). 0 < length cs) (sym (among_dead s w v)) (some_below s w (all_in (λ q. alive g q ≡ true) os h.living w i) v)) in
      absurd (omega arith))
      (cases_Bool (person g w).lives))
      (λ (i : is_in w os ≡ false).
      let e =
      handed_down_other (divided_among g) os (started times n ss row) w h.order i
      ∙ (started_other times n ss row w (All-weaker (λ (q : Part). is_in q.who os ≡ true) (λ (q : Part). w ≢ q.who) (λ q k e. in_not q.who w os k i (sym e)) ss b.listed) ∙ z w) in
      absurd (omega arith))
      (cases_Bool (is_in w os))

pub pieces_right : PiecesRight
unfolding PiecesRight
pieces_right g rk os row ss times n w s h b l z d = pieces_at_end s w os row ss times n h b l z d
