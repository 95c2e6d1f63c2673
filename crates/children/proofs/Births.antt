-- A birth: what filing the child under its mother and its father makes of the links. Assumes nothing.
use Rattle.std.proofs.Common.{◌≡◌, ℕ, zero, suc, ◌+◌, ◌-◌, ◌*◌, ◌<◌, ◌≤◌, Bool, true, false, cond, ◌||◌, eqb, ◌⊎◌, List, [], ◌∷◌, ◌++◌, length, get_or, set, sym, refl, ap, ◌∙◌, ap₂, inl, inr, ⊎_elim, arith}
use Rattle.std.proofs.lemmas.List.{append-nil, length-set, get_or_past, get_or-set_same, get_or-set_other}
use Rattle.std.proofs.lemmas.Bool.{cases_eq, both_ways, eq-eqb, ne_eqb, cond-true, cond-false, or_left, or_right, or_from}
use Rattle.law.specs.Family.{Person, person, Family, nobody, is_child, children}
use Rattle.law.specs.Calls.{newborn}
use Rattle.rows.specs.Tables.{table}
use Rattle.rows.proofs.Tables.{same_tables}
use Rattle.children.specs.Links.{first_of, last_of, successor, behind, link_row, has_parent, OfLast, TwoParents, next_place, end_place, appended, filed}
use Rattle.theory.proofs.Families.{parent_cases}
use Rattle.theory.proofs.Children.{children_child, children_push}
use Rattle.children.proofs.Children.{children_there, children_past, children_ascending, person_other, person_last}
use Rattle.children.proofs.Links.{all_last, first_push, last_push, successor_push, children_successor, table_ext, links_wide, length-links, link_read, behind_same}

-- The words after two writes of one value.
set_both : (t : List ℕ) (a b v : ℕ) → b < length t → get_or (set (set t a v) b v) b 0 ≡ v
set_both t a b v h = get_or-set_same (set t a v) b v 0 (omega (arith, length-set t a v))

set_first : (t : List ℕ) (a b i v : ℕ) → (i ≡ b → ⊥) → i ≡ a → i < length t → get_or (set (set t a v) b v) i 0 ≡ v
set_first t a b i v nb e h =
    get_or-set_other (set t a v) b i v 0 nb ∙ ap (λ z. get_or (set t z v) i 0) (sym e) ∙ get_or-set_same t i v 0 h

set_neither : (t : List ℕ) (a b i v : ℕ) → (i ≡ b → ⊥) → (i ≡ a → ⊥) → get_or (set (set t a v) b v) i 0 ≡ get_or t i 0
set_neither t a b i v nb na = get_or-set_other (set t a v) b i v 0 nb ∙ get_or-set_other t a i v 0 na

-- g is f with k as one more child of p, behind the others; the links behind k, if any, are as they were.
record OneMore (f g : Family) (p k : ℕ) : Type 0 where
  own : children g p ≡ children f p ++ (k ∷ [])
  others : (q : ℕ) → (q ≡ p → ⊥) → children g q ≡ children f q
  parents : (c : ℕ) → (c ≡ k → ⊥) → ((person g c).mother ≡ (person f c).mother) × ((person g c).father ≡ (person f c).father)
  by_mother : behind g (person g k).mother k ≡ behind f (person f k).mother k
  by_father : behind g (person g k).father k ≡ behind f (person f k).father k

-- what comes behind c of a parent, with k as one more child of p
behind_more : (f g : Family) (p k : ℕ) → OneMore f g p k → (m c : ℕ) →
    ((m ≡ suc p) × (last_of (children f p) ≡ suc c) × (behind g m c ≡ suc k)) ⊎ (((m ≡ suc p → last_of (children f p) ≡ suc c → ⊥)) × (behind g m c ≡ behind f m c))
unfolding behind
behind_more f g p k s zero c = inr (λ e. absurd (omega arith), refl)
behind_more f g p k s (suc r) c =
    ⊎_elim
    (λ (e : r ≡ p).
    let x : successor (children g r) c ≡ cond (eqb (last_of (children f p)) (suc c)) (suc k) (successor (children f p) c) =
    ap (λ z. successor (children g z) c) e ∙ ap (λ z. successor z c) s.own ∙ successor_push (children f p) k c (children_ascending f p) in
    ⊎_elim (λ (l : last_of (children f p) ≡ suc c). inl (ap suc e, l, x ∙ cond-true (eqb (last_of (children f p)) (suc c)) (suc k) (successor (children f p) c) (eq-eqb (last_of (children f p)) (suc c) l)))
    (λ (l : last_of (children f p) ≡ suc c → ⊥).
    inr (λ _ h. l h, x ∙ cond-false (eqb (last_of (children f p)) (suc c)) (suc k) (successor (children f p) c) (ne_eqb (last_of (children f p)) (suc c) l) ∙ ap (λ z. successor (children f z) c) (sym e)))
    (cases_eq (last_of (children f p)) (suc c)))
    (λ (e : r ≡ p → ⊥). inr (λ q _. e (omega arith), ap (λ z. successor z c) (s.others r e)))
    (cases_eq r p)

-- The words after a child is filed behind the last of p, one by one.
module _ (n : ℕ) (f g : Family) (p k : ℕ) (room : p < n) (more : OneMore f g p k) where
  kept :
      (a q j : ℕ) → q < n → j < 4 → (4 * q + j ≡ 4 * p + 1 → ⊥) → (4 * q + j ≡ a → ⊥) → get_or (link_row g q) j 0 ≡ get_or (link_row f q) j 0 →
      get_or (set (set (table n (link_row f)) a (k + 1)) (4 * p + 1) (k + 1)) (4 * q + j) 0 ≡ get_or (link_row g q) j 0
  kept a q j h l nb na e = set_neither (table n (link_row f)) a (4 * p + 1) (4 * q + j) (k + 1) nb na ∙ link_read n f q j h l ∙ sym e

  moved :
      (a q j : ℕ) → q < n → j < 4 → (4 * q + j ≡ 4 * p + 1 → ⊥) → 4 * q + j ≡ a → get_or (link_row g q) j 0 ≡ suc k →
      get_or (set (set (table n (link_row f)) a (k + 1)) (4 * p + 1) (k + 1)) (4 * q + j) 0 ≡ get_or (link_row g q) j 0
  moved a q j h l nb e v =
      let e' : k + 1 ≡ suc k = omega arith in
      set_first (table n (link_row f)) a (4 * p + 1) (4 * q + j) (k + 1) nb e (omega (arith, length-links n f)) ∙ e' ∙ sym v

  -- the link to the last child
  last_word :
      (a q : ℕ) → q < n → (4 * q + 1 ≡ a → ⊥) →
      get_or (set (set (table n (link_row f)) a (k + 1)) (4 * p + 1) (k + 1)) (4 * q + 1) 0 ≡ last_of (children g q)
  last_word a q h na =
      ⊎_elim
      (λ (e : q ≡ p).
      let e' : k + 1 ≡ suc k = omega arith in
      ap (λ z. get_or (set (set (table n (link_row f)) a (k + 1)) (4 * p + 1) (k + 1)) (4 * z + 1) 0) e
      ∙ set_both (table n (link_row f)) a (4 * p + 1) (k + 1) (omega (arith, length-links n f))
      ∙ e' ∙ sym (last_push (children f p) k) ∙ ap last_of (sym more.own) ∙ ap (λ z. last_of (children g z)) (sym e))
      (λ (e : q ≡ p → ⊥). kept a q 1 h (omega arith) (λ z. e (omega arith)) na (ap last_of (more.others q e)))
      (cases_eq q p)

  -- the link to the next child of a mother or a father
  side_word :
      (side : Person → ℕ) → ((c : ℕ) → (c ≡ k → ⊥) → side (person g c) ≡ side (person f c)) → behind g (side (person g k)) k ≡ behind f (side (person f k)) k →
      (last_of (children f p) ≡ suc k → ⊥) → (q : ℕ) →
      ((side (person f q) ≡ suc p) × (last_of (children f p) ≡ suc q) × (behind g (side (person g q)) q ≡ suc k))
      ⊎ ((side (person f q) ≡ suc p → last_of (children f p) ≡ suc q → ⊥) × (behind g (side (person g q)) q ≡ behind f (side (person f q)) q))
  side_word side same own new q =
      ⊎_elim
      (λ (e : q ≡ k). inr (λ _ h. new (h ∙ ap suc e), (λ i. behind g (side (person g (e i))) (e i)) ∙ own ∙ (λ i. behind f (side (person f (sym e i))) (sym e i))))
      (λ (e : q ≡ k → ⊥).
      let w = ap (λ z. behind g z q) (same q e) in
      ⊎_elim (λ u. inl (u.0, u.1, w ∙ u.2)) (λ u. inr (u.0, w ∙ u.1)) (behind_more f g p k more (side (person f q)) q))
      (cases_eq q k)

  -- the first child of p
  first_words :
      last_of (children f p) ≡ 0 → (q j : ℕ) → q < n → j < 4 →
      get_or (set (set (table n (link_row f)) (4 * p) (k + 1)) (4 * p + 1) (k + 1)) (4 * q + j) 0 ≡ get_or (link_row g q) j 0
  first_words none q zero h l =
      ⊎_elim
      (λ (e : q ≡ p).
      moved (4 * p) q 0 h (omega arith) (λ z. omega arith) (omega arith)
      (ap (λ z. first_of (children g z)) e ∙ ap first_of more.own ∙ first_push (children f p) k
      ∙ cond-true (eqb (last_of (children f p)) 0) (suc k) (first_of (children f p)) (eq-eqb (last_of (children f p)) 0 none)))
      (λ (e : q ≡ p → ⊥). kept (4 * p) q 0 h (omega arith) (λ z. omega arith) (λ z. e (omega arith)) (ap first_of (more.others q e)))
      (cases_eq q p)
  first_words none q (suc zero) h l = last_word (4 * p) q h (λ z. omega arith)
  first_words none q (suc (suc zero)) h l =
      kept (4 * p) q 2 h (omega arith) (λ z. omega arith) (λ z. omega arith)
      (⊎_elim (λ u. absurd (let e = u.1 in omega arith)) (λ u. u.1)
      (side_word (λ x. x.mother) (λ c ne. (more.parents c ne).0) more.by_mother (λ z. omega arith) q))
  first_words none q (suc (suc (suc zero))) h l =
      kept (4 * p) q 3 h (omega arith) (λ z. omega arith) (λ z. omega arith)
      (⊎_elim (λ u. absurd (let e = u.1 in omega arith)) (λ u. u.1)
      (side_word (λ x. x.father) (λ c ne. (more.parents c ne).1) more.by_father (λ z. omega arith) q))
  first_words none q (suc (suc (suc (suc j)))) h l = absurd (omega arith)

  -- a child behind c, whose link is the j'-th
  later_words :
      TwoParents f → (c j' : ℕ) → last_of (children f p) ≡ suc c → (c ≡ k → ⊥) → ((person f c).mother ≡ suc p → j' ≡ 2) → (((person f c).mother ≡ suc p → ⊥) → j' ≡ 3) →
      (q j : ℕ) → q < n → j < 4 →
      get_or (set (set (table n (link_row f)) (4 * c + j') (k + 1)) (4 * p + 1) (k + 1)) (4 * q + j) 0 ≡ get_or (link_row g q) j 0
  later_words distinct c j' last ne by-m by-f = at
    where
      either : (j' ≡ 2) ⊎ (j' ≡ 3)
      either = ⊎_elim (λ e. inl (by-m e)) (λ e. inr (by-f e)) (cases_eq (person f c).mother (suc p))

      beside : (i : ℕ) → i < 2 → (q : ℕ) → 4 * q + i ≡ 4 * c + j' → ⊥
      beside i l q e = ⊎_elim (λ (z : j' ≡ 2). omega arith) (λ (z : j' ≡ 3). omega arith) either

      new : last_of (children f p) ≡ suc k → ⊥
      new e = ne (omega arith)

      at : (q j : ℕ) → q < n → j < 4 → get_or (set (set (table n (link_row f)) (4 * c + j') (k + 1)) (4 * p + 1) (k + 1)) (4 * q + j) 0 ≡ get_or (link_row g q) j 0
      at q zero h l =
          kept (4 * c + j') q 0 h (omega arith) (λ z. omega arith) (beside 0 (omega arith) q)
          (⊎_elim
          (λ (e : q ≡ p).
          ap (λ z. first_of (children g z)) e ∙ ap first_of more.own ∙ first_push (children f p) k
          ∙ cond-false (eqb (last_of (children f p)) 0) (suc k) (first_of (children f p)) (ne_eqb (last_of (children f p)) 0 (λ z. omega arith))
          ∙ ap (λ z. first_of (children f z)) (sym e))
          (λ (e : q ≡ p → ⊥). ap first_of (more.others q e)) (cases_eq q p))
      at q (suc zero) h l = last_word (4 * c + j') q h (beside 1 (omega arith) q)
      at q (suc (suc zero)) h l =
          ⊎_elim
          (λ u.
          let e : q ≡ c = let x = u.1 in omega arith in
          let second : j' ≡ 2 = by-m (ap (λ z. (person f z).mother) (sym e) ∙ u.0) in
          moved (4 * c + j') q 2 h (omega arith) (λ z. omega arith) (omega arith) u.2)
          (λ u.
          kept (4 * c + j') q 2 h (omega arith) (λ z. omega arith)
          (λ z.
          ⊎_elim
          (λ (m : (person f c).mother ≡ suc p).
          let second = by-m m in
          let e : q ≡ c = omega arith in
          u.0 (ap (λ z. (person f z).mother) e ∙ m) (last ∙ ap suc (sym e)))
          (λ (m : (person f c).mother ≡ suc p → ⊥). let third = by-f m in omega arith)
          (cases_eq (person f c).mother (suc p)))
          u.1)
          (side_word (λ x. x.mother) (λ c ne. (more.parents c ne).0) more.by_mother new q)
      at q (suc (suc (suc zero))) h l =
          ⊎_elim
          (λ u.
          let e : q ≡ c = let x = u.1 in omega arith in
          let d : (person f c).father ≡ suc p = ap (λ z. (person f z).father) (sym e) ∙ u.0 in
          let third : j' ≡ 3 = by-f (λ m. let z = distinct c (m ∙ sym d) in omega arith) in
          moved (4 * c + j') q 3 h (omega arith) (λ z. omega arith) (omega arith) u.2)
          (λ u.
          kept (4 * c + j') q 3 h (omega arith) (λ z. omega arith)
          (λ z.
          ⊎_elim
          (λ (m : (person f c).mother ≡ suc p). let second = by-m m in omega arith)
          (λ (m : (person f c).mother ≡ suc p → ⊥).
          let third = by-f m in
          let e : q ≡ c = omega arith in
          let d : (person f c).father ≡ suc p = ⊎_elim (λ y. absurd (m y)) (λ y. y) (parent_cases f p c (all_last (λ x. is_child f p x ≡ true) (children f p) c (children_child f p) last)) in
          u.0 (ap (λ z. (person f z).father) e ∙ d) (last ∙ ap suc (sym e)))
          (cases_eq (person f c).mother (suc p)))
          u.1)
          (side_word (λ x. x.father) (λ c ne. (more.parents c ne).1) more.by_father new q)
      at q (suc (suc (suc (suc j)))) h l = absurd (omega arith)

  -- filing k behind the last child of p
  appended_more :
      TwoParents f → (last_of (children f p) ≡ suc k → ⊥) → (by_mother : Bool) → OfLast f (suc p) by_mother →
      appended (table n (link_row f)) p k by_mother ≡ table n (link_row g)
  appended_more distinct new by_mother of-last =
      let t : List ℕ = table n (link_row f) in
      let last : get_or t (4 * p + 1) 0 ≡ last_of (children f p) = link_read n f p 1 room (omega arith) in
      let long : (a : ℕ) → length (set (set t a (k + 1)) (4 * p + 1) (k + 1)) ≡ 4 * n =
      λ a. length-set (set t a (k + 1)) (4 * p + 1) (k + 1) ∙ length-set t a (k + 1) ∙ length-links n f in
      let to : (a : ℕ) → end_place t p by_mother ≡ a → ((q j : ℕ) → q < n → j < 4 → get_or (set (set t a (k + 1)) (4 * p + 1) (k + 1)) (4 * q + j) 0 ≡ get_or (link_row g q) j 0) → appended t p k by_mother ≡ table n (link_row g) =
      λ a e at. ap (λ z. set (set t z (k + 1)) (4 * p + 1) (k + 1)) e ∙ table_ext 4 n (link_row g) (set (set t a (k + 1)) (4 * p + 1) (k + 1)) (omega arith) (links_wide g) (long a) at in
      ⊎_elim
      (λ (e : last_of (children f p) ≡ 0).
      to (4 * p) (cond-true (eqb (get_or t (4 * p + 1) 0) 0) (4 * p) (next_place (get_or t (4 * p + 1) 0 - 1) by_mother) (eq-eqb (get_or t (4 * p + 1) 0) 0 (last ∙ e))) (first_words e))
      (λ (e : last_of (children f p) ≡ 0 → ⊥).
      let c : ℕ = last_of (children f p) - 1 in
      let s : last_of (children f p) ≡ suc c = omega arith in
      let by = of-last p c refl s in
      to (4 * c + cond by_mother 2 3)
      (cond-false (eqb (get_or t (4 * p + 1) 0) 0) (4 * p) (next_place (get_or t (4 * p + 1) 0 - 1) by_mother) (ne_eqb (get_or t (4 * p + 1) 0) 0 (λ z. e (sym last ∙ z)))
      ∙ ap (λ z. next_place (z - 1) by_mother) last)
      (later_words distinct c (cond by_mother 2 3) s (λ z. new (s ∙ ap suc z))
      (λ m. cond-true by_mother 2 3 (by ∙ eq-eqb (person f c).mother (suc p) m)) (λ m. cond-false by_mother 2 3 (by ∙ ne_eqb (person f c).mother (suc p) m))))
      (cases_eq (last_of (children f p)) 0)

-- a family whose newest has p as one parent more
one_more :
    (f : Family) (x y : Person) (p : ℕ) → has_parent x p ≡ false → has_parent y p ≡ true → ((q : ℕ) → (q ≡ p → ⊥) → has_parent y q ≡ has_parent x q) →
    (y.mother ≡ x.mother) ⊎ ((x.mother ≡ 0) × (y.mother ≡ suc p)) → (y.father ≡ x.father) ⊎ ((x.father ≡ 0) × (y.father ≡ suc p)) →
    OneMore (f ++ (x ∷ [])) (f ++ (y ∷ [])) p (length f)
unfolding behind first_of
one_more f x y p without with others mothers fathers =
    record {
      own = own;
      others = same;
      parents = λ c ne. let e = person_other f y c ne ∙ sym (person_other f x c ne) in (ap (λ z. z.mother) e, ap (λ z. z.father) e);
      by_mother =
          ap (λ z. behind (f ++ (y ∷ [])) z.mother (length f)) (person_last f y) ∙ side y.mother x.mother (λ e. or_left _ _ e) mothers
          ∙ ap (λ z. behind (f ++ (x ∷ [])) z.mother (length f)) (sym (person_last f x));
      by_father =
          ap (λ z. behind (f ++ (y ∷ [])) z.father (length f)) (person_last f y) ∙ side y.father x.father (λ e. or_right _ _ e) fathers
          ∙ ap (λ z. behind (f ++ (x ∷ [])) z.father (length f)) (sym (person_last f x));
    }
  where
    own : children (f ++ (y ∷ [])) p ≡ children (f ++ (x ∷ [])) p ++ (length f ∷ [])
    own =
        children_push f y p ∙ ap (λ b. children f p ++ cond b (length f ∷ []) []) with
        ∙ ap (λ xs. xs ++ (length f ∷ [])) (sym (children_push f x p ∙ ap (λ b. children f p ++ cond b (length f ∷ []) []) without ∙ append-nil (children f p)))

    same : (q : ℕ) → (q ≡ p → ⊥) → children (f ++ (y ∷ [])) q ≡ children (f ++ (x ∷ [])) q
    same q ne = children_push f y q ∙ ap (λ b. children f q ++ cond b (length f ∷ []) []) (others q ne) ∙ sym (children_push f x q)

    side : (n m : ℕ) → (eqb m (suc p) ≡ true → has_parent x p ≡ true) → (n ≡ m) ⊎ ((m ≡ 0) × (n ≡ suc p)) → behind (f ++ (y ∷ [])) n (length f) ≡ behind (f ++ (x ∷ [])) m (length f)
    side n m has which =
        ⊎_elim
        (λ e. ap (λ z. behind (f ++ (y ∷ [])) z (length f)) e
        ∙ behind_same (f ++ (x ∷ [])) (f ++ (y ∷ [])) m (length f)
        (λ q s. same q (λ z. both_ways (has_parent x p) without (has (eq-eqb m (suc p) (s ∙ ap suc z))))))
        (λ u. ap (λ z. behind (f ++ (y ∷ [])) z (length f)) u.1
        ∙ children_successor (f ++ (y ∷ [])) p (length f) (children (f ++ (x ∷ [])) p) [] own
        ∙ ap (λ z. behind (f ++ (x ∷ [])) z (length f)) (sym u.0))
        which

-- filing the newest under p
filed_more :
    (n : ℕ) (f : Family) (x y : Person) (p : ℕ) (by_mother : Bool) → length f < n → p < length f → TwoParents f → (x.mother ≡ x.father → x.mother ≡ 0) →
    has_parent x p ≡ false → OneMore (f ++ (x ∷ [])) (f ++ (y ∷ [])) p (length f) → OfLast f (suc p) by_mother →
    appended (table n (link_row (f ++ (x ∷ [])))) p (length f) by_mother ≡ table n (link_row (f ++ (y ∷ [])))
filed_more n f x y p by_mother room there distinct distinct' without more of-last =
    appended_more n (f ++ (x ∷ [])) (f ++ (y ∷ [])) p (length f) (omega arith) more
    (λ c e. ⊎_elim
    (λ (q : c ≡ length f).
    let z : person (f ++ (x ∷ [])) c ≡ x = ap (λ i. person (f ++ (x ∷ [])) i) q ∙ person_last f x in
    ap (λ z. z.mother) z ∙ distinct' (sym (ap (λ z. z.mother) z) ∙ e ∙ ap (λ z. z.father) z))
    (λ (q : c ≡ length f → ⊥).
    let z : person (f ++ (x ∷ [])) c ≡ person f c = person_other f x c q in
    ap (λ z. z.mother) z ∙ distinct c (sym (ap (λ z. z.mother) z) ∙ e ∙ ap (λ z. z.father) z))
    (cases_eq c (length f)))
    (λ e. let l = before (length f) e in omega arith)
    by_mother
    (λ q c s e.
    let r : q ≡ p = omega arith in
    let e' : last_of (children (f ++ (x ∷ [])) p) ≡ suc c = ap (λ z. last_of (children (f ++ (x ∷ [])) z)) (sym r) ∙ e in
    let l = before c e' in
    of-last p c refl (ap last_of (sym same) ∙ e') ∙ (λ i. eqb (sym (person_other f x c (λ z. omega arith)) i).mother (suc (sym r i))))
  where
    same : children (f ++ (x ∷ [])) p ≡ children f p
    same = children_push f x p ∙ ap (λ b. children f p ++ cond b (length f ∷ []) []) without ∙ append-nil (children f p)

    before : (c : ℕ) → last_of (children (f ++ (x ∷ [])) p) ≡ suc c → c < length f
    before c e = all_last (λ z. z < length f) (children f p) c (children_there f p) (ap last_of (sym same) ∙ e)

-- one more, of whom no parents are known, changes no links
links_unknown : (n : ℕ) (f : Family) → table n (link_row f) ≡ table n (link_row (f ++ (newborn 0 0 ∷ [])))
links_unknown n f =
    same_tables n (link_row f) (link_row (f ++ (x ∷ [])))
    (λ p _.
    let m : behind f (person f p).mother p ≡ behind (f ++ (x ∷ [])) (person (f ++ (x ∷ [])) p).mother p = ap (λ z. behind f z p) (sym (parents p).0) ∙ behind_same (f ++ (x ∷ [])) f _ p (λ q _. same q) in
    let d : behind f (person f p).father p ≡ behind (f ++ (x ∷ [])) (person (f ++ (x ∷ [])) p).father p = ap (λ z. behind f z p) (sym (parents p).1) ∙ behind_same (f ++ (x ∷ [])) f _ p (λ q _. same q) in
    λ i. first_of (same p i) ∷ (last_of (same p i) ∷ (m i ∷ (d i ∷ []))))
  where
    x : Person
    x = newborn 0 0

    same : (p : ℕ) → children f p ≡ children (f ++ (x ∷ [])) p
    same p =
        sym (children_push f x p ∙ ap (λ b. children f p ++ cond b (length f ∷ []) []) (or_from (eqb 0 (suc p)) (eqb 0 (suc p)) (ne_eqb 0 (suc p) (λ e. omega arith)) (ne_eqb 0 (suc p) (λ e. omega arith))) ∙ append-nil (children f p))

    parents : (p : ℕ) → ((person (f ++ (x ∷ [])) p).mother ≡ (person f p).mother) × ((person (f ++ (x ∷ [])) p).father ≡ (person f p).father)
    parents p =
        ⊎_elim
        (λ (e : p ≡ length f).
        let u : person (f ++ (x ∷ [])) p ≡ x = ap (λ i. person (f ++ (x ∷ [])) i) e ∙ person_last f x in
        let v : person f p ≡ nobody = get_or_past f p nobody (omega arith) in
        (ap (λ z. z.mother) u ∙ ap (λ z. z.mother) (sym v), ap (λ z. z.father) u ∙ ap (λ z. z.father) (sym v)))
        (λ (e : p ≡ length f → ⊥). let u = person_other f x p e in (ap (λ z. z.mother) u, ap (λ z. z.father) u))
        (cases_eq p (length f))

-- filing the newest under the mother, and then under the father
links_mother :
    (n : ℕ) (f : Family) (m : ℕ) (by_mother : Bool) → length f < n → m ≤ length f → TwoParents f → OfLast f m by_mother →
    filed (table n (link_row (f ++ (newborn 0 0 ∷ [])))) m (length f) by_mother ≡ table n (link_row (f ++ (newborn m 0 ∷ [])))
unfolding filed
links_mother n f zero by_mother room there distinct of-last = refl
links_mother n f (suc p) by_mother room there distinct of-last =
    let none : (q : ℕ) → eqb 0 (suc q) ≡ false = λ q. ne_eqb 0 (suc q) (λ e. omega arith) in
    filed_more n f (newborn 0 0) (newborn (suc p) 0) p by_mother room (omega arith) distinct (λ e. refl)
    (or_from _ _ (none p) (none p))
    (one_more f (newborn 0 0) (newborn (suc p) 0) p (or_from _ _ (none p) (none p)) (or_left _ _ (eq-eqb (suc p) (suc p) refl))
    (λ q ne. ap (λ b. b || eqb 0 (suc q)) (ne_eqb (suc p) (suc q) (λ e. ne (omega arith)) ∙ sym (none q))) (inr (refl, refl)) (inl refl))
    of-last

links_father :
    (n : ℕ) (f : Family) (m d : ℕ) (by_mother : Bool) → length f < n → d ≤ length f → (m ≡ d → m ≡ 0) → TwoParents f → OfLast f d by_mother →
    filed (table n (link_row (f ++ (newborn m 0 ∷ [])))) d (length f) by_mother ≡ table n (link_row (f ++ (newborn m d ∷ [])))
unfolding filed
links_father n f m zero by_mother room there other distinct of-last = refl
links_father n f m (suc p) by_mother room there other distinct of-last =
    let none : (q : ℕ) → eqb 0 (suc q) ≡ false = λ q. ne_eqb 0 (suc q) (λ e. omega arith) in
    let without : has_parent (newborn m 0) p ≡ false = or_from _ _ (ne_eqb m (suc p) (λ e. let z = other e in omega arith)) (none p) in
    filed_more n f (newborn m 0) (newborn m (suc p)) p by_mother room (omega arith) distinct (λ e. e) without
    (one_more f (newborn m 0) (newborn m (suc p)) p without (or_right _ _ (eq-eqb (suc p) (suc p) refl))
    (λ q ne. ap (λ b. eqb m (suc q) || b) (ne_eqb (suc p) (suc q) (λ e. ne (omega arith)) ∙ sym (none q))) (inl refl) (inr (refl, refl)))
    of-last

-- The links of a family with one more are those before with the child filed under its mother and then under its father, where they are known.
pub links_born :
    (n : ℕ) (f : Family) (m d : ℕ) (of_mother of_father : Bool) → length f < n → m ≤ length f → d ≤ length f → (m ≡ d → m ≡ 0) → TwoParents f →
    OfLast f m of_mother → OfLast f d of_father →
    filed (filed (table n (link_row f)) m (length f) of_mother) d (length f) of_father ≡ table n (link_row (f ++ (newborn m d ∷ [])))
links_born n f m d of_mother of_father room m-there d-there other distinct m-last d-last =
    ap (λ t. filed (filed t m (length f) of_mother) d (length f) of_father) (links_unknown n f)
    ∙ ap (λ t. filed t d (length f) of_father) (links_mother n f m of_mother room m-there distinct m-last)
    ∙ links_father n f m d of_father room d-there other distinct d-last

-- the newborn's own words are 0, as they were before (`link_row_past`)
newest_behind : (f : Family) (x : Person) (m : ℕ) → ((p : ℕ) → m ≡ suc p → has_parent x p ≡ true) → behind (f ++ (x ∷ [])) m (length f) ≡ 0
unfolding behind first_of
newest_behind f x zero has = refl
newest_behind f x (suc p) has =
    children_successor (f ++ (x ∷ [])) p (length f) (children f p) [] (children_push f x p ∙ ap (λ b. children f p ++ cond b (length f ∷ []) []) (has p refl))

pub link_row_born :
    (f : Family) (m d : ℕ) → ((c : ℕ) → ((person f c).mother ≤ length f) × ((person f c).father ≤ length f)) → m ≤ length f → d ≤ length f →
    link_row (f ++ (newborn m d ∷ [])) (length f) ≡ 0 ∷ (0 ∷ (0 ∷ (0 ∷ [])))
unfolding first_of last_of
link_row_born f m d there m-there d-there =
    let x : Person = newborn m d in
    let without : has_parent x (length f) ≡ false =
    or_from _ _ (ne_eqb m (suc (length f)) (λ e. omega arith)) (ne_eqb d (suc (length f)) (λ e. omega arith)) in
    let none : children (f ++ (x ∷ [])) (length f) ≡ [] =
    children_push f x (length f) ∙ ap₂ (λ xs b. xs ++ cond b (length f ∷ []) []) (children_past f there (length f) (omega arith)) without in
    let mother = ap (λ z. behind (f ++ (x ∷ [])) z.mother (length f)) (person_last f x) ∙ newest_behind f x m (λ p e. or_left _ _ (eq-eqb m (suc p) e)) in
    let father = ap (λ z. behind (f ++ (x ∷ [])) z.father (length f)) (person_last f x) ∙ newest_behind f x d (λ p e. or_right _ _ (eq-eqb d (suc p) e)) in
    λ i. first_of (none i) ∷ (last_of (none i) ∷ (mother i ∷ (father i ∷ [])))
