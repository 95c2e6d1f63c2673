-- Only persons of the lines that an estate begins with are listed, and whoever is listed and lives has a part. Assumes nothing.
use Rattle.std.proofs.Common.{◌≡◌, ℕ, ◌*◌, ◌%◌, ◌<◌, true, false, eqb, List, [], ◌∷◌, length, sym, refl, subst, ⊎_elim, arith}
use Rattle.std.specs.List.{ContainsAt as Has, flat_map, AllByRecursion}
use Rattle.std.proofs.ByRecursion.{All-weaker, all-has, has_get_or, has_append_left, has_append_right}
use Rattle.std.proofs.lemmas.Bool.{and_parts, eq-eqb, cases_Bool}
use Rattle.law.specs.Family.{person, Family, is_child, Part, line_parts}
use Rattle.law.specs.Calls.{divides_all, pieces}
use Rattle.theory.specs.Families.{Ranked}
use Rattle.theory.specs.Living.{alive, lines_below}
use Rattle.theory.proofs.Lists.{all_both}
use Rattle.theory.proofs.Lines.{line_here, line_step, line_trans}
use Rattle.theory.proofs.Living.{parts_lives, parts_dead}
use Rattle.theory.proofs.Multiples.{quotient_positive, test_divides}
use Rattle.amounts.specs.Passes.{is_in, listed_in, listed, InDescentOrder}
use Rattle.amounts.specs.Lines.{divided_among, starts_persons, starts_parts}
use Rattle.amounts.specs.Estates.{OfSomeLine}
use Rattle.amounts.proofs.Members.{in_all, all_in, in_none, in_cases}
use Rattle.amounts.proofs.Listing.{Grown, alive_there, divided_among_lives, lists_all, lists_in, grown_less}
use Rattle.amounts.proofs.Lines.{among_lives, among_dead}
use Rattle.amounts.proofs.Visits.{divided_among_children}

-- a part in joined rows
joined_has : (g : ℕ → List Part) (r : Part) (c : ℕ) (ws : List ℕ) → is_in c ws ≡ true → Has (g c) r → Has (flat_map g ws) r
joined_has g r c [] i h = absurd (in_none c i)
joined_has g r c (w ∷ ws) i h =
    ⊎_elim (λ (e : c ≡ w). has_append_left (g w) (flat_map g ws) r (subst (λ (x : ℕ). Has (g x) r) e h))
    (λ (k : is_in c ws ≡ true). has_append_right (g w) (flat_map g ws) r (joined_has g r c ws k h)) (in_cases c w ws i)

-- somebody with a part has pieces, of a number that all parts divide
pub has_pieces : (n : ℕ) (ps : List Part) (r : Part) → 0 < n → divides_all n ps ≡ true → Has ps r → 0 < pieces n ps r.who
has_pieces n ps r l d h = all-has (λ (q : Part). 0 < pieces n ps q.who) ps r (each ps d) h
  where
    more : (q : Part) (qs : List Part) (w : ℕ) → 0 < pieces n qs w → 0 < pieces n (q ∷ qs) w
    more q qs w k = unfold pieces in (omega arith)

    own : (q : Part) (qs : List Part) → divides_all n (q ∷ qs) ≡ true → (0 < pieces n (q ∷ qs) q.who) × (divides_all n qs ≡ true)
    own q qs e = unfold divides_all pieces in
        (let t = and_parts (eqb (n % q.by) 0) (divides_all n qs) e in
        let k = quotient_positive n q.by l (test_divides q.by n t.0) in
        (rw (eq-eqb q.who q.who refl) (omega arith), t.1))

    each : (ps : List Part) → divides_all n ps ≡ true → AllByRecursion (λ (q : Part). 0 < pieces n ps q.who) ps
    each [] e = tt
    each (q ∷ qs) e =
        let r = own q qs e in
        (r.0, All-weaker (λ (x : Part). 0 < pieces n qs x.who) (λ (x : Part). 0 < pieces n (q ∷ qs) x.who) (λ x k. more q qs x.who k) qs (each qs r.1))

module _ {g : Family} {rk : ℕ → ℕ} (s : Ranked g rk) where
  -- what holds of lines that live, and then of the lines below, holds of all who are listed
  pub listed_each : (P : ℕ → Type 0) (ps : List ℕ) → ((p : ℕ) → P p → alive g p ≡ true) → ((p : ℕ) → P p → AllByRecursion P (divided_among g p)) → AllByRecursion P ps
      → AllByRecursion P (listed (length g) (divided_among g) ps)
  listed_each P ps lives down a =
      (lists_all (divided_among g) (length g) rk P both within (λ p o. listed_in (length g) (divided_among g) p o) 0 ps
      (All-weaker P (λ p. (out : List ℕ) → InDescentOrder (divided_among g) out → AllByRecursion P out → Grows p out)
      (λ p v out t b.
      let x = lists_in (divided_among g) (length g) rk P both within (length g) p v (omega arith) out t b in
      (grown_less (divided_among g) (length g) rk P both within 0 (rk p) out (listed_in (length g) (divided_among g) p out) (omega arith) x.0, x.1))
      ps a)
      [] (unfold InDescentOrder in tt) tt).0.each
    where
      both : (p : ℕ) → P p → AllByRecursion (λ c. P c × (rk p < rk c)) (divided_among g p)
      both p v =
          all_both P (λ c. (alive g c ≡ true) × (rk p < rk c)) (λ c. P c × (rk p < rk c)) (λ c x y. (x, y.1)) (divided_among g p) (down p v) (divided_among_lives s p)

      within : (p : ℕ) → P p → rk p < length g
      within p v = s.within p (alive_there s p (lives p v))

      Grows : ℕ → List ℕ → Type 0
      Grows p out =
          Grown (divided_among g) (length g) rk P both within 0 out (listed_in (length g) (divided_among g) p out)
          × (is_in p (listed_in (length g) (divided_among g) p out) ≡ true)

  -- only lines that are begun with
  pub listed_concerned : (ps : List ℕ) → AllByRecursion (λ p. alive g p ≡ true) ps → AllByRecursion (λ q. OfSomeLine g ps q) (listed (length g) (divided_among g) ps)
  listed_concerned ps a =
      All-weaker (λ q. (alive g q ≡ true) × OfSomeLine g ps q) (λ q. OfSomeLine g ps q) (λ q v. v.1) (listed (length g) (divided_among g) ps)
      (listed_each (λ q. (alive g q ≡ true) × OfSomeLine g ps q) ps (λ p v. v.0)
      (λ p v.
      all_both (λ c. (alive g c ≡ true) × (rk p < rk c)) (λ c. is_child g p c ≡ true) (λ c. (alive g c ≡ true) × OfSomeLine g ps c)
      (λ c x k. (x.0, (v.1.0, v.1.1, line_trans g v.1.0 p c v.1.2 (line_step g p c c k (line_here g c))))) (divided_among g p) (divided_among_lives s p)
      (divided_among_children g p))
      (in_all (λ q. (alive g q ≡ true) × OfSomeLine g ps q) ps (λ p i. (all_in (λ q. alive g q ≡ true) ps a p i, (p, i, line_here g p)))))

  -- all parts of a line are among the parts that an estate begins with
  abbrev Within : List Part → ℕ → Type 0
  Within ss q = (alive g q ≡ true) × ((b : ℕ) × ((r : Part) → Has (line_parts g (length g) q b) r → Has (starts_parts g ss) r))

  within_below : (ss : List Part) (p : ℕ) → Within ss p → AllByRecursion (Within ss) (divided_among g p)
  within_below ss p v =
      ⊎_elim (λ (e : (person g p).lives ≡ true). subst (AllByRecursion (Within ss)) (sym (among_lives s p e)) tt)
      (λ (e : (person g p).lives ≡ false).
      let ws = lines_below g (length g) p in
      let k = v.1.0 * length ws in
      subst (AllByRecursion (Within ss)) (sym (among_dead s p e))
      (in_all (Within ss) ws
      (λ c i. (
        (all_in (λ x. (alive g x ≡ true) × (rk p < rk x)) ws (subst (AllByRecursion (λ x. (alive g x ≡ true) × (rk p < rk x))) (among_dead s p e) (divided_among_lives s p)) c i).0,
        (
          k,
          λ r h.
              v.1.1 r (subst (λ (ps : List Part). Has ps r) (sym (parts_dead s p v.1.0 e)) (joined_has (λ x. line_parts g (length g) x k) r c ws i h)),
        ),
      ))))
      (cases_Bool (person g p).lives)

  starts_within : (ss : List Part) → AllByRecursion (λ (p : Part). alive g p.who ≡ true) ss → AllByRecursion (Within ss) (starts_persons ss)
  starts_within [] a = tt
  starts_within (p ∷ ss) a = (
    (a.0, (p.by, λ r h. has_append_left (line_parts g (length g) p.who p.by) (starts_parts g ss) r h)),
    All-weaker (Within ss) (Within (p ∷ ss))
        (λ q v. (v.0, (v.1.0, λ r h. has_append_right (line_parts g (length g) p.who p.by) (starts_parts g ss) r (v.1.1 r h)))) (starts_persons ss) (starts_within ss a.1),
  )

  -- whoever is listed and lives has pieces
  pub listed_inherits : (ss : List Part) (n w : ℕ) → AllByRecursion (λ (p : Part). alive g p.who ≡ true) ss → 0 < n → divides_all n (starts_parts g ss) ≡ true
      → is_in w (listed (length g) (divided_among g) (starts_persons ss)) ≡ true → (person g w).lives ≡ true → 0 < pieces n (starts_parts g ss) w
  listed_inherits ss n w a l d i v =
      let t = all_in (Within ss) (listed (length g) (divided_among g) (starts_persons ss))
      (listed_each (Within ss) (starts_persons ss) (λ p x. x.0) (within_below ss) (starts_within ss a)) w i in
      let r : Part = record { who = w; by = t.1.0 } in
      has_pieces n (starts_parts g ss) r l d (t.1.1 r (subst (λ (ps : List Part). Has ps r) (sym (parts_lives s w t.1.0 v)) (has_get_or (r ∷ []) 0 r (omega arith))))
