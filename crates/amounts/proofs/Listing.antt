-- Going down from somebody lists them and all below, each once, and before those below. Assumes nothing.
use Rattle.std.proofs.Common.{◌≡◌, ℕ, zero, suc, ◌+◌, ◌<◌, ◌≤◌, Bool, true, false, ◌⊎◌, List, [], ◌∷◌, length, refl, ap, inl, inr, ⊎_elim, arith}
use Rattle.std.specs.List.{AllByRecursion}
use Rattle.std.proofs.ByRecursion.{All-weaker}
use Rattle.std.proofs.lemmas.Bool.{cases_lt, both_ways, cond_both}
use Rattle.law.specs.Family.{person, Family, is_child}
use Rattle.theory.specs.Families.{Ranked}
use Rattle.theory.specs.Living.{alive, lines_below}
use Rattle.theory.proofs.Lists.{all_both}
use Rattle.theory.proofs.Lines.{below_child, below_lives}
use Rattle.theory.proofs.Living.{alive_past}
use Rattle.amounts.specs.Passes.{is_in, all_listed, listed_in, InDescentOrder}
use Rattle.amounts.specs.Lines.{divided_among}
use Rattle.amounts.specs.Statements.{Listing, ListingGrows}
use Rattle.amounts.proofs.Members.{in_here, in_later, in_cases, order_once, once_most}

-- Persons of whom P holds, and then of all below them, where numbers below n grow.
module _ (below : ℕ → List ℕ) (n : ℕ) (rk : ℕ → ℕ) (P : ℕ → Type 0) (down : (p : ℕ) → P p → AllByRecursion (λ c. P c × (rk p < rk c)) (below p)) (within : (p : ℕ) → P p → rk p < n) where
  -- a list that has grown: who is new has a rank of at least m
  pub record Grown (m : ℕ) (out r : List ℕ) : Type 0 where
    pub order : InDescentOrder below r
    pub each : AllByRecursion P r
    pub keeps : (q : ℕ) → is_in q out ≡ true → is_in q r ≡ true
    pub new : (q : ℕ) → is_in q r ≡ true → (is_in q out ≡ true) ⊎ (m ≤ rk q)

  grown_none : (m : ℕ) (out : List ℕ) → InDescentOrder below out → AllByRecursion P out → Grown m out out
  grown_none m out t a = record { order = t; each = a; keeps = λ q h. h; new = λ q h. inl h }

  grown_two : (m : ℕ) (a b c : List ℕ) → Grown m a b → Grown m b c → Grown m a c
  grown_two m a b c x y =
      record { order = y.order; each = y.each; keeps = λ q h. y.keeps q (x.keeps q h); new = λ q h. ⊎_elim (λ z. x.new q z) (λ z. inr z) (y.new q h) }

  pub grown_less : (m k : ℕ) (a b : List ℕ) → m ≤ k → Grown k a b → Grown m a b
  grown_less m k a b l x = record { order = x.order; each = x.each; keeps = x.keeps; new = λ q h. ⊎_elim (λ z. inl z) (λ z. inr (omega arith)) (x.new q h) }

  -- what listing somebody does to a list in order
  abbrev Lists : (ℕ → List ℕ → List ℕ) → ℕ → ℕ → Type 0
  Lists g m c = (out : List ℕ) → InDescentOrder below out → AllByRecursion P out → Grown m out (g c out) × (is_in c (g c out) ≡ true)

  pub lists_all : (g : ℕ → List ℕ → List ℕ) (m : ℕ) (cs : List ℕ) → AllByRecursion (Lists g m) cs → (out : List ℕ) → InDescentOrder below out → AllByRecursion P out
      → Grown m out (all_listed g cs out) × AllByRecursion (λ c. is_in c (all_listed g cs out) ≡ true) cs
  unfolding all_listed
  lists_all g m [] h out t a = (grown_none m out t a, tt)
  lists_all g m (c ∷ cs) h out t a =
      let x = h.0 out t a in
      let y = lists_all g m cs h.1 (g c out) x.0.order x.0.each in
      (grown_two m out (g c out) (all_listed g cs (g c out)) x.0 y.0, (y.0.keeps c x.1, y.1))

  -- who is put in front was not there
  front : (p : ℕ) (out r : List ℕ) → P p → is_in p out ≡ false → Grown (suc (rk p)) out r → AllByRecursion (λ c. is_in c r ≡ true) (below p)
      → Grown (rk p) out (p ∷ r) × (is_in p (p ∷ r) ≡ true)
  unfolding InDescentOrder
  front p out r v n g k = (
    record {
      order = (absent (is_in p r) refl, k, g.order);
      each = (v, g.each);
      keeps = λ q h. in_later q p r (g.keeps q h);
      new = λ q h. ⊎_elim (λ e. inr (same q e)) (λ e. ⊎_elim (λ z. inl z) (λ z. inr (omega arith)) (g.new q e)) (in_cases q p r h);
    },
    in_here p r,
  )
    where
      same : (q : ℕ) → q ≡ p → rk p ≤ rk q
      same q e = let z : rk q ≡ rk p = ap rk e in omega arith

      absent : (t : Bool) → is_in p r ≡ t → t ≡ false
      absent true e = ⊎_elim (λ z. absurd (both_ways (is_in p out) n z)) (λ z. absurd (omega arith)) (g.new p e)
      absent false e = refl

  pub lists_in : (steps p : ℕ) → P p → n ≤ steps + rk p → Lists (λ p o. listed_in steps below p o) (rk p) p
  unfolding listed_in
  lists_in zero p v h out t a = absurd (let z = within p v in omega arith)
  lists_in (suc steps) p v h out t a =
      cond_both (is_in p out) out (p ∷ all_listed (λ c o. listed_in steps below c o) (below p) out) (λ (r : List ℕ). Grown (rk p) out r × (is_in p r ≡ true))
      (λ e. (grown_none (rk p) out t a, e))
      (λ e.
      let y =
      lists_all (λ c o. listed_in steps below c o) (suc (rk p)) (below p)
      (All-weaker (λ c. P c × (rk p < rk c)) (Lists (λ c o. listed_in steps below c o) (suc (rk p)))
      (λ c k o u b.
      let x = lists_in steps c k.0 (let l = k.1 in omega arith) o u b in
      (grown_less (suc (rk p)) (rk c) o (listed_in steps below c o) (let l = k.1 in omega arith) x.0, x.1))
      (below p) (down p v))
      out t a in
      front p out (all_listed (λ c o. listed_in steps below c o) (below p) out) v e y.0 y.1)

module _ {g : Family} {rk : ℕ → ℕ} (s : Ranked g rk) where
  -- whose line lives is there
  pub alive_there : (p : ℕ) → alive g p ≡ true → p < length g
  alive_there p v = ⊎_elim (λ (l : p < length g). l) (λ (l : length g ≤ p). absurd (both_ways (alive g p) (alive_past s p l) v)) (cases_lt p (length g))

  -- the lines below live, and their ranks are higher
  pub divided_among_lives : (p : ℕ) → AllByRecursion (λ c. (alive g c ≡ true) × (rk p < rk c)) (divided_among g p)
  divided_among_lives p =
      cond_both (person g p).lives [] (lines_below g (length g) p) (AllByRecursion (λ c. (alive g c ≡ true) × (rk p < rk c))) (λ _. tt)
      (λ _.
      all_both (λ c. is_child g p c ≡ true) (λ c. alive g c ≡ true) (λ c. (alive g c ≡ true) × (rk p < rk c)) (λ c k v. (v, s.up p c k)) (lines_below g (length g) p)
      (below_child g (length g) p) (below_lives g (length g) p))

  pub divided_among_there : (p : ℕ) → AllByRecursion (λ c. c < length g) (divided_among g p)
  divided_among_there p =
      All-weaker (λ c. (alive g c ≡ true) × (rk p < rk c)) (λ c. c < length g) (λ c k. alive_there c k.0) (divided_among g p) (divided_among_lives p)

  pub listing : (os : List ℕ) → InDescentOrder (divided_among g) os → AllByRecursion (λ q. alive g q ≡ true) os → Listing g os
  listing os t a =
      let there = All-weaker (λ q. alive g q ≡ true) (λ q. q < length g) alive_there os a in
      record { order = t; there = there; living = a; most = once_most (length g) os (order_once (divided_among g) os t) there }

  pub line_listed : (steps p : ℕ) (out : List ℕ) → length g ≤ steps + rk p → alive g p ≡ true → Listing g out
      → Listing g (listed_in steps (divided_among g) p out) × (is_in p (listed_in steps (divided_among g) p out) ≡ true)
      × ((q : ℕ) → is_in q out ≡ true → is_in q (listed_in steps (divided_among g) p out) ≡ true)
  line_listed steps p out l v h =
      let r = lists_in (divided_among g) (length g) rk (λ q. alive g q ≡ true) (λ q _. divided_among_lives q) (λ q a. s.within q (alive_there q a)) steps p v l out h.order h.living in
      (listing (listed_in steps (divided_among g) p out) r.0.order r.0.each, r.1, r.0.keeps)

pub listing_grows : ListingGrows
unfolding ListingGrows
listing_grows g rk steps p out s l v h = line_listed s steps p out l v h
