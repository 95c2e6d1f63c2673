-- The set of those whose lines live, as it lies in memory. Assumes nothing.
use Rattle.std.proofs.Common.{◌≡◌, ℕ, zero, suc, ◌+◌, ◌-◌, ◌*◌, ◌<◌, Bool, true, false, cond, ◌⊎◌, List, ◌++◌, length, Some, None, Option, sym, refl, ap, ◌∙◌, inl, inr, ⊎_elim, arith}
use Rattle.std.proofs.lemmas.Bool.{cases_Bool, cond-true, cond-false}
use Rattle.law.specs.Family.{Family, person}
use Rattle.rows.specs.Tables.{Wide}
use Rattle.bits.specs.Sets.{bit_row, with_member, without_member}
use Rattle.people.specs.Layout.{person_row, laid, limit_in}
use Rattle.people.proofs.Layouts.{persons_wide, around_bits, limit_laid}
use Rattle.living.specs.Marks.{unsupported, raised, taken_out, parent_out, lowered, parents_out}
use Rattle.living.specs.Places.{first_unsupported}

-- what `contains`, `insert` and `remove` say of laid out words, from what they say of words around a row of bits
pub member_laid :
    (ws : List ℕ) (n k : ℕ) (f : Family) (links : ℕ → List ℕ) (s : ℕ → Bool) (work rest : List ℕ) (at p : ℕ) (r : Bool) → ws ≡ laid n k (person_row f) links s work rest → Wide 4 links →
    at ≡ 2 + 8 * limit_in ws → p < 4096 →
    ((front back : List ℕ) (m : ℕ) (t : ℕ → Bool) → ws ≡ front ++ (bit_row m t ++ back) → length front ≡ at → p < 32 * m → r ≡ t p) → r ≡ s p
member_laid ws n k f links s work rest at p r e wide there h says =
    let around = around_bits n k (person_row f) links work rest (persons_wide f) wide in
    let lim = limit_laid ws n k (person_row f) links s work rest e in
    says around.0 (work ++ rest) 128 s (e ∙ around.2 s) (omega (arith, around.1)) (omega arith)

pub changed_laid :
    (ws later : List ℕ) (n k : ℕ) (f : Family) (links : ℕ → List ℕ) (s : ℕ → Bool) (work rest : List ℕ) (at p : ℕ) (change : (ℕ → Bool) → ℕ → Bool) →
    ws ≡ laid n k (person_row f) links s work rest → Wide 4 links → at ≡ 2 + 8 * limit_in ws → p < 4096 →
    ((front back : List ℕ) (m : ℕ) (t : ℕ → Bool) → ws ≡ front ++ (bit_row m t ++ back) → length front ≡ at → p < 32 * m → later ≡ front ++ (bit_row m (change t) ++ back)) →
    later ≡ laid n k (person_row f) links (change s) work rest
changed_laid ws later n k f links s work rest at p change e wide there h says =
    let around = around_bits n k (person_row f) links work rest (persons_wide f) wide in
    let lim = limit_laid ws n k (person_row f) links s work rest e in
    says around.0 (work ++ rest) 128 s (e ∙ around.2 s) (omega (arith, around.1)) (omega arith) ∙ sym (around.2 (change s))

-- raising, by its ways
pub raised_none : (n : ℕ) (f : Family) (link : ℕ) (s : ℕ → Bool) → (n ≡ 0) ⊎ (link ≡ 0) → s ≡ raised n f link s
unfolding raised
raised_none zero f link s e = refl
raised_none (suc n) f zero s e = refl
raised_none (suc n) f (suc p) s e = absurd (⊎_elim (λ (z : suc n ≡ 0). omega arith) (λ (z : suc p ≡ 0). omega arith) e)

pub raised_in : (n : ℕ) (f : Family) (link p : ℕ) (s : ℕ → Bool) → link ≡ suc p → s p ≡ true → s ≡ raised n f link s
unfolding raised
raised_in zero f link p s e h = refl
raised_in (suc n) f link p s e h = sym (ap (λ l. raised (suc n) f l s) e ∙ cond-true (s p) s _ h)

pub raised_more :
    (n : ℕ) (f : Family) (link p : ℕ) (s : ℕ → Bool) → (n ≡ 0 → ⊥) → link ≡ suc p → s p ≡ false →
    raised (n - 1) f (person f p).father (raised (n - 1) f (person f p).mother (with_member s p)) ≡ raised n f link s
unfolding raised
raised_more zero f link p s some e h = absurd (some refl)
raised_more (suc n) f link p s some e h =
    let d : suc n - 1 ≡ n = omega arith in
    (λ i. raised (d i) f (person f p).father (raised (d i) f (person f p).mother (with_member s p)))
    ∙ sym (ap (λ l. raised (suc n) f l s) e ∙ cond-false (s p) s (raised n f (person f p).father (raised n f (person f p).mother (with_member s p))) h)

-- lowering, by its ways
pub lowered_none : (n : ℕ) (f : Family) (p : ℕ) (s : ℕ → Bool) → n ≡ 0 → s ≡ lowered n f p s
unfolding lowered
lowered_none zero f p s e = refl
lowered_none (suc n) f p s e = absurd (omega arith)

-- one link, of which it is asked whether nothing keeps its person
link_out :
    (g : ℕ → (ℕ → Bool) → ℕ → Bool) (f : Family) (t : ℕ → Bool) (a q : ℕ) (o : Option ℕ) (u : ℕ → Bool) → Some q ≡ cond (unsupported f t a) (Some (a - 1)) o →
    (Some q ≡ o → g q (without_member t q) ≡ u) → g q (without_member t q) ≡ cond (unsupported f t a) (taken_out g a t) u
link_out g f t zero q o u e rest = rest e
link_out g f t (suc a) q o u e rest =
    elim (cases_Bool (unsupported f t (suc a))) [
      | inl h ↦
          let z : q ≡ suc a - 1 = let w : Some q ≡ Some (suc a - 1) = e ∙ cond-true (unsupported f t (suc a)) (Some (suc a - 1)) o h in cc in
          let same : q ≡ a = omega arith in
          ap (λ i. g i (without_member t i)) same ∙ sym (cond-true (unsupported f t (suc a)) (g a (without_member t a)) u h)
      | inr h ↦ rest (e ∙ cond-false (unsupported f t (suc a)) (Some (suc a - 1)) o h) ∙ sym (cond-false (unsupported f t (suc a)) (g a (without_member t a)) u h)
    ]

pub some_out :
    (n : ℕ) (f : Family) (p q : ℕ) (t : ℕ → Bool) → Some q ≡ first_unsupported f t (person f p).mother (person f p).father →
    lowered n f q (without_member t q) ≡ parent_out (λ r u. lowered n f r u) f p t
some_out n f p q t e =
    link_out (λ r u. lowered n f r u) f t (person f p).mother q _ _ e
    (λ w. link_out (λ r u. lowered n f r u) f t (person f p).father q None t w (λ z. absurd (let x : ◌≡◌ {A = ℕ} 0 1 = cc in omega arith)))

pub none_out :
    (n : ℕ) (f : Family) (p : ℕ) (t : ℕ → Bool) → None ≡ first_unsupported f t (person f p).mother (person f p).father → t ≡ parent_out (λ r u. lowered n f r u) f p t
none_out n f p t e =
    elim (cases_Bool (unsupported f t (person f p).mother)) [
      | inl h ↦ absurd (let w = e ∙ cond-true (unsupported f t (person f p).mother) _ _ h in let x : ◌≡◌ {A = ℕ} 0 1 = cc in omega arith)
      | inr h ↦
          elim (cases_Bool (unsupported f t (person f p).father)) [
            | inl k ↦
                absurd
                (let w = e ∙ cond-false (unsupported f t (person f p).mother) _ _ h ∙ cond-true (unsupported f t (person f p).father) _ _ k in
                let x : ◌≡◌ {A = ℕ} 0 1 = cc in omega arith)
            | inr k ↦ sym (cond-false (unsupported f t (person f p).mother) _ _ h ∙ cond-false (unsupported f t (person f p).father) _ _ k)
          ]
    ]

pub parents_none : (n : ℕ) (f : Family) (p : ℕ) (s : ℕ → Bool) → s ≡ parents_out 0 n f p s
unfolding parents_out
parents_none n f p s = refl

pub parents_more : (turn n : ℕ) (f : Family) (p : ℕ) (s : ℕ → Bool) → parent_out (λ r u. lowered n f r u) f p (parents_out turn n f p s) ≡ parents_out (turn + 1) n f p s
unfolding parents_out
parents_more turn n f p s = let e : suc turn ≡ turn + 1 = omega arith in ap (λ k. parents_out k n f p s) e

pub parents_both : (turn n : ℕ) (f : Family) (p : ℕ) (s : ℕ → Bool) → (n ≡ 0 → ⊥) → turn ≡ 2 → parents_out turn (n - 1) f p s ≡ lowered n f p s
unfolding parents_out lowered
parents_both turn zero f p s some e = absurd (some refl)
parents_both turn (suc n) f p s some e = let d : suc n - 1 ≡ n = omega arith in λ i. parents_out (e i) (d i) f p s

-- where no parent is unsupported any more, looking at the others changes nothing
pub parents_stop :
    (turn n : ℕ) (f : Family) (p : ℕ) (s : ℕ → Bool) → (n ≡ 0 → ⊥) → turn < 2 →
    None ≡ first_unsupported f (parents_out turn (n - 1) f p s) (person f p).mother (person f p).father → parents_out turn (n - 1) f p s ≡ lowered n f p s
unfolding parents_out
parents_stop zero n f p s some h e =
    let once = none_out (n - 1) f p s e in
    let again = ap (λ t. parent_out (λ r u. lowered (n - 1) f r u) f p t) once in
    once ∙ again ∙ parents_both 2 n f p s some refl
parents_stop (suc zero) n f p s some h e = none_out (n - 1) f p (parents_out 1 (n - 1) f p s) e ∙ parents_both 2 n f p s some refl
parents_stop (suc (suc turn)) n f p s some h e = absurd (omega arith)
