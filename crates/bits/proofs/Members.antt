-- Laws of the members of a set in their order, as a loop goes through them. Assumes nothing.
use Rattle.std.proofs.Common.{◌≡◌, ℕ, zero, suc, ◌+◌, ◌-◌, ◌*◌, ◌/◌, ◌%◌, ◌^◌, ◌<◌, ◌≤◌, Bool, true, false, cond, ◌≢◌, List, [], ◌∷◌, ◌++◌, length, get_or, Some, None, sym, refl, ap, ◌∙◌, inl, inr, arith, pow_mono}
use lib.Count.{count_trailing_zeros}
use Rattle.std.specs.List.{slice_get}
use Rattle.std.proofs.lemmas.Nat.{shr_below, shr_le}
use Rattle.std.proofs.lemmas.Bool.{both_ways, cases_Bool, cases_eq, cases_lt}
use Rattle.bits.specs.Sets.{bit_row, member_in, members}
use Rattle.bits.specs.Words.{tested}
use Rattle.bits.proofs.Sets.{member_among}
use Rattle.bits.proofs.Words.{tested_high, tested_past, tested_zero, trailing_zeros}

-- nobody past the end
pub members_past : (s : ℕ → Bool) (from end : ℕ) → end ≤ from → members s from end ≡ []
unfolding members
members_past s from end h = let e : end - from ≡ 0 = omega arith in rw e

-- one number further
pub members_step : (s : ℕ → Bool) (p end : ℕ) → p < end → members s p end ≡ cond (s p) (p ∷ members s (p + 1) end) (members s (p + 1) end)
unfolding members
members_step s p end h = let e : end - p ≡ suc (end - (p + 1)) = omega arith in rw e

pub members_more : (s : ℕ → Bool) (p end : ℕ) → p < end → s p ≡ true → members s p end ≡ p ∷ members s (p + 1) end
members_more s p end h e = members_step s p end h ∙ rw e

pub members_miss : (s : ℕ → Bool) (p end : ℕ) → s p ≡ false → members s p end ≡ members s (p + 1) end
members_miss s p end e =
    elim (cases_lt p end)
    [ inl h ↦ members_step s p end h ∙ rw e | inr h ↦ members_past s p end h ∙ sym (members_past s (p + 1) end (omega arith)) ]

-- over numbers that are none
pub members_skip : (s : ℕ → Bool) (end many from : ℕ) → ((k : ℕ) → k < many → s (from + k) ≡ false) → members s from end ≡ members s (from + many) end
members_skip s end zero from e = let n : from + 0 ≡ from = omega arith in rw n
members_skip s end (suc many) from e =
    let a : from + 0 ≡ from = omega arith in
    let b : from + suc many ≡ from + 1 + many = omega arith in
    rw b
    (members_miss s from end (rw a at (e 0 (omega arith)))
    ∙ members_skip s end many (from + 1) (λ k h. let n : from + suc k ≡ from + 1 + k = omega arith in rw n at (e (suc k) (omega arith))))

-- the members depend on the numbers between alone
pub members_same : (s t : ℕ → Bool) (from end : ℕ) → ((p : ℕ) → from ≤ p → p < end → s p ≡ t p) → members s from end ≡ members t from end
members_same s t from end e = go (end - from) from e refl
  where
    go : (n from : ℕ) → ((p : ℕ) → from ≤ p → p < end → s p ≡ t p) → end - from ≡ n → members s from end ≡ members t from end
    go zero from e h = members_past s from end (omega arith) ∙ sym (members_past t from end (omega arith))
    go (suc n) from e h =
        let l : from < end = omega arith in
        members_step s from end l
        ∙ (rw (e from (omega arith) l, go n (from + 1) (λ p g u. e p (omega arith) u) (omega arith)) (sym (members_step t from end l)))

-- what holds of the first of them
pub record First (s : ℕ → Bool) (from end p : ℕ) : Type 0 where
  pub above : from ≤ p
  pub below : p < end
  pub member : s p ≡ true
  pub before : (q : ℕ) → from ≤ q → q < p → s q ≡ false
  pub rest : members s from end ≡ p ∷ members s (p + 1) end

pub first_member : (s : ℕ → Bool) (from end p : ℕ) → Some p ≡ slice_get (members s from end) 0 → First s from end p
first_member s from end p e = go (end - from) from e refl
  where
    go : (n from : ℕ) → Some p ≡ slice_get (members s from end) 0 → end - from ≡ n → First s from end p
    go zero from e h =
        let z : ◌≡◌ {A = ℕ} 0 1 = cc (e, ap (λ (r : List ℕ). slice_get r 0) (members_past s from end (omega arith))) in absurd (omega arith)
    go (suc n) from e h =
        let l : from < end = omega arith in
        elim (cases_Bool (s from)) [
          | inl y ↦
              let m = members_more s from end l y in
              let here : p ≡ from = cc (e, ap (λ (r : List ℕ). slice_get r 0) m) in
              record {
                above = omega arith;
                below = omega arith;
                member = rw here y;
                before = λ q g u. absurd (omega arith);
                rest = rw here m;
              }
          | inr y ↦
              let m = members_miss s from end y in
              let r = go n (from + 1) (e ∙ ap (λ (r : List ℕ). slice_get r 0) m) (omega arith) in
              record {
                above = omega arith;
                below = r.below;
                member = r.member;
                before = λ q g u. elim (cases_eq q from) [ inl k ↦ rw k y | inr ne ↦ r.before q (omega arith) u ];
                rest = m ∙ r.rest;
              }
        ]

-- where there is no first, there is none
pub members_none : (s : ℕ → Bool) (from end : ℕ) → None ≡ slice_get (members s from end) 0 → members s from end ≡ []
members_none s from end e = go (members s from end) e
  where
    go : (xs : List ℕ) → None ≡ slice_get xs 0 → xs ≡ []
    go [] e = refl
    go (x ∷ xs) e = let z : ◌≡◌ {A = ℕ} 0 1 = cc in absurd (omega arith)

pub no_members : (s : ℕ → Bool) (from end : ℕ) → members s from end ≡ [] → (q : ℕ) → from ≤ q → q < end → s q ≡ false
no_members s from end e q g u = go (q - from) from e g refl
  where
    none : (from : ℕ) → members s from end ≡ [] → from < end → s from ≡ false
    none from e l =
        elim (cases_Bool (s from))
        [ inl y ↦ let z : ◌≡◌ {A = ℕ} 0 1 = cc (members_more s from end l y) in absurd (omega arith) | inr y ↦ y ]

    go : (n from : ℕ) → members s from end ≡ [] → from ≤ q → q - from ≡ n → s q ≡ false
    go zero from e g h = let k : q ≡ from = omega arith in rw k (none from e (omega arith))
    go (suc n) from e g h = go n (from + 1) (sym (members_miss s from end (none from e (omega arith))) ∙ e) (omega arith) (omega arith)

-- the bits of one word from p on, as code has them: those of the word shifted
module _ (row : List ℕ) (at p : ℕ) where
  abbrev shifted : ℕ
  shifted = get_or row (at + p / 32) 0 / 2 ^ (p % 32)

  member_near : (k : ℕ) → p % 32 + k < 32 → member_in row at (p + k) ≡ tested shifted k
  member_near k h =
      let d : (p + k) / 32 ≡ p / 32 = omega arith in
      let m : (p + k) % 32 ≡ p % 32 + k = omega arith in
      rw (d, m) (tested_high (get_or row (at + p / 32) 0) (p % 32) k)

  -- no bit is set: on to the next word
  pub next_word : (end : ℕ) → shifted ≡ 0 → members (member_in row at) p end ≡ members (member_in row at) (p + (32 - p % 32)) end
  next_word end e =
      members_skip (member_in row at) end (32 - p % 32) p
      (λ k h. member_near k (omega arith) ∙ (ap (λ w. tested w k) e ∙ tested_zero k))

  -- a bit is set: on to the lowest
  module _ (fits : get_or row (at + p / 32) 0 < 2 ^ 32) (some : shifted ≢ 0) where
    abbrev lowest : (tested shifted (count_trailing_zeros 32 shifted) ≡ true) × ((k : ℕ) → k < count_trailing_zeros 32 shifted → tested shifted k ≡ false)
    lowest = trailing_zeros 32 shifted (omega arith) (omega (arith, shr_le (get_or row (at + p / 32) 0) (p % 32)))

    pub lowest_near : p % 32 + count_trailing_zeros 32 shifted < 32
    lowest_near =
        elim (cases_lt (p % 32 + count_trailing_zeros 32 shifted) 32) [
          | inl h ↦ h
          | inr h ↦
              let e : 32 ≡ 32 - p % 32 + p % 32 = omega arith in
              let below : shifted < 2 ^ (32 - p % 32) = shr_below (get_or row (at + p / 32) 0) (32 - p % 32) (p % 32) (rw (← e) fits) in
              let wide : 2 ^ (32 - p % 32) ≤ 2 ^ count_trailing_zeros 32 shifted = pow_mono (omega arith) in
              absurd (both_ways (tested shifted (count_trailing_zeros 32 shifted)) (tested_past shifted (count_trailing_zeros 32 shifted) (omega arith)) lowest.0)
        ]

    pub lowest_member : member_in row at (p + count_trailing_zeros 32 shifted) ≡ true
    lowest_member = member_near (count_trailing_zeros 32 shifted) lowest_near ∙ lowest.0

    pub this_word : (end : ℕ) → members (member_in row at) p end ≡ members (member_in row at) (p + count_trailing_zeros 32 shifted) end
    this_word end =
        members_skip (member_in row at) end (count_trailing_zeros 32 shifted) p
        (λ k h. let near = lowest_near in member_near k (omega arith) ∙ lowest.1 k h)

-- the members of a set whose row lies between others in memory
pub members_among : (memory front rest : List ℕ) (m : ℕ) (s : ℕ → Bool) (at : ℕ) → memory ≡ front ++ (bit_row m s ++ rest) → length front ≡ at
    → (from end : ℕ) → end ≤ 32 * m → members (member_in memory at) from end ≡ members s from end
members_among memory front rest m s at held first from end h =
    members_same (member_in memory at) s from end (λ p g u. member_among memory front rest m s at held first p (omega arith))
