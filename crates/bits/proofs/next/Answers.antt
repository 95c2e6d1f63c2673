-- That the first bit set is the first member, and that a word with none is passed over. Assumes nothing.
use Rattle.std.proofs.Common.{◌≡◌, ℕ, ◌+◌, ◌-◌, ◌*◌, ◌/◌, ◌%◌, ◌^◌, ◌<◌, ◌≤◌, Bool, true, ltb, List, ◌++◌, length, get_or, Some, None, Option, IfSome, sym, ap, ◌∙◌, inl, inr, arith}
use lib.Count.{count_trailing_zeros}
use Rattle.std.specs.Bool.{then_some}
use Rattle.std.specs.List.{slice_get}
use Rattle.std.proofs.lemmas.Bool.{cases_Bool, ltb-true, ltb-false}
use Rattle.bits.specs.Sets.{bit_row, member_in, members}
use Rattle.bits.proofs.Members.{first_member, lowest_member, lowest_near, members_among, members_more, members_past, next_word, this_word}
use Rattle.bits.proofs.next.Goals as goal

first : List ℕ → Option ℕ
first xs = slice_get xs 0

-- a member is the first of those from it on, if it is before the end
first_here : (s : ℕ → Bool) (q end : ℕ) → s q ≡ true → then_some (ltb q end) q ≡ first (members s q end)
unfolding first
first_here s q end h =
    elim (cases_Bool (ltb q end)) [
      | inl l ↦ rw l (ap first (sym (members_more s q end (ltb-true q end l) h)))
      | inr l ↦ rw l (ap first (sym (members_past s q end (ltb-false q end l))))
    ]

-- What is returned is the first of the members that are left, which are those from the start on: by words, where there is one within, and by sets.
module _ (memory : List ℕ) (at from end p : ℕ) (left : members (member_in memory at) p end ≡ members (member_in memory at) from end) (r : Option ℕ) (e : r ≡ first (members (member_in memory at) p end)) where
  by_words : r ≡ slice_get (members (member_in memory at) from end) 0
  unfolding first
  by_words = e ∙ ap first left

  within : IfSome r (λ q. (from ≤ q) × (q < end))
  within = go r by_words
    where
      go : (t : Option ℕ) → t ≡ slice_get (members (member_in memory at) from end) 0 → IfSome t (λ q. (from ≤ q) × (q < end))
      go None e = tt
      go (Some q) e = let f = first_member (member_in memory at) from end q e in (f.above, f.below)

  by_sets : (front rest : List ℕ) (m : ℕ) (s : ℕ → Bool) → memory ≡ front ++ (bit_row m s ++ rest) → length front ≡ at → end ≤ 32 * m → r ≡ slice_get (members s from end) 0
  unfolding first
  by_sets front rest m s held begins h = by_words ∙ ap first (members_among memory front rest m s at held begins from end h)

-- where none are left
none_left : (s : ℕ → Bool) (p end : ℕ) → end ≤ p → None ≡ first (members s p end)
unfolding first
none_left s p end h = ap first (sym (members_past s p end h))

pub overflow_add-q : goal.overflow_add-q
overflow_add-q c =
    let memory = c.args.memory.now in
    let at = c.args.at in
    let p = c.loop-p.p in
    let fits : get_or memory (at + p / 32) 0 < 2 ^ 32 = omega (arith, c.type_inv.memory (at + p / 32)) in
    omega (arith, lowest_near memory at p fits c.if-word-ne0.true)

pub returns-then-word-ne0 : goal.returns-then-word-ne0
returns-then-word-ne0 c =
    let memory = c.args.memory.now in
    let at = c.args.at in
    let p = c.loop-p.p in
    let end = c.args.end in
    let q = p + count_trailing_zeros 32 (get_or memory (at + p / 32) 0 / 2 ^ (p % 32)) in
    let fits : get_or memory (at + p / 32) 0 < 2 ^ 32 = omega (arith, c.type_inv.memory (at + p / 32)) in
    let left = sym (this_word memory at p fits c.if-word-ne0.true end) ∙ c.loop-p.invariant in
    let e = c.then_some.ensures ∙ first_here (member_in memory at) q end (lowest_member memory at p fits c.if-word-ne0.true) in
    record {
      value = by_words memory at c.args.from end q left _ e;
      within = within memory at c.args.from end q left _ e;
      sets = by_sets memory at c.args.from end q left _ e;
    }

pub returns-in_err-p : goal.returns-in_err-p
returns-in_err-p c =
    let memory = c.args.memory.now in
    let at = c.args.at in
    let p = c.loop-p.p in
    let end = c.args.end in
    let left = sym (next_word memory at p end c.if-word-ne0.false) ∙ c.loop-p.invariant in
    let past : end ≤ p + (32 - p % 32) = omega (arith, c.in_err-p.ensures) in
    let e = c.from_residual.ensures ∙ none_left (member_in memory at) (p + (32 - p % 32)) end past in
    record {
      value = by_words memory at c.args.from end (p + (32 - p % 32)) left _ e;
      within = within memory at c.args.from end (p + (32 - p % 32)) left _ e;
      sets = by_sets memory at c.args.from end (p + (32 - p % 32)) left _ e;
    }

pub loop-p-preserved : goal.loop-p-preserved
loop-p-preserved c =
    let memory = c.args.memory.now in
    let at = c.args.at in
    let end = c.args.end in
    ap (λ q. members (member_in memory at) q end) c.in_ok-p.ensures.1
    ∙ (sym (next_word memory at c.loop-p.p end c.if-word-ne0.false) ∙ c.loop-p.invariant)

pub returns : goal.returns
returns c =
    let memory = c.args.memory.now in
    let at = c.args.at in
    let p = c.loop-p.p in
    let end = c.args.end in
    let e = none_left (member_in memory at) p end c.loop-p-test.false in
    record {
      value = by_words memory at c.args.from end p c.loop-p.invariant None e;
      within = tt;
      sets = by_sets memory at c.args.from end p c.loop-p.invariant None e;
    }
