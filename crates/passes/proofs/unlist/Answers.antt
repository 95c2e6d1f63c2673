use Rattle.std.proofs.Common.{◌≡◌, ℕ, suc, ◌-◌, ◌<◌, ◌≤◌, List, ◌∷◌, length, get_or, set, Some, None, sym, refl, ap, ◌∙◌, subst, arith}
use Rattle.std.specs.List.{AllByRecursion}
use Rattle.law.specs.Family.{Family}
use Rattle.amounts.specs.Passes.{count_step, multiple_step, cleared}
use Rattle.amounts.specs.Lines.{divided_among}
use Rattle.passes.specs.Rows.{Rows, Rowed}
use Rattle.passes.specs.Listings.{order_row, counts_row, multiples_row}
use Rattle.passes.specs.Heirs.{with_heir, heirs_of}
use Rattle.passes.proofs.Downward.{order_last, order_left, filled_cleared, cleared_first, cleared_none, heirs_first, heirs_none, order_none, next_left, none_more}
use Rattle.passes.proofs.unlist.Goals as goal

-- who stands at the end of the list
stands :
    (n : ℕ) (f : Family) (qs : List ℕ) (q : ℕ) (left : List ℕ) (index : ℕ) → qs ≡ q ∷ left → length qs ≡ index → AllByRecursion (λ p. p < length f) qs → length qs ≤ n →
    AllByRecursion (λ p. p < length f) (q ∷ left) × (get_or (order_row n qs) (index - 1) 0 ≡ suc q)
stands n f qs q left index is k there room = (
  subst (AllByRecursion (λ p. p < length f)) is there,
  (λ j. get_or (order_row n (is j)) ((let y : index - 1 ≡ length left = omega (arith, ap length is) in y) j) 0) ∙ order_last n q left (omega (arith, ap length is)),
)

pub loop-index-init : goal.loop-index-init
loop-index-init c =
    record {
      limit = refl;
      count = refl;
      left = λ n f ps heirs pieces os spare rest held listing long.
          (os, heirs, counts_row n f os, multiples_row n f os, long, listing.there, held, refl, filled_cleared count_step (divided_among f) n os, filled_cleared multiple_step (divided_among f) n os);
    }

pub loop-index-preserved-in-Some : goal.loop-index-preserved-in-Some
loop-index-preserved-in-Some c =
    let index = c.loop-index.index in
    let who = c.in-Some.who in
    let inv = c.loop-index.invariant in
    record {
      limit = c.leave.ensures.limit ∙ inv.limit;
      count = c.leave.ensures.count ∙ inv.count;
      left = λ n f ps heirs pieces os spare rest held listing long.
          let (qs, s, cs, ms, k, there, now, h, e, m) = inv.left n f ps heirs pieces os spare rest held listing long in
          let (q, left, is) = next_left qs index k c.loop-index-test.true in
          let (all, at) = stands n f qs q left index is k there (omega arith) in
          let rows : Rows = record { heirs = s; pieces = pieces; order = order_row n qs; counts = cs; multiples = ms } in
          let met : Some who ≡ Some q = c.in-Some.ensures.value n f ps rows spare rest q now at (let t = all.0 in let r = held.room in omega arith) in
          let same : qs ≡ who ∷ left = is ∙ (let y : q ≡ who = cc in ap (λ z. z ∷ left) y) in
          let last : index - 1 ≡ length left = omega (arith, ap length is) in
          let order : set (order_row n qs) (index - 1) 0 ≡ order_row n left = (λ j. set (order_row n (same j)) (last j) 0) ∙ order_left n who left in (
            left,
            with_heir pieces who s,
            set cs who 0,
            set ms who 0,
            sym last,
            all.1,
            subst (λ r. Rowed c.leave.new.memory n f ps (record { heirs = with_heir pieces who s; pieces = pieces; order = r; counts = set cs who 0; multiples = set ms who 0 }) spare rest) order
                (c.leave.ensures.left n f ps rows spare rest now),
            sym (heirs_first pieces who left s) ∙ ap (λ z. heirs_of pieces z s) (sym same) ∙ h,
            sym (cleared_first who left cs) ∙ ap (λ z. cleared z cs) (sym same) ∙ e,
            sym (cleared_first who left ms) ∙ ap (λ z. cleared z ms) (sym same) ∙ m,
          );
    }

pub loop-index-preserved : goal.loop-index-preserved
loop-index-preserved c =
    let index = c.loop-index.index in
    let inv = c.loop-index.invariant in
    record {
      limit = inv.limit;
      count = inv.count;
      left = λ n f ps heirs pieces os spare rest held listing long.
          let (qs, s, cs, ms, k, there, now, h, e, m) = inv.left n f ps heirs pieces os spare rest held listing long in
          let (q, left, is) = next_left qs index k c.loop-index-test.true in
          let (all, at) = stands n f qs q left index is k there (omega arith) in
          let rows : Rows = record { heirs = s; pieces = pieces; order = order_row n qs; counts = cs; multiples = ms } in
          let met : None ≡ Some q = c.in_default.ensures.value n f ps rows spare rest q now at (let t = all.0 in let r = held.room in omega arith) in
          cc;
    }

pub returns-clause-left : goal.returns-clause-left
returns-clause-left c n f ps heirs pieces os spare rest held listing long =
    let (qs, s, cs, ms, k, there, now, h, e, m) = c.loop-index.invariant.left n f ps heirs pieces os spare rest held listing long in
    let none = none_more qs (omega arith) in
    let heired = sym (heirs_none pieces s) ∙ ap (λ z. heirs_of pieces z s) (sym none) ∙ h in
    let order = ap (order_row n) none ∙ order_none n in
    let counts = sym (cleared_none cs) ∙ ap (λ z. cleared z cs) (sym none) ∙ e in
    let multiples = sym (cleared_none ms) ∙ ap (λ z. cleared z ms) (sym none) ∙ m in
    subst (λ (r : Rows). Rowed c.loop-index.memory n f ps r spare rest)
    (λ i. record { heirs = heired i; pieces = pieces; order = order i; counts = counts i; multiples = multiples i }) now
