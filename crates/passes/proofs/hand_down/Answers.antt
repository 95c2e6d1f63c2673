use Rattle.std.proofs.Common.{◌≡◌, ℕ, suc, ◌+◌, ◌-◌, ◌<◌, ◌≤◌, List, length, get_or, drop, Some, None, sym, ap, ◌∙◌, subst, arith}
use Rattle.std.proofs.ByRecursion.{All-weaker, All-get_or}
use Rattle.law.specs.Family.{Family}
use Rattle.amounts.specs.Passes.{handed_on, handed_down}
use Rattle.amounts.specs.Lines.{divided_among}
use Rattle.amounts.specs.Statements.{Listing}
use Rattle.amounts.proofs.Downward.{sum_handed_on}
use Rattle.amounts.proofs.Turns.{handed_turn, handed_end}
use Rattle.passes.specs.Rows.{Rows, Rowed, with_pieces}
use Rattle.passes.specs.Listings.{order_row}
use Rattle.passes.proofs.Walks.{lines_there}
use Rattle.passes.proofs.Downward.{order_place}
use Rattle.passes.proofs.hand_down.Goals as goal

-- who stands at a place of the list
stands :
    (n : ℕ) (f : Family) (rows : Rows) (os : List ℕ) (count place : ℕ) → rows.order ≡ order_row n os → Listing f os → length os ≡ count → length f ≤ n → 0 < place → place ≤ count →
    (get_or rows.order (place - 1) 0 ≡ suc (get_or os (count - place) 0)) × (get_or os (count - place) 0 < length f)
stands n f rows os count place order listing long room h l =
    let most = listing.most in
    let at : place - 1 ≡ length os - 1 - (count - place) = omega arith in (
      (λ j. get_or (order j) (at j) 0) ∙ order_place n os (count - place) (omega arith) (omega arith),
      All-get_or (λ q. q < length f) os (count - place) 0 (omega arith) listing.there,
    )

pub loop-place-preserved-in-Some : goal.loop-place-preserved-in-Some
loop-place-preserved-in-Some c =
    let place = c.loop-place.place in
    let i = c.args.count - place in
    let who = c.in-Some.who in
    let some = c.loop-place-test.true in
    let inv = c.loop-place.invariant in
    record {
      limit = c.hand_on.ensures.limit ∙ inv.limit;
      count = c.hand_on.ensures.count ∙ inv.count;
      handed = λ n f ps rows os spare rest held order listing long small.
          let (row, now, all, fits) = inv.handed n f ps rows os spare rest held order listing long small in
          let room = held.room in
          let (at, there) = stands n f rows os c.args.count place order listing long room some (omega arith) in
          let met : Some who ≡ Some (get_or os i 0) = c.in-Some.ensures.value n f ps (with_pieces rows row) spare rest (get_or os i 0) now at (omega arith) in
          let is : get_or os i 0 ≡ who = cc in
          let new = handed_on (divided_among f who) who row in
          let less =
          sum_handed_on (divided_among f who) who row (omega (arith, now.pieces_long))
          (All-weaker (λ x. x < length f) (λ x. x < length row) (λ x k. omega (arith, now.pieces_long)) (divided_among f who) (lines_there f who)) in
          let next : c.args.count - (place - 1) ≡ i + 1 = omega arith in (
            new,
            c.hand_on.ensures.handed n f ps (with_pieces rows row) spare rest now fits,
            ap (λ k. handed_down (divided_among f) (drop k os) new) next ∙ sym (handed_turn (divided_among f) os i who row (omega arith) is) ∙ all,
            omega arith,
          );
    }

pub loop-place-preserved : goal.loop-place-preserved
loop-place-preserved c =
    let place = c.loop-place.place in
    let some = c.loop-place-test.true in
    let inv = c.loop-place.invariant in
    record {
      limit = inv.limit;
      count = inv.count;
      handed = λ n f ps rows os spare rest held order listing long small.
          let (row, now, all, fits) = inv.handed n f ps rows os spare rest held order listing long small in
          let room = held.room in
          let (at, there) = stands n f rows os c.args.count place order listing long room some (omega arith) in
          let met : None ≡ Some (get_or os (c.args.count - place) 0) =
          c.in_default.ensures.value n f ps (with_pieces rows row) spare rest (get_or os (c.args.count - place) 0) now at (omega arith) in
          cc;
    }

pub returns-clause-handed : goal.returns-clause-handed
returns-clause-handed c n f ps rows os spare rest held order listing long small =
    let (row, now, all, fits) = c.loop-place.invariant.handed n f ps rows os spare rest held order listing long small in
    subst (λ r. Rowed c.loop-place.memory n f ps (with_pieces rows r) spare rest) (sym (handed_end (divided_among f) os (c.args.count - c.loop-place.place) row (omega arith)) ∙ all) now
