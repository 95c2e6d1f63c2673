use Rattle.std.proofs.Common.{◌≡◌, ◌<◌, replicate, Some, sym, refl, ◌∙◌, subst, arith}
use Rattle.theory.specs.Decedent.{kept_estate}
use Rattle.theory.proofs.Multiples.{common_multiple_below}
use Rattle.shares.specs.Parts.{number_of}
use Rattle.shares.proofs.Settling.{divided_by}
use Rattle.amounts.specs.Passes.{started, handed_down}
use Rattle.amounts.specs.Lines.{divided_among}
use Rattle.amounts.specs.Estates.{estate_starts, estate_listing}
use Rattle.amounts.proofs.Estates.{estate_passes}
use Rattle.passes.specs.Rows.{Rowed, with_pieces}
use Rattle.passes.specs.Listings.{listed_rows}
use Rattle.estates.specs.Passing.{pieces_by}
use Rattle.estates.proofs.Estates.{number_right, starts_within, starts_small}
use Rattle.estates.proofs.divide.Goals as goal

pub returns-in_err-number-clause-divided : goal.returns-in_err-number-clause-divided
returns-in_err-number-clause-divided c n f rk d spare rest t =
    let beside = c.args.beside in
    let line = c.measure-line.result in
    let room = t.rows.room in
    let v = c.measure-line.ensures.value n f (estate_starts f d) (listed_rows n f (estate_listing f d)) spare rest t.rows t.many (starts_within t.ranked d n room) in
    let none : c.from_residual.result ≡ number_of (kept_estate f d) =
    c.from_residual.ensures ∙ c.in_err-number.ensures.value ∙ number_right t.ranked d n room beside line.parts line.multiple t.spouse t.repeats t.some v.0 v.1 in
    record {
      number = none;
      rows = subst (λ r. Rowed c.args.memory.now n f (estate_starts f d) (with_pieces (listed_rows n f (estate_listing f d)) (pieces_by n f d r)) spare rest) (sym c.from_residual.ensures) t.rows;
    }

pub returns : goal.returns
returns c =
    let line = c.measure-line.result in
    let beside = c.args.beside in
    let number = c.in_ok-number.number in
    record {
      limit = c.hand_down.ensures.limit ∙ c.give.ensures.limit;
      count = c.hand_down.ensures.count ∙ c.give.ensures.count;
      divided = λ n f rk d spare rest t.
          let room = t.rows.room in
          let ss = estate_starts f d in
          let os = estate_listing f d in
          let rows = listed_rows n f os in
          let v = c.measure-line.ensures.value n f ss rows spare rest t.rows t.many (starts_within t.ranked d n room) in
          let is : Some number ≡ _ =
          c.in_ok-number.ensures.value
          ∙ number_right t.ranked d n room beside line.parts line.multiple t.spouse t.repeats t.some v.0 v.1 in
          let small : number < 4294967296 = let e = (divided_by (kept_estate f d) number is).1 in let b = common_multiple_below (kept_estate f d) 1 (omega arith) in omega arith in
          let fits = starts_small t.ranked d n room beside.times number t.repeats small in
          let given = c.give.ensures.given n f ss rows spare rest t.rows t.many (starts_within t.ranked d n room) fits in
          let begun = started beside.times number ss (replicate n 0) in
          let handed = c.hand_down.ensures.handed n f ss (with_pieces rows begun) os spare rest given refl (estate_passes t.ranked d).listing t.all fits in
          record {
            number = is;
            rows =
                subst (λ k. Rowed c.hand_down.new.memory n f ss (with_pieces rows (handed_down (divided_among f) os (started k number ss (replicate n 0)))) spare rest) t.repeats handed;
          };
    }
