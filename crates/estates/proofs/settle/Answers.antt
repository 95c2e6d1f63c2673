use Rattle.std.proofs.Common.{◌≡◌, ℕ, ◌*◌, cond, List, length, get_or, replicate, Some, None, sym, ap, ◌∙◌, arith}
use Rattle.law.specs.Family.{Person, person, estate}
use Rattle.law.specs.Calls.{shares}
use Rattle.rows.specs.Written.{written}
use Rattle.rows.proofs.Written.{get_or-written_before}
use Rattle.wire.specs.Bytes.{answer_bytes}
use Rattle.theory.specs.Living.{alive}
use Rattle.theory.specs.Shares.{shares_of}
use Rattle.theory.specs.Decedent.{kept_estate}
use Rattle.theory.proofs.Decedent.{estate_already}
use Rattle.children.specs.Links.{link_row}
use Rattle.people.specs.Layout.{work_words, person_row}
use Rattle.people.proofs.Layouts.{limit_laid, person_laid}
use Rattle.shares.specs.Parts.{dividable}
use Rattle.amounts.specs.Lines.{kept_starts}
use Rattle.amounts.specs.Estates.{relatives_number, estate_starts}
use Rattle.amounts.proofs.Orders.{kept_starts_few}
use Rattle.descent.specs.Going.{with_parts}
use Rattle.descent.proofs.Rows.{spare_words, no_parts}
use Rattle.succession.proofs.Settling.{there_more, spouse_within, begun_none}
use Rattle.estates.specs.Passing.{spare_zeros}
use Rattle.estates.proofs.Areas.{parts_gone}
use Rattle.estates.proofs.settle.Goals as goal

pub returns : goal.returns
returns c =
    let ws = c.args.memory.now in
    let who = c.args.who in
    let at = c.work_at-at.result in
    let begins = c.work_at-at.ensures.value in
    let beside = c.beside_spouse-beside.result in
    let count = c.begin-count.result in
    let mem = c.write_answer-shares.new.memory in
    record {
      limit =
          ap (λ u. get_or u 0 0) c.clear.ensures.left ∙ get_or-written_before at 0 (replicate (2 * count) 0) mem 0 (omega arith)
          ∙ c.write_answer-shares.ensures.limit ∙ c.divide_listed-number.ensures.limit ∙ c.begin-count.ensures.limit;
      count =
          ap (λ u. get_or u 1 0) c.clear.ensures.left ∙ get_or-written_before at 1 (replicate (2 * count) 0) mem 0 (omega arith)
          ∙ c.write_answer-shares.ensures.count ∙ c.divide_listed-number.ensures.count ∙ c.begin-count.ensures.count;
      settled = λ n f rest e d.
          let work : List ℕ = replicate (work_words n) 0 in
          let l = limit_laid ws n (length f) (person_row f) (link_row f) (alive f) work rest e in
          let room = d.room in
          let there = d.there in
          let order = c.order_of-order.ensures.value n f work rest e (there_more f n room d.parents) in
          let read : c.read-spouse.result.spouse ≡ (person f who).spouse =
          ap (λ (x : Person). x.spouse) (c.read-spouse.ensures.value ∙ person_laid ws n (length f) f (link_row f) (alive f) work rest who e (omega arith)) in
          let spouse = c.living_spouse.ensures.value n (length f) f (alive f) work rest who e read (omega (arith, spouse_within f who d.formed)) in
          let numbers = c.beside_spouse-beside.ensures.numbers f who spouse order in
          let put = c.begin-count.ensures.put n f d.formed.rank (spare_words n) rest (begun_none ws n f rest who e d) d.parents there order in
          let starts : kept_starts f who beside.by ≡ estate_starts f who = ap (kept_starts f who) numbers.0 in
          let few = kept_starts_few f who (relatives_number f who) in
          let many : length (estate_starts f who) ≡ count = let z = put.next in omega (arith, ap length starts) in
          let divided =
          c.divide_listed-number.ensures.divided n f d.formed.rank who rest
          (record {
            words = put.words ∙ ap (λ ps. with_parts n f ps (spare_zeros n) rest) starts;
            room = room;
            few = omega arith;
            ranked = d.formed.ranked;
            many = many;
            spouse = numbers.2;
            repeats = numbers.1;
            some = c.beside_spouse-beside.ensures.some;
          }) in
          let answered = c.write_answer-shares.ensures.answered n f who rest divided d numbers.2 in
          let is : kept_estate f who ≡ estate f who = sym (estate_already d.formed who d.dead).2 in
          let limits = c.write_answer-shares.ensures.limit ∙ c.divide_listed-number.ensures.limit ∙ c.begin-count.ensures.limit in
          record {
            left = c.clear.ensures.left ∙ parts_gone mem n f (estate_starts f who) (spare_zeros n) rest at count answered.left (omega arith) many (omega arith) ∙ sym (no_parts n f rest);
            said = answered.said ∙ ap (λ ps. cond (dividable ps) (written 0 (answer_bytes (shares (shares_of ps))) c.args.answer.now) c.args.answer.now) is;
            next = answered.next ∙ ap (λ ps. cond (dividable ps) (Some (length (shares_of ps))) None) is;
          };
    }
