use Rattle.std.proofs.Common.{◌≡◌, ℕ, ◌+◌, ◌-◌, ◌*◌, List, ◌++◌, length, get_or, replicate, Some, None, sym, ap, ◌∙◌, arith}
use Rattle.law.specs.Family.{Person, person}
use Rattle.rows.proofs.Written.{get_or-written_before, get_or-put_before}
use Rattle.theory.specs.Living.{alive}
use Rattle.theory.specs.Decedent.{kept_relatives}
use Rattle.theory.proofs.Decedent.{estate_already}
use Rattle.children.specs.Links.{link_row}
use Rattle.people.specs.Layout.{work_words, person_row, count_in}
use Rattle.people.proofs.Layouts.{limit_laid, person_laid, count_image}
use Rattle.shares.specs.Parts.{whole_row}
use Rattle.descent.proofs.Rows.{spare_words}
use Rattle.succession.proofs.Settling.{there_more, spouse_within, begun_none, starts_there, gone_relatives, settled_beyond, handed_words, row_sound, settled_within}
use Rattle.succession.specs.Starts.{starts_row}
use Rattle.succession.proofs.settle.Goals as goal

pub returns-in_default : goal.returns-in_default
returns-in_default c =
    let ws = c.args.memory.now in
    let who = c.args.who in
    let at = c.work_at-at.result in
    let begins = c.work_at-at.ensures.value in
    let mem = c.relatives.new.memory in
    let beside = c.beside_spouse-beside.result in
    record {
      limit = ap (λ u. get_or u 0 0) c.clear.ensures.left ∙ get_or-written_before at 0 (replicate 8192 0) mem 0 (omega arith) ∙ c.relatives.ensures.limit;
      count = ap (λ u. get_or u 1 0) c.clear.ensures.left ∙ get_or-written_before at 1 (replicate 8192 0) mem 0 (omega arith) ∙ c.relatives.ensures.count;
      settled = λ n f rest e d.
          let work : List ℕ = replicate (work_words n) 0 in
          let l = limit_laid ws n (length f) (person_row f) (link_row f) (alive f) work rest e in
          let room = d.room in
          let there = d.there in
          let order = c.order_of-order.ensures.value n f work rest e (there_more f n room d.parents) in
          let read : c.read-spouse.result.spouse ≡ (person f who).spouse =
          ap (λ (x : Person). x.spouse) (c.read-spouse.ensures.value ∙ person_laid ws n (length f) f (link_row f) (alive f) work rest who e (omega arith)) in
          let spouse = c.living_spouse.ensures.value n (length f) f (alive f) work rest who e read (omega (arith, spouse_within f who d.formed)) in
          let row = c.beside_spouse-beside.ensures.value f who spouse order ∙ sym (estate_already d.formed who d.dead).2 in
          let starts = c.starts_of-starts.ensures.value n f work rest e (there_more f n room d.parents) order in
          let number = (c.beside_spouse-beside.ensures.numbers f who spouse order).0 in
          let gone = gone_relatives n f (spare_words n) rest who beside.by (starts_row c.starts_of-starts.result) mem None starts
          (c.in_default.ensures.gone n f d.formed.rank (spare_words n) rest (begun_none ws n f rest who e d)
          (starts_there f d.formed.rank who beside.by (starts_row c.starts_of-starts.result) d.formed.ranked number starts)) in
          settled_beyond n f rest who beside.lead beside.times (kept_relatives f who beside.by) mem c.clear.new.row c.args.answer.now at row c.beside_spouse-beside.ensures.some
          gone (omega arith) c.clear.ensures.left;
    }

pub returns : goal.returns
returns c =
    let ws = c.args.memory.now in
    let who = c.args.who in
    let at = c.work_at-at.result in
    let begins = c.work_at-at.ensures.value in
    let mem = c.relatives.new.memory in
    let beside = c.beside_spouse-beside.result in
    let count = c.in-Some.count in
    record {
      limit = get_or-put_before at (length mem - at) 0 mem c.settle.new.work 0 (omega arith) (omega arith) ∙ c.relatives.ensures.limit;
      count = get_or-put_before at (length mem - at) 1 mem c.settle.new.work 0 (omega arith) (omega arith) ∙ c.relatives.ensures.count;
      settled = λ n f rest e d.
          let work : List ℕ = replicate (work_words n) 0 in
          let l = limit_laid ws n (length f) (person_row f) (link_row f) (alive f) work rest e in
          let room = d.room in
          let there = d.there in
          let order = c.order_of-order.ensures.value n f work rest e (there_more f n room d.parents) in
          let read : c.read-spouse.result.spouse ≡ (person f who).spouse =
          ap (λ (x : Person). x.spouse) (c.read-spouse.ensures.value ∙ person_laid ws n (length f) f (link_row f) (alive f) work rest who e (omega arith)) in
          let spouse = c.living_spouse.ensures.value n (length f) f (alive f) work rest who e read (omega (arith, spouse_within f who d.formed)) in
          let row = kept_relatives f who beside.by in
          let is = c.beside_spouse-beside.ensures.value f who spouse order ∙ sym (estate_already d.formed who d.dead).2 in
          let starts = c.starts_of-starts.ensures.value n f work rest e (there_more f n room d.parents) order in
          let number = (c.beside_spouse-beside.ensures.numbers f who spouse order).0 in
          let gone = gone_relatives n f (spare_words n) rest who beside.by (starts_row c.starts_of-starts.result) mem (Some count) starts
          (c.in-Some.ensures.gone n f d.formed.rank (spare_words n) rest (begun_none ws n f rest who e d)
          (starts_there f d.formed.rank who beside.by (starts_row c.starts_of-starts.result) d.formed.ranked number starts)) in
          let start : at ≡ 130 + 8 * n = omega arith in
          let persons : count_in ws ≡ length f = ap count_in e ∙ count_image n f rest in
          let many = gone.0 in
          settled_within n f rest who row (whole_row beside.lead beside.times row) mem c.settle.new.work c.args.answer.now c.settle.new.answer count at c.settle.result is gone start
          (c.settle.ensures.settled n row (spare_words n ++ rest) (handed_words n f rest row mem count at gone start) (omega arith) (omega arith)
          (row_sound f who (count_in ws) (whole_row beside.lead beside.times row) d.formed persons is));
    }
