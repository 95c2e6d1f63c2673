-- What is settled of the parts as words hold them is settled of the true row, and their words are cleared. Assumes nothing.
use Rattle.std.proofs.Common.{◌*◌, ◌≤◌, map, length, replicate, sym, ap, ◌∙◌, arith}
use Rattle.std.proofs.lemmas.List.{length-map}
use Rattle.rows.specs.Written.{written}
use Rattle.shares.specs.Work.{word_part}
use Rattle.shares.proofs.Settling.{row_there, row_within, settled_row}
use Rattle.shares.proofs.settle.Goals as goal

pub returns : goal.returns
returns c =
    record {
      settled = λ m ps rest held many within sound.
          let lead = c.args.lead in
          let times = c.args.times in
          let persons = c.args.persons in
          let long = length-map ps word_part in
          let few : length ps ≤ 4096 = omega arith in
          settled_row lead times ps m rest c.divide-shares.new.work c.args.answer.now c.divide-shares.new.answer c.clear.new.row c.divide-shares.result sound.positive few
          (c.divide-shares.ensures.settled m (map word_part ps) rest (record { words = held; few = omega arith; within = within }) (long ∙ many)
          (row_there lead times ps persons sound.there) (row_within lead times ps sound.positive sound.within))
          (c.clear.ensures.left ∙ ap (λ k. written 0 (replicate (2 * k) 0) c.divide-shares.new.work) (sym many));
    }
