-- Each part adds its pieces; once all are added, each has what the whole row gives them. Assumes nothing.
use Rattle.std.proofs.Common.{◌<◌, [], take, sym, arith}
use Rattle.law.specs.Family.{Part, repeated}
use Rattle.law.specs.Calls.{pieces}
use Rattle.shares.specs.Parts.{law_part, lead_parts, whole_row}
use Rattle.shares.proofs.Pieces.{all_both_rows, gather_turn, gathered, gathered_all, gathered_none, held_as, row_gathering}
use Rattle.shares.proofs.gather.Goals as goal

pub loop-index-init : goal.loop-index-init
loop-index-init c = λ m ps g rest held ok.
    held_as m ps g (gathered g c.args.times c.args.whole []) rest c.args.persons c.add_lead.new.work (sym (gathered_none g c.args.times c.args.whole)) held

pub loop-index-preserved : goal.loop-index-preserved
loop-index-preserved c = λ m ps g rest held ok.
    gather_turn m ps g rest c.args.persons c.args.times c.args.count c.args.whole c.loop-index.index c.loop-index.work c.add_pieces.new.work
    (law_part c.part_at-part.result) c.amount.result ok c.loop-index-test.true (c.loop-index.invariant m ps g rest held ok) c.part_at-part.ensures.value c.amount.ensures.value
    (λ amounts now there fits. c.add_pieces.ensures.left m ps amounts rest now there fits)

pub returns : goal.returns
returns c =
    record {
      left = λ m ps rest held many there all.
          let lead = c.args.lead in
          let times = c.args.times in
          let whole = c.args.whole in
          let persons = c.args.persons in
          let first = (all_both_rows (λ (q : Part). q.who < persons) (lead_parts lead) (repeated times ps) there).0 in
          held_as m ps (gathered (pieces whole (lead_parts lead)) times whole (take c.loop-index.index ps)) (pieces whole (whole_row lead times ps)) rest persons c.loop-index.work
          (gathered_all lead times whole c.loop-index.index ps (omega arith))
          (c.loop-index.invariant m ps (pieces whole (lead_parts lead)) rest (c.add_lead.ensures.left m ps rest held first)
          (row_gathering ps lead persons times c.args.count whole many there all (omega arith)));
    }
