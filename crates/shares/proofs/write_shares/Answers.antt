-- Each heir's share is written and their pieces read, in their order; at the end none is left. Assumes nothing.
use Rattle.std.proofs.Common.{◌++◌, map, ◌∙◌, arith}
use Rattle.std.specs.List.{range_with_len}
use Rattle.bits.specs.Sets.{bit_row}
use Rattle.bits.proofs.Sets.{length-bit_row}
use Rattle.theory.specs.Shares.{lowest_share}
use Rattle.wire.specs.Bytes.{law_share}
use Rattle.shares.specs.Work.{has_pieces}
use Rattle.shares.proofs.Work.{length-area, parts_area}
use Rattle.shares.proofs.Writing.{pieces_left, writing_begins, writing_bytes, writing_heirs, writing_many, writing_on, writing_words}
use Rattle.shares.proofs.write_shares.Goals as goal

pub loop-who-init : goal.loop-who-init
loop-who-init c =
    (omega arith, omega arith, λ m ps g rest held. writing_begins m ps g rest c.args.whole c.args.persons c.args.answer.now c.args.work.now held.words)

pub loop-who-preserved : goal.loop-who-preserved
loop-who-preserved c =
    let inside = c.in-Some.ensures.within in (
      omega arith,
      omega arith,
      λ m ps g rest held.
          let count = c.loop-who.count in
          let from = c.loop-who.from in
          let work = c.loop-who.work in
          let o = c.loop-who.invariant.2 m ps g rest held in
          let behind = map (pieces_left g from) (range_with_len 0 m) ++ rest in
          let among = writing_heirs m ps g rest c.args.whole c.args.persons c.args.answer.now count from work c.loop-who.answer o in
          let next = c.in-Some.ensures.sets (parts_area ps) behind 128 (has_pieces g) among (length-area ps held.few) (omega arith) in
          let share = c.reduce-share.ensures.value ∙ (λ j. lowest_share (c.from-in-Some.ensures j) (c.from.ensures j) c.in-Some.who) in
          writing_on m ps g rest c.args.whole c.args.persons c.args.answer.now held.few held.within count from c.in-Some.who work c.loop-who.answer
          c.put_share.new.out (law_share c.reduce-share.result) o next share c.put_share.ensures.left,
    )

pub returns : goal.returns
returns c =
    let count = c.loop-who.count in
    let from = c.loop-who.from in
    let work = c.loop-who.work in
    let answer = c.loop-who.answer in
    let before = c.args.answer.now in
    let whole = c.args.whole in
    let persons = c.args.persons in
    record {
      shares = λ m ps g rest held past.
          let o = c.loop-who.invariant.2 m ps g rest held in
          let behind = map (pieces_left g from) (range_with_len 0 m) ++ rest in
          let among = writing_heirs m ps g rest whole persons before count from work answer o in
          let e = c.in_default.ensures.sets (parts_area ps) behind 128 (has_pieces g) among (length-area ps held.few) (omega arith) in
          let cleared = c.clear.ensures.sets (parts_area ps) (bit_row 128 (has_pieces g)) behind among (length-area ps held.few) (length-bit_row 128 (has_pieces g)) in
          record {
            left =
                record {
                  words = writing_words m ps g rest whole persons before count from work answer o e c.clear.new.memory past cleared;
                  few = held.few;
                  within = held.within;
                };
            said = c.put_count.ensures.left ∙ writing_bytes m ps g rest whole persons before count from work answer o e;
            next = writing_many m ps g rest whole persons before count from work answer o e;
          };
    }
