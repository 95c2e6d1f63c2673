-- The pieces and the heirs afterwards are those before, and what was added. Assumes nothing.
use Rattle.std.proofs.Common.{◌≡◌, ◌+◌, ◌++◌, map, get_or, set, sym, ap, ◌∙◌, arith}
use Rattle.std.specs.List.{range_with_len}
use Rattle.bits.specs.Sets.{bit_row, with_member}
use Rattle.shares.specs.Work.{has_pieces, more_pieces}
use Rattle.shares.proofs.Work.{heirs_among, length-area, parts_area, pieces_read}
use Rattle.shares.proofs.Pieces.{heir_added, pieces_added}
use Rattle.shares.proofs.add_pieces.Goals as goal

pub returns-in_default-checked_add : goal.returns-in_default-checked_add
returns-in_default-checked_add c =
    record {
      left = λ m ps g rest held there fits.
          let within = held.within in
          let read : get_or c.args.work.now (8320 + c.args.who) 0 ≡ g c.args.who =
          ap (λ ws. get_or ws (8320 + c.args.who) 0) held.words ∙ pieces_read m ps (has_pieces g) g rest c.args.who held.few (omega arith) in
          absurd (c.in_default-checked_add.ensures (omega (arith, c.in-Ok.ensures)));
    }

pub returns : goal.returns
returns c =
    record {
      left = λ m ps g rest held there fits.
          let who = c.args.who in
          let more = c.args.more in
          let s = has_pieces g in
          let within = held.within in
          let behind = map (more_pieces g who more) (range_with_len 0 m) ++ rest in
          let middle : set c.args.work.now (8320 + who) c.in-Some.sum ≡ parts_area ps ++ (bit_row 128 s ++ behind) =
          ap (set c.args.work.now (8320 + who)) (c.in-Some.ensures.1 ∙ ap (λ n. get_or c.args.work.now (8320 + who) 0 + n) c.in-Ok.ensures.1)
          ∙ ap (λ ws. set ws (8320 + who) (get_or ws (8320 + who) 0 + more)) held.words
          ∙ pieces_added m ps s g rest who more held.few (omega arith)
          ∙ heirs_among m ps s (more_pieces g who more) rest in
          record {
            words =
                c.insert.ensures.sets (parts_area ps) behind 128 s middle (length-area ps held.few) (omega arith)
                ∙ sym (heirs_among m ps (with_member s who) (more_pieces g who more) rest)
                ∙ heir_added m ps g rest who more (omega arith);
            few = held.few;
            within = within;
          };
    }
