use Rattle.std.proofs.Common.{◌+◌, get_or, set, sym, ap, ◌∙◌, subst}
use Rattle.amounts.specs.Passes.{added_each}
use Rattle.passes.specs.Rows.{Rowed, rows_area, with_pieces}
use Rattle.passes.specs.Walking.{Ahead}
use Rattle.passes.proofs.Downward.{line_fits, added_first, added_none}
use Rattle.passes.proofs.add_below.Goals as goal

pub loop-child-preserved : goal.loop-child-preserved
loop-child-preserved c =
    let inv = c.loop-child.invariant in
    let lines = c.loop-child.lines in
    let each = c.args.each in
    let child = c.in-Some.child in
    let step = c.in-Some.ensures.step in
    record {
      limit = c.add.ensures.limit ∙ inv.limit;
      count = c.add.ensures.count ∙ inv.count;
      who = step.who ∙ inv.who;
      added = λ n f ps rows spare rest held small.
          let (ds, row, ahead, now, all) = inv.added n f ps rows spare rest held small in
          let (qs, is, later) = step.next n f (rows_area ps (with_pieces rows row) spare) rest ds (now.words, now.room) ahead in
          let final = ap (λ ds. added_each ds each row) (sym is) ∙ all in
          let fits = line_fits f lines child each n row qs _ held.room now.pieces_long (subst (Ahead f lines) is ahead) final small in
          (qs, set row child (get_or row child 0 + each), later, c.add.ensures.added n f ps (with_pieces rows row) spare rest now fits, sym (added_first child qs each row) ∙ final);
    }

pub returns-clause-added : goal.returns-clause-added
returns-clause-added c n f ps rows spare rest held small =
    let each = c.args.each in
    let (ds, row, ahead, now, all) = c.loop-child.invariant.added n f ps rows spare rest held small in
    let over = c.in_default.ensures.step.next n f (rows_area ps (with_pieces rows row) spare) rest ds (now.words, now.room) ahead in
    subst (λ r. Rowed c.loop-child.memory n f ps (with_pieces rows r) spare rest) (sym (added_none each row) ∙ ap (λ ds. added_each ds each row) (sym over) ∙ all) now
