use Rattle.std.proofs.Common.{ℕ, List, ◌++◌, string_bytes, sym, ap, ◌∙◌}
use Rattle.why.specs.Explained.{explanation}
use Rattle.reason_lines.specs.Lines.{names_of, part_line}
use Rattle.reason_lines.proofs.Texts.{row_more, row_all, joined_map}
use Rattle.reason_lines.proofs.put_parts.Goals as goal

pub loop-part-preserved : goal.loop-part-preserved
loop-part-preserved c =
    let ns = names_of c.args.names.now in
    let x = c.part-item.result in
    row_more (λ e. c.args.indent.now ++ part_line ns (explanation e)) c.args.parts.now c.loop-part.part-index x x (string_bytes c.args.text.now) (string_bytes c.loop-part.text) (string_bytes c.put_part.new.text)
    c.loop-part-test.true c.part-item.is c.loop-part.invariant c.in_ok-put_part.ensures.lines

pub returns : goal.returns
returns c =
    let ns = names_of c.args.names.now in
    record {
      lines =
          row_all (λ e. c.args.indent.now ++ part_line ns (explanation e)) c.args.parts.now c.loop-part.part-index (string_bytes c.args.text.now) (string_bytes c.loop-part.text) c.loop-part-test.false c.loop-part.invariant
          ∙ ap (λ (bs : List ℕ). string_bytes c.args.text.now ++ bs) (sym (joined_map (λ x. c.args.indent.now ++ part_line ns x) explanation c.args.parts.now));
    }
