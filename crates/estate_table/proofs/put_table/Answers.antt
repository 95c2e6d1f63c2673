use Rattle.std.proofs.Common.{ℕ, ◌++◌, length, string_bytes, sym, ap, ◌∙◌}
use Rattle.std.proofs.lemmas.Result.{on_ok_weaker}
use Rattle.ways.specs.Ways.{estate_ways}
use Rattle.why.proofs.Sums.{held_ways}
use Rattle.reason_lines.specs.Lines.{names_of}
use Rattle.reason_lines.proofs.Texts.{two}
use Rattle.estate_table.specs.Tables.{heirs_lines, end_line}
use Rattle.estate_table.proofs.put_table.Goals as goal

pub returns : goal.returns
returns c =
    let ns = names_of c.args.names.now in
    let start = string_bytes c.args.text.now in
    let heirs = string_bytes c.put_heirs.new.text in
    record {
      lines =
          on_ok_weaker c.put_end.result
          (λ ended f d formed divided size.
          two start heirs (string_bytes c.put_end.new.text) (heirs_lines ns f d (length f)) (end_line (length (estate_ways f d)))
          (c.in_ok-put_heirs.ensures.lines f d formed divided ∙ ap (λ (n : ℕ). start ++ heirs_lines ns f d n) (sym size))
          (ended ∙ ap (λ rs. heirs ++ end_line (length rs)) (held_ways f d c.args.estate.now divided)))
          c.put_end.ensures.lines;
    }
