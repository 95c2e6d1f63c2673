-- The lines that answer a file, by a register in just as many words as it asks for. Assumes nothing.
use Rattle.std.proofs.Common.{[], length, string_bytes, ap, arith}
use Rattle.service.specs.Desks.{desk}
use Rattle.register.specs.Stores.{words_in}
use Rattle.report.specs.Lines.{file_calls, memory_of, printed, file_lines}
use Rattle.report.proofs.Appended.{same_text}
use Rattle.report.proofs.Files.{opened_lines}
use Rattle.report.proofs.put_file.Goals as goal

pub returns : goal.returns
returns g c =
    let input = c.args.input.now in
    let opened = memory_of c.in-Ok.register in
    let long = ap (λ r. length r.now) c.new-store.ensures.words in
    record {
      lines =
          same_text c.put_answers.result (string_bytes c.put_answers.new.text) (string_bytes c.args.text.now)
          (printed (desk g.S.Stage.can []) opened (file_calls input)) (file_lines g.S.Stage.can input)
          (opened_lines g.S.Stage.can (words_in c.new-store.result) input opened (omega (arith, c.requires.words)) c.in-Ok.ensures.cases.1) c.put_answers.ensures.lines;
    }
