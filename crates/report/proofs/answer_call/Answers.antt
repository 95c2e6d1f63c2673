-- The answer that a register wrote is read back from its bytes. Assumes nothing.
use Rattle.std.proofs.Common.{◌-◌, take, string_bytes, ap, arith}
use Rattle.wire.specs.Bytes.{read, answer_read}
use Rattle.service.specs.Desks.{says}
use Rattle.register.specs.Stores.{words_in, bytes_in}
use Rattle.report.specs.Lines.{answer_text, text_of, memory_of}
use Rattle.report.proofs.Appended.{same_text}
use Rattle.report.proofs.Replies.{says_room, says_back}
use Rattle.report.proofs.answer_call.Goals as goal

pub slice_bounds-put_answer-end : goal.slice_bounds-put_answer-end
slice_bounds-put_answer-end g c =
    let register = c.args.register.now in
    let store = register.store.now in
    omega (
      arith,
      says_room g.S.Stage.can (words_in store) c.args.row.now (bytes_in store) (bytes_in c.call-size.new.self.store.now) c.bytes-bytes.result.now
          c.call-size.result register.sound register.room c.call-size.ensures.long c.call-size.ensures.said c.bytes-bytes.ensures.value,
    )

pub returns : goal.returns
returns g c =
    let register = c.args.register.now in
    let store = register.store.now in
    let size = c.call-size.result in
    let bytes = c.bytes-bytes.result.now in
    let back =
    says_back g.S.Stage.can (words_in store) c.args.row.now (bytes_in store) (bytes_in c.call-size.new.self.store.now) bytes
    size register.sound register.room c.call-size.ensures.long c.call-size.ensures.said c.bytes-bytes.ensures.value (size - 0) (omega arith)
    in
    record {
      left = c.call-size.ensures.left;
      lines =
          same_text c.put_answer.result (string_bytes c.put_answer.new.text) (string_bytes c.args.text.now) (text_of (answer_read (take (size - 0) bytes)))
          (answer_text (says g.S.Stage.can (memory_of register) (read c.args.row.now))) (ap text_of back) c.put_answer.ensures.lines;
      words = c.call-size.ensures.words;
      bytes = c.call-size.ensures.bytes;
    }
