-- The answer that a register wrote is read back from its bytes. Assumes nothing.
use Rattle.law.specs.Promise.{all_calls}
use Rattle.std.proofs.Common.{◌≡◌, ℕ, ◌-◌, ◌<◌, length, take, string_bytes, sym, ap, ◌∙◌, arith}
use Rattle.rows.specs.Written.{written}
use Rattle.law.specs.Calls.{Call, estate_of, call_number}
use Rattle.wire.specs.Bytes.{call_bytes, read, answer_bytes, answer_read}
use Rattle.wire.proofs.ReadBack.{calls_read_back}
use Rattle.service.specs.Desks.{says}
use Rattle.register.specs.Stores.{words_in, bytes_in}
use Rattle.report.specs.Lines.{text_by, memory_of}
use Rattle.report.proofs.Appended.{same_text}
use Rattle.report.proofs.Replies.{says_room, says_back}
use Rattle.text.specs.Households.{names_in}
use Rattle.clerk.specs.Estates.{name_in, named_text}
use Rattle.clerk.proofs.ask.Goals as goal

-- the call by its bytes
asked : (who : ℕ) → who < 4294967296 → estate_of who ≡ read (call_bytes (estate_of who))
unfolding call_number
asked who h = sym (calls_read_back (estate_of who) (omega arith) (h, tt)).0

pub slice_bounds-put_named-end : goal.slice_bounds-put_named-end
slice_bounds-put_named-end c =
    let register = c.args.register.now in
    let store = register.store.now in
    let who = c.args.who in
    let e = asked who (omega (arith, c.ranges.who.fits)) in
    let before = memory_of register in
    omega (
      arith,
      says_room all_calls (words_in store) (call_bytes (estate_of who)) (bytes_in store) (bytes_in c.make-size.new.register.store.now) c.bytes-bytes.result.now
          c.make-size.result register.sound register.room (c.make-size.ensures.long ∙ ap (λ (q : Call). length (answer_bytes (says all_calls before q))) e)
          (c.make-size.ensures.said ∙ ap (λ (q : Call). written 0 (answer_bytes (says all_calls before q)) (bytes_in store)) e) c.bytes-bytes.ensures.value,
    )

pub returns : goal.returns
returns c =
    let register = c.args.register.now in
    let store = register.store.now in
    let who = c.args.who in
    let ns = names_in c.args.members.now in
    let e = asked who (omega (arith, c.ranges.who.fits)) in
    let before = memory_of register in
    let size = c.make-size.result in
    let bytes = c.bytes-bytes.result.now in
    let back =
    says_back all_calls (words_in store) (call_bytes (estate_of who)) (bytes_in store) (bytes_in c.make-size.new.register.store.now) bytes
    size register.sound register.room (c.make-size.ensures.long ∙ ap (λ (q : Call). length (answer_bytes (says all_calls before q))) e)
    (c.make-size.ensures.said ∙ ap (λ (q : Call). written 0 (answer_bytes (says all_calls before q)) (bytes_in store)) e) c.bytes-bytes.ensures.value (size - 0) (omega arith)
    in
    record {
      lines =
          same_text c.put_named.result (string_bytes c.put_named.new.text) (string_bytes c.args.text.now) (text_by (name_in ns) (answer_read (take (size - 0) bytes)))
          (named_text ns (says all_calls before (estate_of who))) (ap (text_by (name_in ns)) back ∙ ap (λ (q : Call). named_text ns (says all_calls before q)) (sym e)) c.put_named.ensures.lines;
    }
