-- A call by its bytes. Assumes nothing.
use Rattle.std.proofs.Common.{ℕ, ◌-◌, List, [], ◌∷◌, length, refl, ap, ◌∙◌, arith}
use Rattle.law.specs.Promise.{all_calls}
use Rattle.rows.specs.Written.{written}
use Rattle.law.specs.Calls.{Call}
use Rattle.wire.specs.Bytes.{answer_bytes}
use Rattle.service.specs.Desks.{next, says}
use Rattle.register.specs.Stores.{bytes_in}
use Rattle.report.specs.Lines.{memory_of}
use Rattle.clerk.proofs.Calling.{call_fits, call_back}
use Rattle.clerk.proofs.make.Goals as goal

-- the bytes before
abbrev nine : List ℕ
nine = 0 ∷ 0 ∷ 0 ∷ 0 ∷ 0 ∷ 0 ∷ 0 ∷ 0 ∷ 0 ∷ []

pub unreachable-requires : goal.unreachable-requires
unreachable-requires c = call_fits c.args.request nine refl c.in-None.ensures.value

pub returns : goal.returns
returns c =
    let size = c.in-Some.size in
    let before = memory_of c.args.register.now in
    let lent = bytes_in c.args.register.now.store.now in
    let back = call_back c.args.request nine c.put_call.new.out size (size - 0) refl c.requires.fits c.in-Some.ensures.left c.in-Some.ensures.value (omega arith) in
    record {
      left = c.call.ensures.left ∙ ap (next all_calls before) back;
      said = c.call.ensures.said ∙ ap (λ (q : Call). written 0 (answer_bytes (says all_calls before q)) lent) back;
      long = c.call.ensures.long ∙ ap (λ (q : Call). length (answer_bytes (says all_calls before q))) back;
      words = c.call.ensures.words;
      bytes = c.call.ensures.bytes;
    }
