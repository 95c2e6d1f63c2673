use Rattle.std.proofs.Common.{length, sym, ap, ◌∙◌}
use Rattle.law.specs.Calls.{refused}
use Rattle.rows.specs.Written.{written}
use Rattle.wire.specs.Bytes.{answer_bytes}
use Rattle.wire.proofs.Bytes.{length-refused}
use Rattle.register.proofs.answer_row.Goals as goal

pub returns-in-Err : goal.returns-in-Err
returns-in-Err g c =
    let replied = c.in-Err.ensures.replied c.requires.sound in
    let said = (λ i. refused (c.number.ensures i) (c.place.ensures i)) ∙ replied.said.0 in
    record {
      left = replied.left;
      said = c.put_refusal.ensures.left ∙ (λ i. written 0 (answer_bytes (said i)) (replied.said.1 i));
      long = sym (length-refused _ _) ∙ ap (λ a. length (answer_bytes a)) said;
      sound = replied.sound;
      limit = replied.limit;
    }
