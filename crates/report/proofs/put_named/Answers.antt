-- The lines of an estate with no heir, and with some. Assumes nothing.
use Rattle.std.proofs.Common.{ℕ, Some, string_bytes, codes, sym, ap, ◌∙◌}
use Rattle.std.specs.List.{flat_map}
use Rattle.wire.specs.declared.Answer.{Answer}
use Rattle.wire.specs.Bytes.{answer_from, answer_read, shares_left}
use Rattle.report.specs.Lines.{heir_line, text_by}
use Rattle.report.proofs.Appended.{appended, same_text}
use Rattle.report.proofs.Heirs.{text_none, text_some}
use Rattle.report.proofs.put_named.Goals as goal

pub returns-in-Some-Shares-eq0 : goal.returns-in-Some-Shares-eq0
returns-in-Some-Shares-eq0 g c =
    let named = g.N.Naming.named c.args.naming.now in
    let a = answer_read c.args.answer.now in
    let told = sym (ap (λ (x : Answer ℕ). answer_from (Some x) c.args.answer.now) c.in-Some-Shares-eq0.field-0-is) ∙ c.in-Some-Shares-eq0.ensures.value in
    record {
      lines =
          appended c.push_str.result (string_bytes c.push_str.new.self) (string_bytes c.args.text.now) (codes "no heirs\n") (text_by named a)
          c.push_str.ensures.bytes (text_none named c.args.answer.now c.in-Some-Shares-eq0.field-0-0 a told c.in-Some-Shares-eq0.field-0-0-test);
    }

pub returns-in-Some-Shares : goal.returns-in-Some-Shares
returns-in-Some-Shares g c =
    let named = g.N.Naming.named c.args.naming.now in
    let a = answer_read c.args.answer.now in
    let ss = shares_left c.shares_in.result in
    let told = sym (ap (λ (x : Answer ℕ). answer_from (Some x) c.args.answer.now) c.in-Some-Shares.field-0-is) ∙ c.in-Some-Shares.ensures.value in
    record {
      lines =
          same_text c.put_share_lines.result (string_bytes c.put_share_lines.new.text) (string_bytes c.args.text.now) (flat_map (heir_line named) ss) (text_by named a)
          (text_some named c.args.answer.now c.in-Some-Shares.field-0-0 a told ss c.shares_in.ensures.value c.in-Some-Shares.field-0-0-test.1) c.put_share_lines.ensures.lines;
    }
