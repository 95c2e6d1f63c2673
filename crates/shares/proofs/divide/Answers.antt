-- Where the row has a number, its pieces are gathered and its shares written; else nothing changes. Assumes nothing.
use Rattle.std.proofs.Common.{Some}
use Rattle.law.specs.Calls.{pieces}
use Rattle.theory.proofs.Shares.{pieces_past}
use Rattle.shares.specs.Parts.{whole_row}
use Rattle.shares.proofs.Settling.{read_row, settled_none, settled_some}
use Rattle.shares.proofs.divide.Goals as goal

pub returns-in_err-number : goal.returns-in_err-number
returns-in_err-number c =
    record {
      settled = λ m ps rest held many there all.
          settled_none m ps rest c.args.persons c.args.lead c.args.times c.args.count c.args.work.now c.args.answer.now c.from_residual.result held many
          c.in_err-number.ensures.value c.from_residual.ensures;
    }

pub returns : goal.returns
returns c =
    record {
      settled = λ m ps rest held many there all.
          let n = c.in_ok-number.number in
          let row = whole_row c.args.lead c.args.times ps in
          let number = read_row m ps rest c.args.persons c.args.lead c.args.times c.args.count c.args.work.now held many (Some n) c.in_ok-number.ensures.value in
          settled_some m ps rest c.args.persons row n c.write_shares.new.work c.args.answer.now c.write_shares.new.answer c.write_shares.result number there
          (λ fits. c.write_shares.ensures.shares m ps (pieces n row) rest (c.gather.ensures.left m ps rest held many there fits) (λ w l. pieces_past c.args.persons n w row there l)) all;
    }
