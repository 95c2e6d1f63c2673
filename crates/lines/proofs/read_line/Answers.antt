-- What a line says. Assumes nothing.
use Rattle.std.proofs.Common.{ap, ◌∙◌}
use Rattle.std.specs.Option.{option_map}
use Rattle.lines.specs.Words.{split}
use Rattle.lines.specs.Grammar.{said_by}
use Rattle.lines.proofs.Readings.{none_from_err, read_pieces, no_name, no_parents, no_death, no_spouse, all_there}
use Rattle.lines.proofs.read_line.Goals as goal

pub returns-in_err-name : goal.returns-in_err-name
returns-in_err-name c =
    let pieces =
    read_pieces c.args.line.now (split c.split_off.result) (split c.split_off-2.result) (split c.split_off-3.result) c.split_off.ensures.value
    c.split_off-2.ensures.value c.split_off-3.ensures.value
    in
    record { value = ap (option_map said_by) (none_from_err c.from_residual.result c.from_residual.ensures.0) ∙ (no_name _ _ _ _ c.in_err-name.ensures.value ∙ pieces) }

pub returns-in_err-mother : goal.returns-in_err-mother
returns-in_err-mother c =
    let pieces =
    read_pieces c.args.line.now (split c.split_off.result) (split c.split_off-2.result) (split c.split_off-3.result) c.split_off.ensures.value
    c.split_off-2.ensures.value c.split_off-3.ensures.value
    in
    record {
      value =
          ap (option_map said_by) (none_from_err c.from_residual-in_err-mother.result c.from_residual-in_err-mother.ensures.0)
          ∙ (no_parents _ _ _ _ _ c.in_ok-name.ensures.value c.in_err-mother.ensures.value ∙ pieces);
    }

pub returns-in_err-died : goal.returns-in_err-died
returns-in_err-died c =
    let pieces =
    read_pieces c.args.line.now (split c.split_off.result) (split c.split_off-2.result) (split c.split_off-3.result) c.split_off.ensures.value
    c.split_off-2.ensures.value c.split_off-3.ensures.value
    in
    record {
      value =
          ap (option_map said_by) (none_from_err c.from_residual-in_err-died.result c.from_residual-in_err-died.ensures.0)
          ∙ (no_death _ _ _ _ _ _ c.in_ok-name.ensures.value c.in_ok-mother.ensures.value c.in_err-died.ensures.value ∙ pieces);
    }

pub returns-in_err-spouse : goal.returns-in_err-spouse
returns-in_err-spouse c =
    let pieces =
    read_pieces c.args.line.now (split c.split_off.result) (split c.split_off-2.result) (split c.split_off-3.result) c.split_off.ensures.value
    c.split_off-2.ensures.value c.split_off-3.ensures.value
    in
    record {
      value =
          ap (option_map said_by) (none_from_err c.from_residual-in_err-spouse.result c.from_residual-in_err-spouse.ensures.0)
          ∙ (no_spouse _ _ _ _ _ _ _ c.in_ok-name.ensures.value c.in_ok-mother.ensures.value c.in_ok-died.ensures.value
          c.in_err-spouse.ensures.value ∙ pieces);
    }

pub returns : goal.returns
returns c =
    let pieces =
    read_pieces c.args.line.now (split c.split_off.result) (split c.split_off-2.result) (split c.split_off-3.result) c.split_off.ensures.value
    c.split_off-2.ensures.value c.split_off-3.ensures.value
    in
    record {
      value =
          all_there _ _ _ _ _ _ _ _ c.in_ok-name.ensures.value c.in_ok-mother.ensures.value c.in_ok-died.ensures.value
          c.in_ok-spouse.ensures.value ∙ pieces;
    }
