-- A line has one form. Assumes nothing.
use Rattle.lines.proofs.OneForm.{line_back, line_read}
use Rattle.lines.specs.Grammar.{OneForm}
use Rattle.lines.proofs.lines_have_one_form.Goals as goal

pub returns : goal.returns
unfolding OneForm
returns c = record { holds = (line_read, line_back) }
