use Rattle.theory.proofs.DeadLines.{dead_lines, dead_child_changes_nothing, dead_person_changes_nothing}
use Rattle.theory.proofs.dead_lines.Goals as goal

pub returns : goal.returns
returns c = record { promised = dead_lines; stronger = dead_child_changes_nothing; persons = dead_person_changes_nothing }
