use Rattle.estate_table.proofs.Tables.{shares_are_one}
use Rattle.estate_table.proofs.shares_are_one.Goals as goal

pub returns : goal.returns
returns c = record { holds = shares_are_one }
