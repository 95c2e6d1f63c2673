use Rattle.law.specs.Promise.{births_and_deaths, all_calls}
use Rattle.register.proofs.Promises.{refusals_keep as keep}
use Rattle.register.proofs.refusals_keep.Goals as goal

pub returns : goal.returns
returns c = record { every = keep; births = keep births_and_deaths; all = keep all_calls }
