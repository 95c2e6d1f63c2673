use Rattle.std.proofs.Common.{sym, arith}
use Rattle.std.proofs.lemmas.Bool.{lt-leb}
use Rattle.reasons.proofs.Wholes.{many_listed}
use Rattle.reasons.proofs.parts_fit.Goals as goal

pub returns-in_default : goal.returns-in_default
returns-in_default c = record { value = sym (lt-leb _ 4096 (many_listed c.args.up c.args.count _ c.requires.some (let h = c.in_default.ensures in omega (arith, h)))) }
