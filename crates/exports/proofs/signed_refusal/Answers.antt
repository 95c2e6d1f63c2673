use Rattle.std.proofs.Common.{arith}
use Rattle.std.proofs.lemmas.Int.{ints}
use Rattle.exports.proofs.signed_refusal.Goals as goal

pub returns : goal.returns
returns c = record { value = omega (arith, ints) }
