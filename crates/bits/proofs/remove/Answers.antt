-- That the word that is written has the set with one less member. Assumes nothing.
use Rattle.std.proofs.Common.{◌+◌, ◌/◌, ◌%◌, get_or, set, ap, ◌∙◌, arith}
use Rattle.std.proofs.lemmas.Nat.{mod_below}
use Rattle.bits.proofs.Sets.{removed_among}
use Rattle.bits.proofs.Words.{removed_code}
use Rattle.bits.proofs.remove.Goals as goal

pub returns : goal.returns
returns c =
    let memory = c.args.memory.now in
    let at = c.args.at in
    let p = c.args.p in
    let here = at + p / 32 in
    let word = ap (set memory here) (removed_code (get_or memory here 0) (p % 32) (mod_below p 32 (omega arith))) in
    record { left = word; sets = λ front rest m s held first h. word ∙ removed_among memory front rest m s at held first p h }
