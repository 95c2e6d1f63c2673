-- A word beyond the others is not set. Assumes nothing.
use Rattle.std.proofs.Common.{sym, arith}
use Rattle.std.proofs.lemmas.List.{set_past}
use Rattle.children.proofs.set_word.Goals as goal

pub returns-else-place-words : goal.returns-else-place-words
returns-else-place-words c = record { left = sym (set_past c.args.words.now c.args.place c.args.value (omega arith)) }
