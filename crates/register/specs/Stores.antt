-- Lent words and bytes as lists. Assumes nothing: these are definitions.
use Rattle.std.specs.Prelude.{ℕ, List}
use Rattle.register.specs.declared.store.Store.{Store}

abbrev pub words_in : Store → List ℕ
words_in s = s.memory.now

abbrev pub bytes_in : Store → List ℕ
bytes_in s = s.answer.now
