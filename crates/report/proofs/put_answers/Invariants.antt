-- What holds at each turn of the loop over the calls of a file. Assumes nothing.
use Rattle.std.proofs.Common.{◌≡◌, [], string_bytes}
use Rattle.service.specs.Desks.{desk}
use Rattle.report.specs.Lines.{memory_of}
use Rattle.report.proofs.Files.{Sofar}
use Rattle.report.proofs.put_answers.Given as goal

-- What was printed and left is right so far, and the lent slices are the same.
abbrev pub invariant-loop-row : goal.invariant-loop-row
invariant-loop-row g l =
    Sofar (desk g.S.Stage.can []) (string_bytes l.initial.text) (memory_of l.initial.register) l.input (string_bytes l.text) (memory_of l.register) l.row-iterator.rest.now
    × (l.register.store.now.memory.ghost_name ≡ l.initial.register.store.now.memory.ghost_name)
    × (l.register.store.now.answer.ghost_name ≡ l.initial.register.store.now.answer.ghost_name)
