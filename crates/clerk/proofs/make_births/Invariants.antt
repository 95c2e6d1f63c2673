-- What holds at each turn of the loop over the persons. Assumes nothing.
use Rattle.std.proofs.Common.{◌≡◌, [], drop}
use Rattle.law.specs.Promise.{left_by, all_calls}
use Rattle.text.specs.Households.{persons_of}
use Rattle.service.specs.Desks.{desk}
use Rattle.report.specs.Lines.{memory_of}
use Rattle.text.specs.Building.{births}
use Rattle.clerk.proofs.make_births.Given as goal

-- what is left to call leads where all calls lead, and the lent slices are the same
abbrev pub invariant-loop-member : goal.invariant-loop-member
invariant-loop-member l =
    (left_by (desk all_calls []) (memory_of l.register) (births (drop l.member-index (persons_of l.members))) ≡ left_by (desk all_calls []) (memory_of l.initial.register) (births (persons_of l.members)))
    × (l.register.store.now.memory.ghost_name ≡ l.initial.register.store.now.memory.ghost_name)
    × (l.register.store.now.answer.ghost_name ≡ l.initial.register.store.now.answer.ghost_name)
