use Rattle.std.proofs.Common.{length}
use Rattle.people.proofs.walk.Children.of.Goals as goal

pub returns-clause-value : goal.returns-clause-value
returns-clause-value c n f s work rest e room = c.from_link.ensures.value n f s work rest 0 e room (c.first_child.ensures.value n (length f) f s work rest e)
