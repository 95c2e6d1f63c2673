use Rattle.std.proofs.Common.{arith}
use Rattle.people.proofs.Links.{filed_known, filed_none}
use Rattle.people.proofs.file_under.Goals as goal

pub returns-in-Some : goal.returns-in-Some
returns-in-Some c =
    record { left = filed_known c.args.links.now _ c.args.parent.link c.in-Some.number c.args.child c.args.parent.of_last (omega (arith, c.in-Some.ensures)) c.append.ensures.left }

pub returns-in_default : goal.returns-in_default
returns-in_default c = record { left = filed_none c.args.links.now c.args.parent.link c.args.child c.args.parent.of_last (omega (arith, c.in_default.ensures)) }
