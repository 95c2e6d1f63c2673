use Rattle.std.proofs.Common.{arith}
use Rattle.children.specs.Links.{link_row}
use Rattle.children.proofs.Links.{links_wide}
use Rattle.living.proofs.Bits.{member_laid}
use Rattle.living.proofs.lives.Goals as goal

pub returns : goal.returns
returns c =
    record {
      value = λ n k f s work rest e.
          member_laid c.args.memory.now n k f (link_row f) s work rest c.marks_at.result c.args.who c.contains.result e (links_wide f) c.marks_at.ensures.value (omega arith)
          c.contains.ensures.sets;
    }
