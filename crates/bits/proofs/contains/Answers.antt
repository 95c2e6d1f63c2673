-- That the bit that is read says who is a member. Assumes nothing.
use Rattle.std.proofs.Common.{refl}
use Rattle.bits.specs.Words.{tested}
use Rattle.bits.proofs.Sets.{member_among}
use Rattle.bits.proofs.contains.Goals as goal

pub returns : goal.returns
unfolding tested
returns c =
    record {
      value = refl;
      sets = λ front rest m s held first h. member_among c.args.memory.now front rest m s c.args.at held first c.args.p h;
    }
