-- A share's bytes. Assumes nothing.
use Rattle.wire.specs.Bytes.{le4, le8, law_share}
use Rattle.wire.proofs.Bytes.{share_written}
use Rattle.wire.proofs.write_share.Goals as goal

pub returns : goal.returns
unfolding le4 le8
returns c = let e = share_written c.args.at (law_share c.args.share) c.args.part.now in record { left = cc }
