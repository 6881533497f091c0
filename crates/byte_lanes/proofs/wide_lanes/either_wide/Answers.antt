use Rattle.std.proofs.Common.{bit_or}
use Rattle.byte_lanes.proofs.LaneLemmas.{lanes_of, lanes_zipped}
use Rattle.byte_lanes.proofs.wide_lanes.either_wide.Goals as goal

pub returns : goal.returns
returns c = lanes_zipped bit_or (lanes_of c.args.a c.fits-a.0) (lanes_of c.args.b c.fits-b.0)
