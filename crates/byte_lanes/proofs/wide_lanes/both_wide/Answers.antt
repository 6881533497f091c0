use Rattle.std.proofs.Common.{bit_and}
use Rattle.byte_lanes.proofs.LaneLemmas.{lanes_of, lanes_zipped}
use Rattle.byte_lanes.proofs.wide_lanes.both_wide.Goals as goal

pub returns : goal.returns
returns c = lanes_zipped bit_and (lanes_of c.args.a c.fits-a.0) (lanes_of c.args.b c.fits-b.0)
