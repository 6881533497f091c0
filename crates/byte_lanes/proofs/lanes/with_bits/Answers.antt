use Rattle.std.proofs.Common.{bit_or}
use Rattle.byte_lanes.proofs.LaneLemmas.{lanes_of, lanes_of_splat, lanes_zipped}
use Rattle.byte_lanes.proofs.lanes.with_bits.Goals as goal

pub returns : goal.returns
returns c = lanes_zipped bit_or (lanes_of c.args.bytes c.fits-bytes.0) (lanes_of_splat c.args.set)
