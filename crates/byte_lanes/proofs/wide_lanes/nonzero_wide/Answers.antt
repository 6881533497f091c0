use Rattle.std.proofs.Common.{w16, arith}
use Rattle.byte_lanes.proofs.LaneLemmas.{bit_of_nonzero}
use Rattle.byte_lanes.proofs.wide_lanes.nonzero_wide.Goals as goal

pub returns : goal.returns
returns c k = bit_of_nonzero w16 c.args.vector 32 k c.fits-vector.0 (omega arith)
