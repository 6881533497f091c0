use Rattle.std.proofs.Common.{arith}
use Rattle.byte_lanes.proofs.LaneLemmas.{some_nonzero}
use Rattle.byte_lanes.proofs.lanes.any_lane.Goals as goal

pub returns : goal.returns
returns c k _ set = some_nonzero c.args.lanes 32 k c.fits-lanes.0 (omega arith) set
