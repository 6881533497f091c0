use Rattle.byte_lanes.proofs.LaneLemmas.{set_if_same}
use Rattle.byte_lanes.proofs.lanes.equal_bits.Goals as goal

pub returns : goal.returns
returns c k = set_if_same c.args.bytes c.args.set c.args.byte k c.fits-bytes.0
