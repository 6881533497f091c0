use Rattle.byte_lanes.proofs.LaneLemmas.{halves_in_range, lanes_looked_up}
use Rattle.byte_lanes.proofs.lanes.look_up.Goals as goal

pub swizzle : goal.swizzle
swizzle c = halves_in_range c.args.halves c.fits-halves.0 c.requires

pub returns : goal.returns
returns c entries twice = lanes_looked_up c.args.table c.args.halves entries c.fits-halves.0 c.requires twice
