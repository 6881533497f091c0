use Rattle.byte_lanes.proofs.BitLemmas.{bits_below}
use Rattle.byte_lanes.proofs.bits.below_bit.Goals as goal

pub returns : goal.returns
returns c = bits_below c.args.mask c.args.place c.requires
