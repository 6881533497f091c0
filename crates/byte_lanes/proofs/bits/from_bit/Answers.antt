use Rattle.byte_lanes.proofs.BitLemmas.{bits_from}
use Rattle.byte_lanes.proofs.bits.from_bit.Goals as goal

pub returns : goal.returns
returns c = bits_from c.args.mask c.args.place c.ranges.mask.fits
