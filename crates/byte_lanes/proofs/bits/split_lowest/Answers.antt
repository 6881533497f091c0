use Rattle.std.proofs.Common.{◌<◌, ◌-◌, arith, w64}
use Rattle.std.proofs.lemmas.Nat.{and_le_r}
use Rattle.std.proofs.lemmas.Nat.Bits.{bit_at-trailing_zeros}
use Rattle.byte_lanes.proofs.BitLemmas.{others_of_lowest}
use Rattle.byte_lanes.proofs.bits.split_lowest.Goals as goal

pub returns : goal.returns
returns c =
    let mask = c.args.mask in
    let some : 0 < mask = omega arith in
    let lowest = bit_at-trailing_zeros w64 mask some c.ranges.mask.fits in
    record { small = lowest.0; set = lowest.1; lowest = lowest.2; less = omega (arith, some, and_le_r mask (mask - 1)); others = others_of_lowest mask _ lowest.1 lowest.2 }
