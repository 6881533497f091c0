use Rattle.std.proofs.lemmas.Simd.{get_or-chunk}
use Rattle.byte_lanes.proofs.lanes.load_64.Goals as goal

pub returns : goal.returns
returns c k l = get_or-chunk c.args.at 64 c.args.bytes.now k 0 l
