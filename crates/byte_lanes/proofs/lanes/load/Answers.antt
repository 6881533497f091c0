use Rattle.std.proofs.lemmas.Simd.{length-chunk, get_or-chunk}
use Rattle.byte_lanes.proofs.lanes.load.Goals as goal

pub returns : goal.returns
returns c =
    let bytes = c.args.bytes.now in
    record { long = length-chunk c.args.at 32 bytes c.requires; each = λ k l. get_or-chunk c.args.at 32 bytes k 0 l }
