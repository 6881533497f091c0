use Rattle.std.proofs.lemmas.Simd.{length-chunk, get_or-chunk}
use Rattle.byte_lanes.proofs.wide_lanes.load_wide.Goals as goal

pub returns : goal.returns
returns c =
    let numbers = c.args.numbers.now in
    record { long = length-chunk c.args.at 32 numbers c.requires; each = λ k l. get_or-chunk c.args.at 32 numbers k 0 l }
