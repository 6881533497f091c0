use Rattle.std.proofs.Common.{eqb, w8}
use Rattle.byte_lanes.proofs.LaneLemmas.{lanes_of, lanes_of_splat, lanes_selected}
use Rattle.byte_lanes.proofs.lanes.value_where.Goals as goal

pub returns : goal.returns
returns c =
    lanes_selected w8 eqb (lanes_of c.args.halves c.fits-halves.0) (lanes_of_splat c.args.half) (lanes_of_splat c.args.value) (lanes_of_splat 0)
