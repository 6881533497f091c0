use Rattle.std.proofs.Common.{eqb, w16}
use Rattle.byte_lanes.proofs.LaneLemmas.{lanes_of, lanes_of_splat, lanes_selected}
use Rattle.byte_lanes.proofs.wide_lanes.value_where_wide.Goals as goal

pub returns : goal.returns
returns c =
    lanes_selected w16 eqb (lanes_of c.args.halves c.fits-halves.0) (lanes_of_splat c.args.half) (lanes_of_splat c.args.value) (lanes_of_splat 0)
