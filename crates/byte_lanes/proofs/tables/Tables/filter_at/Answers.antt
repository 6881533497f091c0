use Rattle.byte_lanes.proofs.FilterLemmas.{lanes_of_loads}
use Rattle.byte_lanes.proofs.tables.Tables.filter_at.Goals as goal

pub returns : goal.returns
returns c masks wide =
    lanes_of_loads masks c.args.text.now c.args.at c.load.ensures c.load-2.ensures c.load-3.ensures (c.filter.ensures masks wide)
