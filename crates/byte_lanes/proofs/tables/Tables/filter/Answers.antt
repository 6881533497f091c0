use Rattle.nib_mask.specs.Tables.{value_at}
use Rattle.byte_lanes.proofs.FilterLemmas.{lanes_by_tables}
use Rattle.byte_lanes.proofs.tables.Tables.filter.Goals as goal

pub returns : goal.returns
unfolding value_at
returns c masks wide =
    lanes_by_tables masks c.args.third c.args.second c.args.last
    (c.entries.ensures _ _ wide.third_low wide.third_high)
    (c.entries-2.ensures _ _ wide.second_low wide.second_high)
    c.both-first_two.ensures
    (c.entries-3.ensures _ _ wide.last_low wide.last_high)
    c.both.ensures
