use Rattle.nib_mask.specs.Tables.{value_at}
use Rattle.byte_lanes.proofs.FilterLemmas.{lanes_by_tables}
use Rattle.byte_lanes.proofs.entries.MaskEntries.filter.Goals as goal

pub returns : goal.returns
unfolding value_at
returns c masks entries =
    lanes_by_tables masks c.args.third c.args.second c.args.last
    (c.at_position.ensures _ _ entries.third_low entries.third_high)
    (c.at_position-2.ensures _ _ entries.second_low entries.second_high)
    c.both_wide-first_two.ensures
    (c.at_position-3.ensures _ _ entries.last_low entries.last_high)
    c.both_wide.ensures
