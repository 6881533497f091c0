-- The bits stand for the lanes; there are none where no lane of both vectors joined is set.
use Rattle.std.proofs.lemmas.Bool.{both_ways}
use Rattle.byte_lanes.specs.Filtered.{value_from}
use Rattle.byte_lanes.proofs.FilterLemmas.{none_set, set_by_lanes}
use Rattle.byte_lanes.proofs.tables.Tables.passing.Goals as goal

pub returns-then-not-any_lane : goal.returns-then-not-any_lane
returns-then-not-any_lane c masks wide =
    none_set _ _ _ (value_from masks c.args.text.now) c.args.at (c.filter_at-low.ensures masks wide) (c.filter_at-high.ensures masks wide)
    c.either.ensures (λ j l set. both_ways _ c.if-not-any_lane.true (c.any_lane.ensures j l set))

pub returns : goal.returns
returns c masks wide =
    set_by_lanes _ _ (value_from masks c.args.text.now) c.args.at _ (c.filter_at-low.ensures masks wide) (c.filter_at-high.ensures masks wide) c.nonzero_bits.ensures
