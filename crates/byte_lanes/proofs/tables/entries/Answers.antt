use Rattle.std.proofs.Common.{get_or, ap}
use Rattle.byte_lanes.proofs.LaneLemmas.{lanes_named}
use Rattle.byte_lanes.proofs.FilterLemmas.{lanes_by_entries}
use Rattle.byte_lanes.proofs.tables.entries.Goals as goal

pub returns : goal.returns
returns c of_low of_high low high =
    let by_low = c.look_up.ensures of_low low in
    let by_high = c.look_up-2.ensures of_high high in
    lanes_by_entries c.args.bytes of_low of_high
    (lanes_named _ by_low (λ k l. ap (λ j. get_or of_low j 0) (c.low_halves.ensures.each k l)))
    (lanes_named _ by_high (λ k l. ap (λ j. get_or of_high j 0) (c.high_halves.ensures.each k l)))
    c.both.ensures
