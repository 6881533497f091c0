-- Each literal has a byte, three bytes, or a pair; and no occurrence goes past what they make.
use Rattle.std.proofs.Common.{sym, arith}
use Rattle.lane_filter.proofs.CoverLemmas.{prefilter_covers}
use Rattle.lane_filter.proofs.prefilter.Prefilter.of.Goals as goal

pub returns-in-Some-clause-prefilter : goal.returns-in-Some-clause-prefilter
returns-in-Some-clause-prefilter c =
    c.of_byte.ensures c.args.list.now c.args.ends.now.items (omega (arith, c.in-1.is, c.len.ensures.value), c.in-Some.ensures.byte)

pub returns-in-None-clause-prefilter : goal.returns-in-None-clause-prefilter
returns-in-None-clause-prefilter c =
    c.of_one.ensures c.args.list.now c.args.ends.now.items (omega (arith, c.in-1.is, c.len.ensures.value), c.triple_of.ensures.triple)

pub returns-in-2-clause-prefilter : goal.returns-in-2-clause-prefilter
returns-in-2-clause-prefilter c =
    c.of_two.ensures c.args.list.now c.args.ends.now.items
    (omega (arith, c.in-2.is, c.len.ensures.value), c.pair_of.ensures.pair, c.pair_of-in-2.ensures.pair)

pub returns-in-3-clause-prefilter : goal.returns-in-3-clause-prefilter
returns-in-3-clause-prefilter c =
    c.of_three.ensures c.args.list.now c.args.ends.now.items
    (omega (arith, c.in-3.is, c.len.ensures.value), c.pair_of-in-3.ensures.pair, c.pair_of-in-3-2.ensures.pair, c.pair_of-in-3-3.ensures.pair)

pub returns-in_default-clause-prefilter : goal.returns-in_default-clause-prefilter
returns-in_default-clause-prefilter c = c.of_masks.ensures c.args.list.now c.args.ends.now.items (sym c.len-in_default.ensures.value) c.of.ensures.set

pub returns-in-Some-clause-covers : goal.returns-in-Some-clause-covers
returns-in-Some-clause-covers c = prefilter_covers _ _ _ c.requires c.normal_law.ensures.nonempty (returns-in-Some-clause-prefilter c)

pub returns-in-None-clause-covers : goal.returns-in-None-clause-covers
returns-in-None-clause-covers c = prefilter_covers _ _ _ c.requires c.normal_law.ensures.nonempty (returns-in-None-clause-prefilter c)

pub returns-in-2-clause-covers : goal.returns-in-2-clause-covers
returns-in-2-clause-covers c = prefilter_covers _ _ _ c.requires c.normal_law.ensures.nonempty (returns-in-2-clause-prefilter c)

pub returns-in-3-clause-covers : goal.returns-in-3-clause-covers
returns-in-3-clause-covers c = prefilter_covers _ _ _ c.requires c.normal_law.ensures.nonempty (returns-in-3-clause-prefilter c)

pub returns-in_default-clause-covers : goal.returns-in_default-clause-covers
returns-in_default-clause-covers c = prefilter_covers _ _ _ c.requires c.normal_law.ensures.nonempty (returns-in_default-clause-prefilter c)
