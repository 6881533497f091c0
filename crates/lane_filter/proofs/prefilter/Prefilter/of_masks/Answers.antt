-- At most eight buckets fit in the first half.
use Rattle.std.proofs.Common.{arith}
use Rattle.lane_filter.proofs.CoverLemmas.{few_sets}
use Rattle.lane_filter.proofs.prefilter.Prefilter.of_masks.Goals as goal

pub returns-then-buckets-le8 : goal.returns-then-buckets-le8
returns-then-buckets-le8 c l ends is sets =
    few_sets l ends c.args.masks.now c.first_eight.result (omega (arith, is, c.if-buckets-le8.true)) sets c.first_eight.ensures
