use Rattle.std.proofs.Common.{◌+◌, arith}
use Rattle.byte_lanes.specs.PlacesAfter.{AreMarked}
use Rattle.byte_lanes.proofs.BlockLemmas.{quiet_on}
use Rattle.lane_filter.proofs.EndLemmas.{block_marked, marked_after_quiet, quiet_where_unmarked}
use Rattle.lane_filter.proofs.candidates.wide_bits.Goals as goal

pub returns-then-mask-ne0-clause-marked : goal.returns-then-mask-ne0-clause-marked
returns-then-mask-ne0-clause-marked g c =
    let P = g.T.EndTest.candidate c.args.test.now c.args.text.now in
    let seen = c.loop-seen.seen in
    marked_after_quiet P c.args.from seen (seen + 1) (seen + 64) _ (omega arith) c.loop-seen.invariant.2
    (block_marked P seen (seen + 1) (seen + 64) _ _ (omega arith) (omega arith) (omega arith) c.passing-mask.ensures (λ k. (λ s. (omega arith, s), λ h. h.1)))

pub loop-seen-preserved : goal.loop-seen-preserved
loop-seen-preserved g c =
    let P = g.T.EndTest.candidate c.args.test.now c.args.text.now in
    let seen = c.loop-seen.seen in
    let skipped = c.skip_unmarked-seen.ensures in
    let block : AreMarked P seen (seen + 1) (seen + 64) c.passing-mask.result =
    block_marked P seen (seen + 1) (seen + 64) _ _ (omega arith) (omega arith) (omega arith) c.passing-mask.ensures (λ k. (λ s. (omega arith, s), λ h. h.1)) in
    let quiet = quiet_where_unmarked P c.args.from (seen + 1) (seen + 64) _ c.if-mask-ne0.false
    (marked_after_quiet P c.args.from seen (seen + 1) (seen + 64) _ (omega arith) c.loop-seen.invariant.2 block) in
    (omega (arith, skipped.after), skipped.within, quiet_on P c.args.from (seen + 64) _ quiet skipped.quiet)
