-- Where 128 ends are ruled out, the stretch is longer by them.
use Rattle.std.proofs.Common.{◌+◌, arith}
use Rattle.std.proofs.lemmas.Bool.{both_ways}
use Rattle.byte_lanes.proofs.BlockLemmas.{quiet_in_row, quiet_on}
use Rattle.byte_lanes.proofs.skipping.skip_blocks.Goals as goal

pub loop-seen-preserved : goal.loop-seen-preserved
loop-seen-preserved g c =
    let P = g.T.EndTest.candidate c.args.test.now c.args.text.now in
    let seen = c.loop-seen.seen in (
      omega arith,
      omega arith,
      quiet_on P c.args.from seen (seen + 128) c.loop-seen.invariant.2
          (quiet_in_row P seen 128 (λ k l holds. both_ways _ c.if-not-may_end.true (c.may_end.ensures k l holds))),
    )
