use Rattle.std.proofs.Common.{arith}
use Rattle.lane_filter.proofs.EndLemmas.{one_marked}
use Rattle.lane_filter.proofs.candidates.single_bits.Goals as goal

pub returns-then-is_candidate-clause-marked : goal.returns-then-is_candidate-clause-marked
returns-then-is_candidate-clause-marked g c =
    let end = c.loop-end.end in
    one_marked (g.T.EndTest.candidate c.args.test.now c.args.text.now) c.args.from end (omega arith) c.loop-end.invariant (c.is_candidate.ensures.0 c.if-is_candidate.true)
