use Rattle.std.proofs.Common.{◌-◌, length, arith}
use Rattle.lane_filter.proofs.EndLemmas.{block_marked}
use Rattle.lane_filter.proofs.candidates.last_bits.Goals as goal

pub returns-clause-marked : goal.returns-clause-marked
returns-clause-marked g c =
    let P = g.T.EndTest.candidate c.args.test.now c.args.text.now in
    let end = length c.args.text.now in
    block_marked P c.args.seen (end - 63) end c.passing-whole.result _ (omega arith) (omega arith) (omega arith) c.passing-whole.ensures
    (λ k. (λ s. let h = (c.from_bit.ensures k).0 s in (omega (arith, h.0), h.1), λ h. (c.from_bit.ensures k).1 (omega (arith, h.0), h.1)))
