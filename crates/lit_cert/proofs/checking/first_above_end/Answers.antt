-- Each turn compares one end row.
use Rattle.std.proofs.Common.{below_more, arith}
use Rattle.lit_cert.proofs.Potentials.{row_within, end_read}
use Rattle.lit_cert.proofs.checking.first_above_end.Goals as goal

pub returns-then-here-cost : goal.returns-then-here-cost
returns-then-here-cost c =
    let inner = row_within c.args.potentials.now c.len-n.result c.args.r c.loop-p.p c.requires.from_one c.loop-p-test.true in
    let read = end_read c.args.list.now c.args.potentials.now c.args.r c.loop-p.p c.len-n.result _ c.cost.result c.len-n.ensures.value c.requires.from_one inner c.get.ensures.len c.cost.ensures.value in
    record { inner = omega (arith, inner, c.len-n.ensures.value); above = omega (arith, c.if-here-cost.true, read.0, read.1); places = c.loop-p.invariant }

pub loop-p-preserved : goal.loop-p-preserved
loop-p-preserved c =
    let inner = row_within c.args.potentials.now c.len-n.result c.args.r c.loop-p.p c.requires.from_one c.loop-p-test.true in
    let read = end_read c.args.list.now c.args.potentials.now c.args.r c.loop-p.p c.len-n.result _ c.cost.result c.len-n.ensures.value c.requires.from_one inner c.get.ensures.len c.cost.ensures.value in
    below_more _ _ c.loop-p.invariant (omega (arith, c.if-here-cost.false, read.0, read.1))
