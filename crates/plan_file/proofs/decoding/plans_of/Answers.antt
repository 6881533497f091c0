use Rattle.std.proofs.Common.{◌≢◌, [], rules}
use Rattle.std.proofs.lemmas.Result.{err_from_is_err_and}
use Rattle.plan_file.proofs.StreamLemmas.{so_far_more, wrong_next, wrong_trailing}
use Rattle.plan_file.proofs.decoding.plans_of.Goals as goal

pub returns-in_err-plan-clause-wrong : goal.returns-in_err-plan-clause-wrong
returns-in_err-plan-clause-wrong c =
    let p = err_from_is_err_and c.from_residual.result c.from_residual.ensures.1 in
    rw (p.1, p.2) (wrong_next c.args.version c.args.count c.loop.counter c.args.bytes.now c.loop.plans.items c.loop.rest.now c.in_err-plan.field-0.0 c.loop-test.true c.loop.invariant c.in_err-plan.ensures.wrong)

pub loop-preserved : goal.loop-preserved
loop-preserved c =
    so_far_more c.args.version c.loop.counter c.args.bytes.now c.loop.plans.items c.push.new.self.items c.in_ok-plan.plan c.loop.rest.now c.in_ok-plan.after.now c.loop.invariant c.in_ok-plan.ensures.found.0 c.in_ok-plan.ensures.found.1 c.in_ok-push.ensures.items

pub returns-then-not-is_empty-clause-wrong : goal.returns-then-not-is_empty-clause-wrong
returns-then-not-is_empty-clause-wrong c =
    let some : c.loop.rest.now ≢ [] = search rules in
    rw c.stop_at.ensures (wrong_trailing c.args.version c.args.count c.loop.counter c.args.bytes.now c.loop.plans.items c.loop.rest.now c.loop-test.false c.loop.auto.counter-end c.loop.invariant some)
