use Rattle.std.proofs.Common.{◌∙◌, sym}
use Rattle.std.specs.Int.{w64}
use Rattle.std.proofs.lemmas.Result.{err_from_is_err_and}
use Rattle.plan_file.specs.Reading.{number_at, numbers_at}
use Rattle.plan_file.proofs.LoopLemmas.{numbers_all, numbers_more, numbers_stop, stops}
use Rattle.plan_file.proofs.certificates.first_potentials.Goals as goal

pub returns-in_err-potential : goal.returns-in_err-potential
returns-in_err-potential c =
    let p = err_from_is_err_and c.from_residual.result c.from_residual.ensures.1 in
    rw (p.1, p.2) (stops (number_at w64 c.loop.rest.now) (numbers_at w64 c.args.count c.args.bytes.now) c.in_err-potential.field-0.0
    (λ wrong is. sym c.loop.invariant ∙ numbers_stop w64 c.loop.potentials.items c.args.count c.loop.counter c.loop.rest.now wrong c.loop-test.true is) c.in_err-potential.ensures)

pub loop-preserved : goal.loop-preserved
loop-preserved c =
    rw c.in_ok-push.ensures.items (sym (numbers_more w64 c.loop.potentials.items c.args.count c.loop.counter c.loop.rest.now c.in_ok-potential.potential c.in_ok-potential.after.now c.loop-test.true c.in_ok-potential.ensures) ∙ c.loop.invariant)

pub returns : goal.returns
returns c = sym c.loop.invariant ∙ numbers_all w64 c.loop.potentials.items c.args.count c.loop.counter c.loop.rest.now c.loop-test.false
