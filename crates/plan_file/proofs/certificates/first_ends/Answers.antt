use Rattle.std.proofs.Common.{◌∷◌, [], ◌∙◌, arith, length, ap, sym}
use Rattle.std.specs.Int.{w16}
use Rattle.std.proofs.lemmas.List.{length-append}
use Rattle.std.proofs.lemmas.Result.{err_from_is_err_and}
use Rattle.plan_file.specs.Reading.{number_at, numbers_at}
use Rattle.plan_file.proofs.LoopLemmas.{numbers_all, numbers_more, numbers_stop, stops}
use Rattle.plan_file.proofs.certificates.first_ends.Goals as goal

pub returns-in_err-end : goal.returns-in_err-end
returns-in_err-end c =
    let p = err_from_is_err_and c.from_residual.result c.from_residual.ensures.1 in
    rw (p.1, p.2) (stops (number_at w16 c.loop.rest.now) (numbers_at w16 c.args.count c.args.bytes.now) c.in_err-end.field-0.0
    (λ wrong is. sym c.loop.invariant.left ∙ numbers_stop w16 c.loop.ends.items c.args.count c.loop.counter c.loop.rest.now wrong c.loop-test.true is) c.in_err-end.ensures.number)

pub loop-preserved : goal.loop-preserved
loop-preserved c =
    let n = c.in_ok-end.end in record {
      number = omega (arith, ap length c.push.ensures.items, length-append c.loop.ends.items (n ∷ []), c.loop.invariant.number);
      left = rw c.push.ensures.items (sym (numbers_more w16 c.loop.ends.items c.args.count c.loop.counter c.loop.rest.now n c.in_ok-end.after.now c.loop-test.true c.in_ok-end.ensures.number) ∙ c.loop.invariant.left);
    }

pub returns : goal.returns
returns c = sym c.loop.invariant.left ∙ numbers_all w16 c.loop.ends.items c.args.count c.loop.counter c.loop.rest.now c.loop-test.false
