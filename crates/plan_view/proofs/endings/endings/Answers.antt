-- The product of three counts is the count of the endings.
use Rattle.std.proofs.Common.{◌*◌, ◌≤◌, ◌∙◌, arith}
use Rattle.plan_view.proofs.EndingLemmas.{product, three_small, two_small}
use Rattle.plan_view.proofs.endings.endings.Goals as goal

pub overflow_mul-result : goal.overflow_mul-result
overflow_mul-result c = omega (arith, two_small c.kept.result c.kept-2.result c.kept.ensures.bound c.kept-2.ensures.bound)

pub overflow_mul-result-2 : goal.overflow_mul-result-2
overflow_mul-result-2 c =
    let two : c.kept.result * c.kept-2.result ≤ 65536 = two_small c.kept.result c.kept-2.result c.kept.ensures.bound c.kept-2.ensures.bound in
    omega (arith, three_small (c.kept.result * c.kept-2.result) c.kept-3.result two c.kept-3.ensures.bound)

pub returns : goal.returns
returns c = λ l ends gives.
    (λ i. (c.kept.ensures.value i * c.kept-2.ensures.value i) * c.kept-3.ensures.value i) ∙ product c.args.masks.now c.args.bucket l ends gives
