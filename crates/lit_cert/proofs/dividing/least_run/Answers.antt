-- Each turn keeps the cheapest run so far.
use Rattle.std.proofs.Common.{◌≡◌, ◌+◌, get_or, refl, ap, ◌∙◌, arith}
use Rattle.lit_base.specs.Literals.{lengths}
use Rattle.lit_base.proofs.Runs.{cost-run}
use Rattle.lit_cert.specs.Steps.{price_of}
use Rattle.lit_cert.proofs.LeastRuns.{least_first, least_takes, least_keeps}
use Rattle.lit_cert.proofs.dividing.least_run.Goals as goal
use Rattle.lit_cert.proofs.dividing.least_run.Goals.{then-price-least, else-price-least}

pub loop-q-init : goal.loop-q-init
loop-q-init c =
    let l = c.args.list.now in
    let before = c.args.before.now in
    let run = c.cost.ensures.value ∙ cost-run (lengths l) c.args.p c.args.first _ _ refl c.get-shortest.ensures.len in
    least_first l before c.args.p c.args.first _ (ap (λ x. x + get_or before c.args.first 0) run)

pub loop-q-preserved : goal.loop-q-preserved
loop-q-preserved c =
    let l = c.args.list.now in
    let before = c.args.before.now in
    let so = c.loop-q in
    let run = c.cost-in-loop-q.ensures.value ∙ cost-run (lengths l) c.args.p so.q _ _ refl c.get-shortest.ensures.len in
    let is : c.cost-in-loop-q.result + get_or before so.q 0 ≡ price_of l before c.args.p so.q = ap (λ x. x + get_or before so.q 0) run in
    elim c.if-price-least.branch [
      | then-price-least w ↦
          rw (w.best-is, w.least-is) (least_takes l before c.args.p c.args.first so.q so.best so.least _ so.invariant (omega arith) is w.if-price-least.true)
      | else-price-least w ↦
          rw (w.best-is, w.least-is) (least_keeps l before c.args.p c.args.first so.q so.best so.least _ so.invariant is w.if-price-least.false)
    ]
