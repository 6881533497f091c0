-- The cost of as many literals as the run has, by its first.
use Rattle.std.proofs.Common.{◌≡◌, ◌∙◌, length, get_or, subst, arith}
use Rattle.lit_base.specs.Literals.{lengths}
use Rattle.lit_base.proofs.Runs.{cost-run}
use Rattle.run_planner.proofs.meter.ListMeterMeter.price.Goals as goal

pub returns-clause-value : goal.returns-clause-value
returns-clause-value c =
    let ls = lengths c.args.self.now.list.now in
    let first = subst (λ p. length c.get.result.now ≡ get_or ls p 0) c.from-start.ensures c.get.ensures.len in
    c.cost.ensures.value ∙ cost-run ls c.args.p c.args.q _ _ (omega arith) first
