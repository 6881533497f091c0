-- The formula, at the weight that was read.
use Rattle.std.proofs.Common.{◌+◌, ◌*◌, ap, sym, ◌∙◌, arith}
use Rattle.lit_base.proofs.Weights.{cost-is, cost-falls}
use Rattle.lit_base.proofs.costs.cost.Goals as goal

pub returns-clause-value : goal.returns-clause-value
returns-clause-value c =
    ap (λ w. 200 + w * (c.args.count * c.args.count)) c.weight.ensures.value ∙ sym (cost-is c.args.count c.args.shortest)

pub returns-clause-never_rises : goal.returns-clause-never_rises
returns-clause-never_rises c longer h =
    let value = ap (λ w. 200 + w * (c.args.count * c.args.count)) c.weight.ensures.value ∙ sym (cost-is c.args.count c.args.shortest) in
    omega (arith, value, cost-falls c.args.count c.args.shortest longer h)
