use Rattle.std.proofs.Common.{length, arith}
use Rattle.std.proofs.lemmas.List.{length-map}
use Rattle.lit_base.specs.Literals.{lengths}
use Rattle.lit_base.proofs.Runs.{run_cost-true, run_cost-lt, quadrangle}
use Rattle.lit_base.proofs.laws.run_cost_law.Goals as goal

pub returns-clause-shortest : goal.returns-clause-shortest
returns-clause-shortest c p q some within =
    let texts = c.args.list.now.texts in
    run_cost-true (lengths c.args.list.now) p q c.len-count.ensures.rising some (omega (arith, length-map texts length, within))

pub returns-clause-small : goal.returns-clause-small
returns-clause-small c p q some within = run_cost-lt (lengths c.args.list.now) p q (omega (arith, within))

pub returns-clause-quadrangle : goal.returns-clause-quadrangle
returns-clause-quadrangle c i j k l ij jk kl within =
    let texts = c.args.list.now.texts in
    quadrangle (lengths c.args.list.now) i j k l c.len-count.ensures.rising ij jk kl (omega (arith, length-map texts length, within))
