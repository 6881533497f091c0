use Rattle.std.proofs.Common.{length}
use Rattle.std.proofs.lemmas.List.{length-map}
use Rattle.lit_base.specs.Literals.{lengths}
use Rattle.lit_base.specs.Costs.{run_cost}
use Rattle.lit_base.proofs.Least.{least_assignment, least_cut}
use Rattle.lit_base.proofs.laws.potentials_law.Goals as goal

pub returns-clause-assignments : goal.returns-clause-assignments
returns-clause-assignments c =
    let texts = c.args.list.now.texts in
    least_assignment (lengths c.args.list.now) c.args.potentials.now c.args.most (length texts) c.len-count.ensures.rising (length-map texts length) c.requires

pub returns-clause-cuts : goal.returns-clause-cuts
returns-clause-cuts c =
    least_cut (run_cost (lengths c.args.list.now)) c.args.potentials.now c.args.most (length c.args.list.now.texts) c.requires
