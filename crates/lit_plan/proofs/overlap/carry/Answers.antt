-- The list is in normal form.
use Rattle.lit_plan.proofs.BoundLemmas.{bounds_of_normal}
use Rattle.lit_plan.proofs.overlap.carry.Goals as goal

pub returns-clause-bounds : goal.returns-clause-bounds
returns-clause-bounds c = bounds_of_normal c.args.list.now c.normal_law.ensures
