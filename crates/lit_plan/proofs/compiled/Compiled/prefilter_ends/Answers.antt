-- The prefilter is one for the plan's literals.
use Rattle.lit_plan.proofs.compiled.Compiled.prefilter_ends.Goals as goal

pub after-requires-clause-covers : goal.after-requires-clause-covers
after-requires-clause-covers c = rw c.index.ensures c.prefilter.ensures
