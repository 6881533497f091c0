use Rattle.std.proofs.Common.{ap, subst}
use Rattle.lit_base.specs.Literals.{Literals}
use Rattle.nib_mask.specs.Candidates.{CoversBy}
use Rattle.lane_filter.specs.Prefilters.{Passes}
use Rattle.lit_plan.specs.Plans.{Plan}
use Rattle.lit_plan.proofs.compiled.Compiled.prefilter.Goals as goal

-- the plan's literals are the list's
pub returns : goal.returns
returns c = subst (λ (l : Literals). CoversBy l (Passes c.self.inside.prefilter)) (ap (λ (p : Plan). p.literals) c.self.view_is) c.self.invariant.covers
