-- The plan that a Publish stores.
use Rattle.std.specs.Prelude.{ℕ, List}
use Rattle.lit_base.specs.declared.fold.Fold.{Fold}
use Rattle.lit_base.specs.declared.profile.Profile.{Profile}
use Rattle.lit_plan.specs.Plans.{Plan}
use Rattle.scan_core.specs.Steps.{IsPlanOf, IsSound}

-- the plan of literals, which holds
pub record IsSoundPlanOf (fold : Fold) (profile : Profile) (literals : List (List ℕ)) (plan : Plan) : Type 0 where
  pub planned : IsPlanOf fold profile literals plan
  pub sound : IsSound plan
