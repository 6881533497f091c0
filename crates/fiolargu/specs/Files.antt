-- What the bytes of a plan file hold.
use Rattle.std.specs.Prelude.{◌≡◌, ℕ, ◌<◌, List, length, Option}
use Rattle.std.specs.List.{slice_get}
use Rattle.lit_plan.specs.Plans.{Plan}
use Rattle.plan_file.specs.FirstFaults.{IsFirstFault}
use Rattle.plan_file.specs.Spelling.{IsFile}
use Rattle.plan_file.specs.declared.fault.Cause.{Cause}

-- they are a file of plans whose number is such
pub record PlansIn (file : List ℕ) (P : ℕ → Type 0) : Type 0 where
  pub plans : List Plan
  pub file_is : IsFile file plans
  pub count : P (length plans)

-- they are a file in which the plan stands at a place
pub record PlanIn (file : List ℕ) (which : ℕ) (plan : Option Plan) : Type 0 where
  pub plans : List Plan
  pub file_is : IsFile file plans
  pub within : which < length plans
  pub plan_is : plan ≡ slice_get plans which

-- the first fault of bytes that are no plan file is at this place
pub record FaultIn (file : List ℕ) (place : ℕ) : Type 0 where
  pub cause : Cause
  pub first : IsFirstFault file place cause
