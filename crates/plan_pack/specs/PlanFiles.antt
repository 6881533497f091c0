-- What a file holds that was made for plans, and which plan of a plan file has a number.
use Rattle.std.specs.Prelude.{◌≡◌, ℕ, ◌≤◌, List, [], length, Option, Some}
use Rattle.std.specs.Borrow.{Bor}
use Rattle.std.specs.List.{slice_get}
use Rattle.byte_io.specs.Sources.{Content}
use Rattle.byte_io.specs.Transfers.{AppendsPart}
use Rattle.lit_plan.specs.Plans.{Plan}
use Rattle.plan_file.specs.Spelling.{ArePlans, spelling}
use Rattle.plan_file.specs.declared.version.Version.TheVariants.{Two}
use Rattle.plan_pack.specs.Migrated.{IsNoPlanFile, IsSourceOf}
use Rattle.plan_pack.specs.declared.stop.Refusal.{Refusal}
use Rattle.plan_pack.specs.declared.stop.Refusal.TheVariants.{NoPlan}

-- these bytes are the plan file of the plans, which readers of plan files take
pub record HoldsPlans (plans : List Plan) (written : Option (List ℕ)) : Type 0 where
  pub sound : ArePlans Two plans
  pub text : written ≡ Some (spelling Two plans)

-- these bytes are a prefix of the plan file of the plans, and not all of it
abbrev pub HoldsPrefix : List Plan → Option (List ℕ) → Type 0
HoldsPrefix plans written = AppendsPart (Some []) written (spelling Two plans)

-- the content is a plan file, and this is its plan of this number, from 0
pub record IsPlanAt (place : ℕ) (source : Option Content) (plan : Plan) : Type 0 where
  pub plans : List Plan
  pub are : IsSourceOf source plans
  pub here : slice_get plans place ≡ Some plan

-- the refusal says that the file of this name has no plan of this number, and there are too few plans
pub record IsTooFew (name : List ℕ) (place : ℕ) (plans : List Plan) (refusal : Refusal) : Type 0 where
  pub few : length plans ≤ place
  pub file : Bor (List ℕ)
  pub named : file.now ≡ name
  pub is : refusal ≡ NoPlan file place

-- the refusal of a content that has no plan of this number: it is no plan file, or has too few plans
pub data IsNoPlanAt (name : List ℕ) (place : ℕ) (source : Option Content) (refusal : Refusal) : Type 0 where
  NoFile : IsNoPlanFile name source refusal → IsNoPlanAt name place source refusal
  TooFew : (plans : List Plan) → IsSourceOf source plans → IsTooFew name place plans refusal → IsNoPlanAt name place source refusal
