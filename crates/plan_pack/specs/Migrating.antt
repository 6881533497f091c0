-- What a file holds that was made for migrated plans.
use Rattle.std.specs.Prelude.{◌≡◌, ◌⊎◌, ℕ, true, false, List, Option, Some, None, Result, Ok, Err}
use Rattle.std.specs.Global.{Vec}
use Rattle.byte_io.specs.Sources.{Sources, after, ask_of, can_create, taken_by}
use Rattle.lit_plan.specs.Plans.{Plan}
use Rattle.plan_pack.specs.Messages.{unusable}
use Rattle.plan_pack.specs.Migrated.{AreMigrated, IsSourceOf, migrated_lines}
use Rattle.plan_pack.specs.PlanFiles.{HoldsPrefix, HoldsPlans}
use Rattle.plan_pack.specs.Stops.{Explains, is_refusal}
use Rattle.plan_pack.specs.Taken.{TakesPlans}
use Rattle.plan_pack.specs.declared.stop.Stop.{Stop}
use Rattle.plan_pack.specs.declared.stop.Stop.TheVariants.{OutOfMemory}

-- what a stop leaves of a file for the migrated plans: it was made, where it can be, and holds a prefix; or it was not
-- asked for, since memory ran out before, or cannot be made
abbrev pub LeavesMigrated : {O : Type 0} → (O → Option (List ℕ)) → List Plan → List ℕ → Sources → Sources → Stop → Option O → Type 0
LeavesMigrated written old name s left stop (Some made) =
    (can_create name s.creatable ≡ true) × (new : List Plan) × AreMigrated old new × HoldsPrefix new (written made)
LeavesMigrated written old name s left stop None = ((left ≡ s) × (stop ≡ OutOfMemory)) ⊎ ((can_create name s.creatable ≡ false) × (is_refusal stop ≡ true))

-- the answer where migrated plans were to be written: the lines that show them and the file; or a stop, with the file
-- as far as it was made
abbrev pub Migration : Type 0 → Type 0
Migration O = Result (Vec ℕ × O) (Stop × Option O)

-- a file of this name was made, where it can be, and holds the migrated plans, which the lines show; or the message,
-- and the file as far as it was made
abbrev pub MakesMigrated : {O : Type 0} → (O → Option (List ℕ)) → List Plan → List ℕ → Sources → Sources → Migration O → Type 0
MakesMigrated written old name s left (Ok done) =
    (can_create name s.creatable ≡ true) × (new : List Plan) × AreMigrated old new × HoldsPlans new (written done.1) × (done.0.items ≡ migrated_lines 0 old new)
MakesMigrated written old name s left (Err stopped) =
    Explains stopped.0 (Some (unusable name)) × LeavesMigrated written old name s left stopped.0 stopped.1

-- likewise from a plan file: nothing was made where that gives no plans
pub data Migrates {O : Type 0} (written : O → Option (List ℕ)) (input output : List ℕ) (s left : Sources) (r : Migration O) : Type 0 where
  Kept : (stop : Stop) → TakesPlans input (taken_by (ask_of input) s) (Err stop) → left ≡ after (ask_of input) s → r ≡ Err (stop, None)
      → Migrates written input output s left r
  Moved : (old : List Plan) → IsSourceOf (taken_by (ask_of input) s) old → MakesMigrated written old output (after (ask_of input) s) left r
      → Migrates written input output s left r
