-- One of the plans of a plan file, or that it has none of this number.
use Rattle.std.proofs.Common.{◌≡◌, ℕ, List, Option, Result, Ok, Err}
use Rattle.std.specs.Global.{Vec}
use Rattle.byte_io.specs.Devices.{IfKnown}
use Rattle.byte_io.specs.Sources.{AreShort, Content, Sources, after, ask_of, taken_by}
use Rattle.byte_io.proofs.KnownLemmas.{IfKnown-weaker}
use Rattle.lit_plan.specs.Plans.{Plan}
use Rattle.plan_pack.specs.Migrated.{IsSourceOf}
use Rattle.plan_pack.specs.PlanFiles.{NoFile, TooFew}
use Rattle.plan_pack.specs.Taken.{PicksPlan, TakesPlanAt, TakesPlans}
use Rattle.plan_pack.specs.declared.stop.Stop.{Stop}
use Rattle.plan_pack.specs.declared.stop.Stop.TheVariants.{OutOfMemory, Refused}

-- a plan that was picked from the plans of a file is the file's
picked-here : (file : List ℕ) (place : ℕ) (source : Option Content) (plans : List Plan) (r : Result Plan Stop) → IsSourceOf source plans → PicksPlan file place plans r → TakesPlanAt file place source r
picked-here file place source plans (Ok plan) are picks = record { plans = plans; are = are; here = picks }
picked-here file place source plans (Err (Refused refusal)) are picks = TooFew plans are picks
picked-here file place source plans (Err OutOfMemory) are picks = tt

pub plan-picked : (file : List ℕ) (place : ℕ) (known left : Option Sources) (plans : Vec Plan) (r : Result Plan Stop)
    → IfKnown known left (λ s l. AreShort s → (l ≡ after (ask_of file) s) × TakesPlans file (taken_by (ask_of file) s) (Ok plans)) → PicksPlan file place plans.items r
    → IfKnown known left (λ s l. AreShort s → (l ≡ after (ask_of file) s) × TakesPlanAt file place (taken_by (ask_of file) s) r)
plan-picked file place known left plans r reads picks =
    IfKnown-weaker known left _ (λ s l. AreShort s → (l ≡ after (ask_of file) s) × TakesPlanAt file place (taken_by (ask_of file) s) r) reads (λ s l h short.
    let taken = h short in (taken.0, picked-here file place (taken_by (ask_of file) s) plans.items r taken.1 picks))

-- where there are no plans, there is none of any number
none-here : (file : List ℕ) (place : ℕ) (source : Option Content) (stop : Stop) → TakesPlans file source (Err stop) → TakesPlanAt file place source (Err stop)
none-here file place source (Refused refusal) takes = NoFile takes
none-here file place source OutOfMemory takes = tt

pub none-picked : (file : List ℕ) (place : ℕ) (known left : Option Sources) (stop : Stop)
    → IfKnown known left (λ s l. AreShort s → (l ≡ after (ask_of file) s) × TakesPlans file (taken_by (ask_of file) s) (Err stop))
    → IfKnown known left (λ s l. AreShort s → (l ≡ after (ask_of file) s) × TakesPlanAt file place (taken_by (ask_of file) s) (Err stop))
none-picked file place known left stop reads =
    IfKnown-weaker known left _ (λ s l. AreShort s → (l ≡ after (ask_of file) s) × TakesPlanAt file place (taken_by (ask_of file) s) (Err stop)) reads (λ s l h short.
    let taken = h short in (taken.0, none-here file place (taken_by (ask_of file) s) stop taken.1))
