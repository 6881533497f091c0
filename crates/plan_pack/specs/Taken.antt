-- What a file gave when it was read: its list, its plan, its plans, its certificate or its text; or why there is none.
use Rattle.std.specs.Prelude.{◌≡◌, ◌≢◌, ◌↔◌, ℕ, List, [], Contains, IfSome, IsTrue, MatchResult, ⊤, Option, None, Some, Result, Ok, Err}
use Rattle.std.specs.Global.{Vec}
use Rattle.std.specs.List.{slice_get}
use Rattle.byte_io.specs.Sources.{Ask, Content, Sources, taken_by}
use Rattle.lit_cert.specs.Certificates.{CertificateParts}
use Rattle.lit_plan.specs.Plans.{Plan}
use Rattle.lit_base.specs.Literals.{Literals}
use Rattle.plan_pack.specs.Lists.{ArePlaces, IsPlanOf, NamesRefused, empty_message, input_message, list_in, list_message, patterns_in, plan_message, text_in}
use Rattle.lit_base.specs.declared.lit_list.Normal.{Normal}
use Rattle.lit_base.specs.declared.profile.Profile.{Profile}
use Rattle.plan_pack.specs.Migrated.{IsNoPlanFile, IsSourceOf}
use Rattle.plan_pack.specs.Certificates.{IsCertificateIn, IsNoCertificate}
use Rattle.plan_pack.specs.PlanFiles.{IsNoPlanAt, IsPlanAt, IsTooFew}
use Rattle.plan_pack.specs.Stops.{Explains}
use Rattle.plan_pack.specs.declared.notation.Reading.{Reading}
use Rattle.plan_pack.specs.declared.stop.Refusal.{Refusal}
use Rattle.plan_pack.specs.declared.stop.Stop.{Stop}
use Rattle.plan_pack.specs.declared.stop.Stop.TheVariants.{OutOfMemory, Refused}

-- if the files are known, what is asked for can be opened
abbrev pub CanBeOpened : Option Sources → Ask → Type 0
CanBeOpened known ask = IfSome known (λ s. taken_by ask s ≢ None)

-- something was read only of what can be opened, and memory ran out only after the open
abbrev pub OpensBeforeMemory : {T : Type 0} → Option Sources → Ask → Result T Stop → Type 0
OpensBeforeMemory known ask r = MatchResult r (λ x. CanBeOpened known ask) (λ stop. stop ≡ OutOfMemory → CanBeOpened known ask)

-- what was taken is right; or the refusal is right; or memory ran out
abbrev pub Takes : {T : Type 0} → (T → Type 0) → (Refusal → Type 0) → Result T Stop → Type 0
Takes is_right is_why (Ok x) = is_right x
Takes is_right is_why (Err (Refused refusal)) = is_why refusal
Takes is_right is_why (Err OutOfMemory) = ⊤

-- a file of patterns was read: its list, or why it has none
abbrev pub TakesList : Reading → List ℕ → Option Content → Result Literals Stop → Type 0
TakesList reading name source (Ok list) = (list_message reading name source ≡ None) × (list ≡ list_in reading source)
TakesList reading name source (Err stop) = Explains stop (list_message reading name source)

-- likewise, with where each pattern stands in the list, and whether one is null
abbrev pub TakesPlaces : Reading → List ℕ → Option Content → Result (Literals × Normal) Stop → Type 0
TakesPlaces reading name source (Ok found) =
    (list_message reading name source ≡ None) × (found.0 ≡ list_in reading source) × ArePlaces found.0 (patterns_in reading source) found.1.place_of.items
    × (IsTrue found.1.has_empty ↔ Contains (patterns_in reading source) [])
TakesPlaces reading name source (Err stop) = Explains stop (list_message reading name source)

-- where patterns were refused, the refusal is the first one
abbrev pub NamesStop : Reading → Option Content → Stop → Type 0
NamesStop reading source (Refused refusal) = NamesRefused reading source refusal
NamesStop reading source OutOfMemory = ⊤

-- the patterns were planned: their plan, or why there is none
abbrev pub TakesPlan : Reading → Profile → List ℕ → Option Content → Result Plan Stop → Type 0
TakesPlan reading profile name source (Ok plan) = (plan_message reading name source ≡ None) × IsPlanOf profile (list_in reading source) plan
TakesPlan reading profile name source (Err stop) = Explains stop (plan_message reading name source)

-- a list was planned
abbrev pub PlansList : Profile → Literals → Result Plan Stop → Type 0
PlansList profile list (Ok plan) = (empty_message list ≡ None) × IsPlanOf profile list plan
PlansList profile list (Err stop) = Explains stop (empty_message list)

-- a plan file was read: its plans, or why there are none
abbrev pub TakesPlans : List ℕ → Option Content → Result (Vec Plan) Stop → Type 0
TakesPlans name source r = Takes (λ plans. IsSourceOf source plans.items) (IsNoPlanFile name source) r

-- a plan file was read: its plan of this number, or why there is none
abbrev pub TakesPlanAt : List ℕ → ℕ → Option Content → Result Plan Stop → Type 0
TakesPlanAt name place source r = Takes (IsPlanAt place source) (IsNoPlanAt name place source) r

-- one of some plans was picked, by its number
abbrev pub PicksPlan : List ℕ → ℕ → List Plan → Result Plan Stop → Type 0
PicksPlan name place plans r = Takes (λ plan. slice_get plans place ≡ Some plan) (IsTooFew name place plans) r

-- a certificate was read, or why there is none
abbrev pub TakesCertificate : List ℕ → Option Content → Result CertificateParts Stop → Type 0
TakesCertificate name source r = Takes (IsCertificateIn source) (IsNoCertificate name source) r

-- an input was read whole, or why it was not
abbrev pub TakesText : List ℕ → Option Content → Result (Vec ℕ) Stop → Type 0
TakesText name source (Ok text) = (input_message name source ≡ None) × (text.items ≡ text_in source)
TakesText name source (Err stop) = Explains stop (input_message name source)
