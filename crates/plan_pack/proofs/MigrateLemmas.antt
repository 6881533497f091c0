-- Migrated plans: why they take the place of others, from the plan file that is read to the one that is made.
use Rattle.std.proofs.Common.{◌≡◌, ◌≢◌, ℕ, ◌^◌, ◌<◌, ◌≤◌, Bool, true, false, cond, List, [], ◌∷◌, ◌++◌, length, Option, None, Some, IfSome, Result, Ok, Err, inl, inr, refl, ap, ◌∙◌, subst, arith}
use Rattle.std.specs.Borrow.{Bor}
use Rattle.std.specs.Global.{Vec}
use Rattle.byte_io.specs.Devices.{Clean, Coming, EndsHere, Faulty, IfKnown}
use Rattle.byte_io.specs.Sources.{AreShort, Content, Created, IsShort, Sources, after, after_all, ask_of, can_create, coming_of, taken_by}
use Rattle.byte_io.proofs.KnownLemmas.{IfKnown-then, IfKnown-weaker}
use Rattle.lit_base.specs.Cuts.{IsCut}
use Rattle.lit_base.specs.Literals.{Literals}
use Rattle.lit_base.specs.Profiles.{buckets}
use Rattle.lit_base.specs.declared.profile.Profile.{Profile}
use Rattle.lit_base.specs.declared.profile.Profile.TheVariants.{Eight, Sixteen}
use Rattle.lit_cert.specs.Certificates.{CertificateParts}
use Rattle.lit_cert.specs.Certified.{IsCertified}
use Rattle.lit_plan.specs.Plans.{Plan}
use Rattle.list_plan.specs.Planned.{IsPlanned}
use Rattle.plan_file.specs.declared.fault.Cause.{Cause}
use Rattle.plan_file.specs.declared.fault.Fault.{Fault}
use Rattle.plan_file.specs.declared.fault.Fault.TheVariants.{BadPlanFile, ReadFault}
use Rattle.plan_file.specs.FirstFaults.{IsFirstFault}
use Rattle.plan_file.specs.Spelling.{IsFile}
use Rattle.plan_pack.specs.Asking.{AsksAfterReads, LeavesMigrate, UnlessStarved, WithPlans, WithoutPlans}
use Rattle.plan_pack.specs.Migrated.{AreMigrated, IsMigrated, IsNoPlanFile, IsSourceOf, Unfinished, Unfit}
use Rattle.plan_pack.specs.Migrating.{Kept, LeavesMigrated, MakesMigrated, Migrates, Migration, Moved}
use Rattle.plan_pack.specs.Packing.{LeavesFile, MakesFile, answer_of}
use Rattle.plan_pack.specs.Stops.{is_starved, ran_out}
use Rattle.plan_pack.specs.Taken.{TakesPlans}
use Rattle.plan_pack.specs.declared.stop.Refusal.TheVariants.{NoPlanFile, Unusable}
use Rattle.plan_pack.specs.declared.stop.Stop.{Stop}
use Rattle.plan_pack.specs.declared.stop.Stop.TheVariants.{OutOfMemory, Refused}
use Rattle.plan_pack.proofs.AskLemmas.{none-asked}

-- no profile has more buckets
few-buckets : (profile : Profile) → buckets profile ≤ 16
few-buckets Eight = omega arith
few-buckets Sixteen = omega arith

-- a cut for plans of any profile is one for plans of sixteen buckets
pub wider : (profile : Profile) (n : ℕ) (ends : List ℕ) → IsCut (buckets profile) n ends → IsCut 16 n ends
wider profile n ends cut = record { some = cut.some; cuts = cut.cuts; few = omega (arith, cut.few, few-buckets profile) }

-- the first of the cheapest cuts into at most sixteen runs costs no more than any plan of the literals
cheaper : (l : Literals) (old new : CertificateParts) → IsCertified l old → IsPlanned l Sixteen new → new.cost ≤ old.cost
cheaper l old new certified planned =
    let price = certified.priced.total.price in
    let own = planned.cost in
    elim (planned.first.first old.ends (wider old.profile (length l.texts) old.ends certified.priced.cut)) [
      | inl less ↦ omega (arith, less, price, own)
      | inr same ↦ omega (arith, same.0, price, own)
    ]

-- so a plan of the same list that is made anew takes its place
pub migrated : (old new : Plan) → IsCertified old.literals old.certificate → new.literals ≡ old.literals → IsPlanned new.literals Sixteen new.certificate → IsMigrated old new
migrated old new certified same planned = record {
  list = same;
  planned = planned;
  cost = cheaper old.literals old.certificate new.certificate certified (subst (λ l. IsPlanned l Sixteen new.certificate) same planned);
}

-- ---- the plan file that is read

-- a test that is not true is false
pub false-if : (b : Bool) → b ≢ true → b ≡ false
false-if true not = absurd (not refl)
false-if false not = refl

pub true-if : (b : Bool) → b ≢ false → b ≡ true
true-if true not = refl
true-if false not = absurd (not refl)

-- its plans
pub plans-read : (plans : Vec Plan) (known left : Option Coming) (c : Content) → IfKnown known left (λ x y. IsFile x.text plans.items × EndsHere y) → IfSome known (λ x. x.ending ≢ Faulty)
    → known ≡ Some (coming_of c) → IsSourceOf (Some c) plans.items
plans-read plans None left c found clean e = (cc)
plans-read plans (Some x) None c found clean e = absurd found
plans-read plans (Some x) (Some y) c found clean e =
    let same : x ≡ coming_of c = (cc) in
    (false-if c.is_faulty (λ set. subst (λ z. z.ending ≢ Faulty) same clean (ap (λ b. cond b Faulty Clean) set)), subst (λ z. IsFile z.text plans.items) same found.0)

-- the fault of the plan file
pub plans-wrong : (name : List ℕ) (known : Option Coming) (r : Result (Vec Plan) Fault) (place : ℕ) (cause : Cause) (c : Content)
    → IfSome known (λ x. (p : ℕ) (q : Cause) → r ≡ Err (BadPlanFile p q) → IsFirstFault x.text p q)
    → IfSome known (λ x. x.ending ≡ Faulty → (p : ℕ) (q : Cause) → r ≡ Err (BadPlanFile p q) → (more : List ℕ) → IsFirstFault (x.text ++ more) p q)
    → r ≡ Err (BadPlanFile place cause) → known ≡ Some (coming_of c) → IsNoPlanFile name (Some c) (NoPlanFile place cause)
plans-wrong name known r place cause c wrong shown is e =
    let first : IsFirstFault c.text place cause =
    subst (λ k. IfSome k (λ x. (p : ℕ) (q : Cause) → r ≡ Err (BadPlanFile p q) → IsFirstFault x.text p q)) e wrong place cause is in
    let always : (coming_of c).ending ≡ Faulty → (more : List ℕ) → IsFirstFault (c.text ++ more) place cause =
    λ faulty. subst (λ k. IfSome k (λ x. x.ending ≡ Faulty → (p : ℕ) (q : Cause) → r ≡ Err (BadPlanFile p q) → (more : List ℕ) → IsFirstFault (x.text ++ more) p q)) e shown faulty place cause is in
    Unfit c place cause refl first (λ set. always (ap (λ b. cond b Faulty Clean) set)) refl

-- a fault in reading it: one follows its bytes
pub plans-unread : (name : Bor (List ℕ)) (known : Option Coming) (r : Result (Vec Plan) Fault) (c : Content)
    → IfSome known (λ x. x.ending ≡ Clean → length x.text < 2 ^ 40 → r ≢ Err ReadFault) → r ≡ Err ReadFault → known ≡ Some (coming_of c) → IsShort c
    → IsNoPlanFile name.now (Some c) (Unusable name)
plans-unread name known r c clean fault e short =
    let here : (coming_of c).ending ≡ Clean → length c.text < 2 ^ 40 → r ≢ Err ReadFault =
    subst (λ k. IfSome k (λ x. x.ending ≡ Clean → length x.text < 2 ^ 40 → r ≢ Err ReadFault)) e clean in
    Unfinished c refl (true-if c.is_faulty (λ unset. here (ap (λ b. cond b Faulty Clean) unset) short fault)) refl

-- ---- the plan file that is made

-- what a stop leaves of it
moved-left : {O : Type 0} (written : O → Option (List ℕ)) (old new : List Plan) (name : List ℕ) (s left : Sources) (stop : Stop) (begun : Option O) → AreMigrated old new
    → AsksAfterReads (is_starved stop) (Created name ∷ []) [] s left → LeavesFile written new (can_create name s.creatable) stop begun
    → LeavesMigrated written old name s left stop begun
moved-left written old new name s left stop (Some made) moved asks leaves = (leaves.0, new, moved, leaves.1)
moved-left written old new name s left OutOfMemory None moved asks leaves = inl (none-asked s left asks, refl)
moved-left written old new name s left (Refused refusal) None moved asks (inl starved) = absurd (cc)
moved-left written old new name s left (Refused refusal) None moved asks (inr cannot) = inr cannot

pub moved-stopped : {O : Type 0} (written : O → Option (List ℕ)) (old new : List Plan) (name : List ℕ) (known left : Option Sources) (stopped : Stop × Option O) → AreMigrated old new
    → IfKnown known left (λ s l. AsksAfterReads (is_starved stopped.0) (Created name ∷ []) [] s l × MakesFile written new name (can_create name s.creatable) (Err stopped))
    → IfKnown known left (λ s l. AsksAfterReads (is_starved stopped.0) (Created name ∷ []) [] s l × MakesMigrated written old name s l (Err stopped))
moved-stopped {O} written old new name known left stopped moved makes =
    IfKnown-weaker known left _ (λ s l. AsksAfterReads (is_starved stopped.0) (Created name ∷ []) [] s l × MakesMigrated written old name s l (Err stopped)) makes (λ s l h. (
      h.0,
      (h.1.0, moved-left written old new name s l stopped.0 stopped.1 moved h.0 h.1.1),
    ))

-- ---- from one to the other

-- once there are plans, there is an ask for the other file
asks-with : (starved : Bool) (input output : List ℕ) (s mid left : Sources) (plans : List Plan) → mid ≡ after (ask_of input) s → IsSourceOf (taken_by (ask_of input) s) plans
    → AsksAfterReads starved (Created output ∷ []) [] mid left → UnlessStarved starved (LeavesMigrate input output s left) (ask_of input ∷ []) s left
asks-with false input output s mid left plans read source asks = WithPlans plans source (asks ∙ ap (after (Created output)) read)
asks-with true input output s mid left plans read source asks = record {
  made = ask_of input ∷ asks.made;
  rest = asks.rest;
  parts = ap (λ xs. ask_of input ∷ xs) asks.parts;
  after = asks.after ∙ ap (after_all asks.made) read;
}

pub migrate-had : {O : Type 0} (written : O → Option (List ℕ)) (input output : List ℕ) (known mid left : Option Sources) (plans : Vec Plan) (r : Migration O)
    → IfKnown known mid (λ s m. AreShort s → (m ≡ after (ask_of input) s) × TakesPlans input (taken_by (ask_of input) s) (Ok plans))
    → IfKnown mid left (λ m l. AsksAfterReads (ran_out (answer_of r)) (Created output ∷ []) [] m l × MakesMigrated written plans.items output m l r)
    → IfKnown known left (λ s l. AreShort s → UnlessStarved (ran_out (answer_of r)) (LeavesMigrate input output s l) (ask_of input ∷ []) s l × Migrates written input output s l r)
migrate-had written input output known mid left plans r reads makes =
    IfKnown-then known mid left _ _ (λ s l. AreShort s → UnlessStarved (ran_out (answer_of r)) (LeavesMigrate input output s l) (ask_of input ∷ []) s l × Migrates written input output s l r) reads makes (λ s m l h g short.
    let taken = h short in (
      asks-with (ran_out (answer_of r)) input output s m l plans.items taken.0 taken.1 g.0,
      Moved plans.items taken.1 (subst (λ x. MakesMigrated written plans.items output x l r) taken.0 g.1),
    ))

-- where there are none, it is not
asks-without : (stop : Stop) (input output : List ℕ) (s left : Sources) → left ≡ after (ask_of input) s → TakesPlans input (taken_by (ask_of input) s) (Err stop)
    → UnlessStarved (is_starved stop) (LeavesMigrate input output s left) (ask_of input ∷ []) s left
asks-without (Refused refusal) input output s left read takes = WithoutPlans refusal takes read
asks-without OutOfMemory input output s left read takes = record { made = ask_of input ∷ []; rest = []; parts = refl; after = read }

pub migrate-stopped : {O : Type 0} (written : O → Option (List ℕ)) (input output : List ℕ) (known mid : Option Sources) (stop : Stop)
    → IfKnown known mid (λ s m. AreShort s → (m ≡ after (ask_of input) s) × TakesPlans input (taken_by (ask_of input) s) (Err stop))
    → IfKnown known mid (λ s l. AreShort s → UnlessStarved (is_starved stop) (LeavesMigrate input output s l) (ask_of input ∷ []) s l × Migrates {O = O} written input output s l (Err (stop, None)))
migrate-stopped {O} written input output known mid stop reads =
    IfKnown-weaker known mid _ (λ s l. AreShort s → UnlessStarved (is_starved stop) (LeavesMigrate input output s l) (ask_of input ∷ []) s l × Migrates {O = O} written input output s l (Err (stop, None))) reads (λ s l h short.
    let taken = h short in (
      asks-without stop input output s l taken.0 taken.1,
      Kept stop taken.1 taken.0 refl,
    ))
