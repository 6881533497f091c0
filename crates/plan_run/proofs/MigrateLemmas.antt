-- Migrated plans: from the file of them to what a request has to answer.
use Rattle.std.proofs.Common.{◌≡◌, ◌≢◌, ℕ, Bool, true, false, List, [], ◌∷◌, Option, None, Some, IfSome, Result, Ok, Err, inl, inr, refl, sym, ap, ◌∙◌, subst}
use Rattle.std.specs.Global.{Global, Vec}
use Rattle.std.specs.Prelude.{String, string_bytes}
use Rattle.std.proofs.KnownBytes.{Appends-nil}
use Rattle.byte_io.specs.Devices.{IfKnown}
use Rattle.byte_io.specs.Sources.{AreShort, Sources, after, ask_of, can_create, taken_by}
use Rattle.byte_io.proofs.KnownLemmas.{IfKnown-weaker}
use Rattle.lit_plan.specs.Plans.{Plan}
use Rattle.plan_pack.specs.Asking.{LeavesMigrate, UnlessStarved}
use Rattle.plan_pack.specs.Messages.{message_on, unusable}
use Rattle.plan_pack.specs.Migrated.{IsSourceOf}
use Rattle.plan_pack.specs.Migrating.{Kept, LeavesMigrated, Migrates, Moved}
use Rattle.plan_pack.specs.Stops.{Explains, is_refusal, is_starved as halts}
use Rattle.plan_pack.specs.Taken.{TakesPlans}
use Rattle.plan_pack.specs.declared.stop.Stop.{Stop as Halt}
use Rattle.plan_pack.specs.declared.stop.Stop.TheVariants.{OutOfMemory as Starving, Refused as Halted}
use Rattle.plan_run.specs.declared.stop.Stop.{Stop}
use Rattle.plan_run.specs.declared.stop.Stop.TheVariants.{OutOfMemory, Refused, WriteFault}
use Rattle.plan_pack.proofs.PackLemmas.{same-creatable}
use Rattle.plan_run.specs.Answers.{AnswersMigrate, CutShort, Migrated, NoPlans, NotMade, refused_with, printed}
use Rattle.plan_run.specs.Running.{Answers, Reports, Writes, runs_out}
use Rattle.plan_run.specs.Stops.{is_starved, widened}
use Rattle.plan_run.specs.declared.request.Request.TheVariants.{Migrate}
use Rattle.plan_run.specs.declared.status.Status.{Status}
use Rattle.plan_run.specs.declared.status.Status.TheVariants.{Done}
use Rattle.plan_run.proofs.AnswerLemmas.{reports-silent, reports-text, unless-widened}

-- what was asked for, where the answer is written and no memory is wanted
leaves-unless : (r : Result Status Stop) (input output : List ℕ) (s left : Sources) → r ≢ Err OutOfMemory → LeavesMigrate input output s left
    → UnlessStarved (runs_out r) (LeavesMigrate input output s left) (ask_of input ∷ []) s left
leaves-unless (Ok status) input output s left fed leaves = leaves
leaves-unless (Err (Refused refusal)) input output s left fed leaves = leaves
leaves-unless (Err WriteFault) input output s left fed leaves = leaves
leaves-unless (Err OutOfMemory) input output s left fed leaves = absurd (fed refl)

-- a file can be made under a name as before
as-before : (input output : List ℕ) (s : Sources) (can : Bool) → can_create output (after (ask_of input) s).creatable ≡ can → can_create output s.creatable ≡ can
as-before input output s can is = sym (ap (can_create output) (same-creatable (ask_of input) s)) ∙ is

-- the lines of the migrated plans
reports-moved : {O : Type 0} (written : O → Option (List ℕ)) (has_failed : O → Bool) (input output : List ℕ) (s left : Sources) (lines : Vec ℕ) (made : O) (r : Result Status Stop) (old new : Option (List ℕ))
    → has_failed made ≡ false → Migrates written input output s left (Ok (lines, made)) → Writes lines.items Done r old new → Reports (AnswersMigrate written has_failed input output s) r old new
reports-moved written has_failed input output s left lines made r old new whole (Kept stop takes read is) writes = absurd (cc)
reports-moved written has_failed input output s left lines made r old new whole (Moved plans source makes) writes =
    reports-text (AnswersMigrate written has_failed input output s) lines.items Done r old new
    (Migrated plans makes.1 made source makes.2 (as-before input output s true makes.0) makes.3 whole (ap (λ t. printed t Done) makes.4)) writes

pub migrate-printed : {O : Type 0} (written : O → Option (List ℕ)) (has_failed : O → Bool) (input output : List ℕ) (known left : Option Sources) (lines : Vec ℕ) (made : O) (r : Result Status Stop) (old new : Option (List ℕ))
    → has_failed made ≡ false
    → IfKnown known left (λ s l. AreShort s → UnlessStarved false (LeavesMigrate input output s l) (ask_of input ∷ []) s l × Migrates written input output s l (Ok (lines, made)))
    → Writes lines.items Done r old new → r ≢ Err OutOfMemory
    → IfKnown known left (λ s l. AreShort s → UnlessStarved (runs_out r) (LeavesMigrate input output s l) (ask_of input ∷ []) s l × Reports (AnswersMigrate written has_failed input output s) r old new)
migrate-printed written has_failed input output known left lines made r old new whole migrates writes fed =
    IfKnown-weaker known left _ (λ s l. AreShort s → UnlessStarved (runs_out r) (LeavesMigrate input output s l) (ask_of input ∷ []) s l × Reports (AnswersMigrate written has_failed input output s) r old new) migrates (λ s l h short.
    let done = h short in
    (leaves-unless r input output s l fed done.0, reports-moved written has_failed input output s l lines made r old new whole done.1 writes))

-- why there are no plans
reports-kept : {O : Type 0} (written : O → Option (List ℕ)) (has_failed : O → Bool) (stop : Halt) (input output : List ℕ) (s : Sources) (known : Option (List ℕ)) → TakesPlans input (taken_by (ask_of input) s) (Err stop)
    → Reports (AnswersMigrate written has_failed input output s) (Err (widened stop)) known known
reports-kept written has_failed (Halted refusal) input output s known takes = (NoPlans refusal takes refl, Appends-nil known)
reports-kept written has_failed Starving input output s known takes = reports-silent (AnswersMigrate written has_failed input output s) known

-- why the other file is not whole
reports-unmade : {O : Type 0} (written : O → Option (List ℕ)) (has_failed : O → Bool) (stop : Halt) (begun : Option O) (input output : List ℕ) (s left : Sources) (known : Option (List ℕ)) (plans : List Plan)
    → IsSourceOf (taken_by (ask_of input) s) plans → Explains stop (Some (unusable output)) → LeavesMigrated written plans output (after (ask_of input) s) left stop begun
    → IfSome begun (λ made. has_failed made ≡ is_refusal stop) → Reports (AnswersMigrate written has_failed input output s) (Err (widened stop)) known known
reports-unmade written has_failed (Halted refusal) (Some made) input output s left known plans source e leaves broken =
    let same : message_on refusal ≡ unusable output = (cc) in
    (CutShort plans leaves.1 made source leaves.2 (as-before input output s true leaves.0) leaves.3 broken (ap refused_with same), Appends-nil known)
reports-unmade written has_failed (Halted refusal) None input output s left known plans source e (inl kept) broken = absurd (cc)
reports-unmade written has_failed (Halted refusal) None input output s left known plans source e (inr cannot) broken =
    let same : message_on refusal ≡ unusable output = (cc) in
    (NotMade plans source (as-before input output s false cannot.0) (ap refused_with same), Appends-nil known)
reports-unmade written has_failed Starving begun input output s left known plans source e leaves broken = reports-silent (AnswersMigrate written has_failed input output s) known

reports-stopped : {O : Type 0} (written : O → Option (List ℕ)) (has_failed : O → Bool) (input output : List ℕ) (s left : Sources) (stopped : Halt × Option O) (known : Option (List ℕ))
    → IfSome stopped.1 (λ made. has_failed made ≡ is_refusal stopped.0)
    → Migrates written input output s left (Err stopped) → Reports (AnswersMigrate written has_failed input output s) (Err (widened stopped.0)) known known
reports-stopped written has_failed input output s left stopped known broken (Kept stop takes read is) =
    let same : stop ≡ stopped.0 = (cc) in
    subst (λ x. Reports (AnswersMigrate written has_failed input output s) (Err (widened x)) known known) same (reports-kept written has_failed stop input output s known takes)
reports-stopped written has_failed input output s left stopped known broken (Moved plans source makes) =
    reports-unmade written has_failed stopped.0 stopped.1 input output s left known plans source makes.0 makes.1 broken

pub migrate-unwritten : {O : Type 0} (written : O → Option (List ℕ)) (has_failed : O → Bool) (input output : List ℕ) (known left : Option Sources) (stopped : Halt × Option O) (stop : Halt) (out : Option (List ℕ)) → stop ≡ stopped.0
    → IfSome stopped.1 (λ made. has_failed made ≡ is_refusal stopped.0)
    → IfKnown known left (λ s l. AreShort s → UnlessStarved (halts stopped.0) (LeavesMigrate input output s l) (ask_of input ∷ []) s l × Migrates written input output s l (Err stopped))
    → IfKnown known left (λ s l. AreShort s → UnlessStarved (is_starved (widened stop)) (LeavesMigrate input output s l) (ask_of input ∷ []) s l × Reports (AnswersMigrate written has_failed input output s) (Err (widened stop)) out out)
migrate-unwritten {O} written has_failed input output known left stopped stop out same broken migrates =
    IfKnown-weaker known left _ (λ s l. AreShort s → UnlessStarved (is_starved (widened stop)) (LeavesMigrate input output s l) (ask_of input ∷ []) s l × Reports (AnswersMigrate written has_failed input output s) (Err (widened stop)) out out) migrates (λ s l h short.
    let done = h short in (
      subst (λ x. UnlessStarved (is_starved (widened x)) (LeavesMigrate input output s l) (ask_of input ∷ []) s l) (sym same) (unless-widened stopped.0 (LeavesMigrate input output s l) (ask_of input ∷ []) s l done.0),
      subst (λ x. Reports (AnswersMigrate written has_failed input output s) (Err (widened x)) out out) (sym same) (reports-stopped written has_failed input output s l stopped out broken done.1),
    ))

-- the answer and the asks are right for the request
pub migrate-answers : {O : Type 0} (written : O → Option (List ℕ)) (has_failed : O → Bool) (input output : String Global) (from to : List ℕ) (known left : Option Sources) (r : Result Status Stop) (old new : Option (List ℕ))
    → from ≡ string_bytes input → to ≡ string_bytes output
    → IfKnown known left (λ s l. AreShort s → UnlessStarved (runs_out r) (LeavesMigrate from to s l) (ask_of from ∷ []) s l × Reports (AnswersMigrate written has_failed from to s) r old new)
    → IfKnown known left (λ s l. AreShort s → Answers written has_failed (Migrate input output) s l r old new)
migrate-answers written has_failed input output from to known left r old new here there answers =
    IfKnown-weaker known left _ (λ s l. AreShort s → Answers written has_failed (Migrate input output) s l r old new) answers (λ s l h short.
    let t = h short in
    let asks = subst (λ y. UnlessStarved (runs_out r) (LeavesMigrate from y s l) (ask_of from ∷ []) s l) there t.0 in
    let reports = subst (λ y. Reports (AnswersMigrate written has_failed from y s) r old new) there t.1 in
    record {
      asks = subst (λ x. UnlessStarved (runs_out r) (LeavesMigrate x (string_bytes output) s l) (ask_of x ∷ []) s l) here asks;
      reports = subst (λ x. Reports (AnswersMigrate written has_failed x (string_bytes output) s) r old new) here reports;
    })
