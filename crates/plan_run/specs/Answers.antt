-- What a request has to answer, for the files that there are.
use Rattle.std.specs.Prelude.{◌≡◌, ℕ, Bool, true, false, List, [], ◌∷◌, length, if◌then◌else◌, is_some, map, Option, Some, None, MatchOption, string_bytes}
use Rattle.byte_io.specs.Sources.{Ask, Content, Named, Sources, after, after_all, ask_of, can_create, taken_by}
use Rattle.lit_plan.specs.Plans as plan
use Rattle.list_plan.specs.Planned.{IsPlanned}
use Rattle.lit_base.specs.Costs.{run_cost}
use Rattle.lit_base.specs.Literals.{Literals, lengths}
use Rattle.lit_base.specs.Occurrences.{IsHits}
use Rattle.lit_base.specs.Profiles.{buckets}
use Rattle.plan_pack.specs.Asking.{LeavesMigrate, pack_asks, pack_reads, reads_file}
use Rattle.lit_base.specs.declared.profile.Profile.{Profile}
use Rattle.lit_cert.specs.Certificates.{CertificateParts}
use Rattle.lit_cert.specs.Certified.{IsCertified, IsFirstFailure}
use Rattle.lit_cert.specs.Spelling.{spelling}
use Rattle.lit_cert.specs.declared.reason.Reason.{Reason}
use Rattle.plan_view.specs.Drawings.{plan_svg}
use Rattle.plan_view.specs.Texts.{plan_text}
use Rattle.run_planner.specs.FirstCut.{IsFirstCut}
use Rattle.plan_pack.specs.Lists.{ArePlaces, ArePlansOf, NamesRefused, input_message, list_in, list_message, patterns_in, plan_message, plan_messages, text_in}
use Rattle.plan_pack.specs.Certificates.{IsCertificateIn, IsNoCertificate}
use Rattle.plan_pack.specs.Messages.{message_on, refused, unusable}
use Rattle.plan_pack.specs.Migrated.{AreMigrated, IsNoPlanFile, IsSourceOf, migrated_lines}
use Rattle.plan_pack.specs.PlanFiles.{HoldsPrefix, HoldsPlans, IsNoPlanAt, IsPlanAt}
use Rattle.plan_pack.specs.declared.notation.Reading.{Reading}
use Rattle.plan_pack.specs.declared.stop.Refusal.{Refusal}
use Rattle.plan_pack.specs.declared.stop.Refusal.TheVariants.{NoLiterals}
use Rattle.plan_run.specs.Listings.{hits_text}
use Rattle.plan_run.specs.Messages.{certificate_head, not_certified, optimal, wrong_input}
use Rattle.plan_run.specs.declared.request.Listing.{Listing}
use Rattle.plan_run.specs.declared.request.Request.{Request}
use Rattle.plan_run.specs.declared.request.Request.TheVariants.{Check, CheckPlan, Explain, ExplainCertificate, ExplainPlan, Migrate, Pack, Plan, Scan}
use Rattle.plan_run.specs.declared.request.View.{View}
use Rattle.plan_run.specs.declared.request.View.TheVariants.{Drawing, Text}
use Rattle.plan_run.specs.declared.status.Status.{Status}
use Rattle.plan_run.specs.declared.status.Status.TheVariants.{Done, NotCertified, Trouble, Wrong}

-- a text on standard output, a message, and a status
pub record Answer : Type 0 where
  pub output : List ℕ
  pub message : List ℕ
  pub status : Status

-- a text alone
abbrev pub printed : List ℕ → Status → Answer
printed text status = record { output = text; message = []; status = status }

-- a message alone
abbrev pub refused_with : List ℕ → Answer
refused_with text = record { output = []; message = text; status = Trouble }

-- the answer to a refusal: its message
abbrev pub refuses : Refusal → Answer
refuses refusal = refused_with (message_on refusal)

-- where an input is explained: this text on where it is wrong, if there is one; else the message of the refusal
abbrev pub wrong_or_message : Option (List ℕ) → Refusal → Answer
wrong_or_message None refusal = refuses refusal
wrong_or_message (Some text) refusal = printed text Wrong

-- where an input is explained: the answer to a refusal
abbrev pub where_wrong : Refusal → Answer
where_wrong refusal = wrong_or_message (wrong_input refusal) refusal

-- on a list that is to be planned: its certificate of the profile, or that there is nothing to plan
pub data IsPlanAnswer (profile : Profile) (list : Literals) (a : Answer) : Type 0 where
  Empty : length list.texts ≡ 0 → a ≡ refused_with (refused 5) → IsPlanAnswer profile list a
  Planned : (c : CertificateParts) → IsPlanned list profile c → a ≡ printed (spelling c) Done → IsPlanAnswer profile list a

-- on a list and a certificate: that it holds, or the first condition that fails
pub data IsVerdict (list : Literals) (c : CertificateParts) (a : Answer) : Type 0 where
  Holds : IsCertified list c → a ≡ printed (optimal c.cost) Done → IsVerdict list c a
  Fails : (reason : Reason) → IsFirstFailure list c reason → a ≡ printed (not_certified reason) NotCertified → IsVerdict list c a

-- on what was taken from a file: the answer about it; where nothing was, the answer to the refusal
pub data AnswersTaken {T : Type 0} (is_right : T → Type 0) (is_why : Refusal → Type 0) (wrong : Refusal → Answer) (P : T → Answer → Type 0) (a : Answer) : Type 0 where
  Nothing : (refusal : Refusal) → is_why refusal → a ≡ wrong refusal → AnswersTaken is_right is_why wrong P a
  Something : (x : T) → is_right x → P x a → AnswersTaken is_right is_why wrong P a

-- on the file of a certificate: the answer about the certificate, or to the refusal
abbrev pub IsCertificateAnswer : (Refusal → Answer) → (CertificateParts → Answer → Type 0) → List ℕ → Option Content → Answer → Type 0
IsCertificateAnswer wrong P name source a = AnswersTaken (IsCertificateIn source) (IsNoCertificate name source) wrong P a

-- on a list and a certificate of this name: the verdict
abbrev pub IsCheckAnswer : Literals → List ℕ → Option Content → Answer → Type 0
IsCheckAnswer list name source a = IsCertificateAnswer refuses (IsVerdict list) name source a

-- the message where there is one, else what has to be answered
abbrev pub AnswersUnless : Option (List ℕ) → (Answer → Type 0) → Answer → Type 0
AnswersUnless reason P a = MatchOption reason (P a) (λ message. a ≡ refused_with message)

-- the message on a file of patterns that gives no list; else what the list has to answer
abbrev pub AnswersList : Reading → List ℕ → Option Content → (Literals → Answer → Type 0) → Answer → Type 0
AnswersList reading name source P = AnswersUnless (list_message reading name source) (P (list_in reading source))

-- what stands under the certificate's name, once the file of patterns is read
abbrev pub certificate_source : List ℕ → List ℕ → Sources → Option Content
certificate_source file certificate s = taken_by (Named certificate) (after (ask_of file) s)

-- to plan
abbrev pub AnswersPlan : Reading → Profile → List ℕ → Sources → Answer → Type 0
AnswersPlan reading profile file s = AnswersList reading file (taken_by (ask_of file) s) (IsPlanAnswer profile)

-- to check a certificate
abbrev pub AnswersCheck : Reading → List ℕ → List ℕ → Sources → Answer → Type 0
AnswersCheck reading file certificate s =
    AnswersList reading file (taken_by (ask_of file) s) (λ list. IsCheckAnswer list certificate (certificate_source file certificate s))

-- on a list and a text: the hits of the whole text, with their literals or without; or their number
pub record AreHitsReported (list : Literals) (listing : Listing) (text : List ℕ) (a : Answer) : Type 0 where
  pub hits : List (ℕ × ℕ)
  pub right : IsHits list text hits
  pub is : a ≡ printed (hits_text listing list hits) Done

-- on a list and an input: the message where the input cannot be read; else its hits
abbrev pub AnswersInput : Literals → Listing → List ℕ → Option Content → Answer → Type 0
AnswersInput list listing name source = AnswersUnless (input_message name source) (AreHitsReported list listing (text_in source))

-- the input, once there is a plan
abbrev pub input_source : List ℕ → List ℕ → Sources → Option Content
input_source file input s = taken_by (ask_of input) (after (ask_of file) s)

-- to scan
abbrev pub AnswersScan : Reading → Listing → List ℕ → List ℕ → Sources → Answer → Type 0
AnswersScan reading listing file input s =
    AnswersUnless (plan_message reading file (taken_by (ask_of file) s))
    (AnswersInput (list_in reading (taken_by (ask_of file) s)) listing input (input_source file input s))

-- on plans and the name of their file, which can be made or not: nothing is printed where it was made and holds them;
-- the message where it cannot be made, or where a write to it failed, so that it holds a prefix alone
pub data IsPackAnswer {O : Type 0} (written : O → Option (List ℕ)) (has_failed : O → Bool) (P : List plan.Plan → Type 0) (name : List ℕ) (can : Bool) (a : Answer) : Type 0 where
  Packed : (plans : List plan.Plan) (made : O) → P plans → can ≡ true → HoldsPlans plans (written made) → has_failed made ≡ false
      → a ≡ printed [] Done → IsPackAnswer written has_failed P name can a
  Unmade : can ≡ false → a ≡ refused_with (unusable name) → IsPackAnswer written has_failed P name can a
  Cut : (plans : List plan.Plan) (made : O) → P plans → can ≡ true → HoldsPrefix plans (written made) → has_failed made ≡ true
      → a ≡ refused_with (unusable name) → IsPackAnswer written has_failed P name can a

-- the message where no plan file is made: it is one of the files of patterns, or one of the files gives no plan
abbrev pub pack_message : Reading → List (List ℕ) → List ℕ → Sources → Option (List ℕ)
pack_message reading names output s = if reads_file names output then Some (unusable output) else plan_messages reading names s

-- to pack
abbrev pub AnswersPack : {O : Type 0} → (O → Option (List ℕ)) → (O → Bool) → Reading → Profile → List (List ℕ) → List ℕ → Sources → Answer → Type 0
AnswersPack written has_failed reading profile names output s =
    AnswersUnless (pack_message reading names output s) (IsPackAnswer written has_failed (ArePlansOf reading profile names s) output (can_create output s.creatable))

-- a list that is cut at these ends for plans of a profile, whose patterns stand at these places: its drawing where that
-- is asked for, else its text
abbrev pub explained : Profile → View → Literals → List ℕ → List (Option ℕ) → List ℕ
explained profile Text list ends places = plan_text profile list ends places
explained profile Drawing list ends places = plan_svg profile list ends

-- on the list of the patterns: the view of the first of its cheapest cuts into as many runs as there are buckets
pub record IsExplained (profile : Profile) (list : Literals) (view : View) (patterns : List (List ℕ)) (a : Answer) : Type 0 where
  pub ends : List ℕ
  pub places : List (Option ℕ)
  pub first : IsFirstCut (run_cost (lengths list)) (buckets profile) (length list.texts) ends
  pub placed : ArePlaces list patterns places
  pub is : a ≡ printed (explained profile view list ends places) Done

-- likewise, or that there is nothing to explain
pub data IsExplainAnswer (profile : Profile) (list : Literals) (view : View) (patterns : List (List ℕ)) (a : Answer) : Type 0 where
  Unplanned : length list.texts ≡ 0 → a ≡ where_wrong NoLiterals → IsExplainAnswer profile list view patterns a
  Explained : IsExplained profile list view patterns a → IsExplainAnswer profile list view patterns a

-- the refusal of a file that gives no list
pub record IsNoList (reading : Reading) (name : List ℕ) (source : Option Content) (refusal : Refusal) : Type 0 where
  pub message : list_message reading name source ≡ Some (message_on refusal)
  pub names : NamesRefused reading source refusal

-- to explain a file of patterns by its content: where it is wrong, or its plan
pub data ExplainsList (reading : Reading) (profile : Profile) (view : View) (name : List ℕ) (source : Option Content) (a : Answer) : Type 0 where
  NoList : (refusal : Refusal) → IsNoList reading name source refusal → a ≡ where_wrong refusal → ExplainsList reading profile view name source a
  HasList : list_message reading name source ≡ None → IsExplainAnswer profile (list_in reading source) view (patterns_in reading source) a
      → ExplainsList reading profile view name source a

-- to explain a file of patterns
abbrev pub AnswersExplain : Reading → Profile → View → List ℕ → Sources → Answer → Type 0
AnswersExplain reading profile view file s a = ExplainsList reading profile view file (taken_by (ask_of file) s) a

-- on a plan file: the answer about its plan of this number, or to the refusal
abbrev pub AnswersPlanAt : (Refusal → Answer) → (plan.Plan → Answer → Type 0) → List ℕ → ℕ → Option Content → Answer → Type 0
AnswersPlanAt wrong P name place source a = AnswersTaken (IsPlanAt place source) (IsNoPlanAt name place source) wrong P a

-- to check a plan of a plan file
abbrev pub AnswersCheckPlan : List ℕ → ℕ → Sources → Answer → Type 0
AnswersCheckPlan file place s a = AnswersPlanAt refuses (λ p. IsVerdict p.literals p.certificate) file place (taken_by (ask_of file) s) a

-- the answer about a plan that is explained: its drawing or its text
abbrev pub IsPlanExplained : View → plan.Plan → Answer → Type 0
IsPlanExplained view p a = a ≡ printed (explained p.certificate.profile view p.literals p.certificate.ends []) Done

-- to explain a plan of a plan file
abbrev pub AnswersExplainPlan : View → List ℕ → ℕ → Sources → Answer → Type 0
AnswersExplainPlan view file place s a = AnswersPlanAt where_wrong (IsPlanExplained view) file place (taken_by (ask_of file) s) a

-- how many runs a certificate has, and their cost
abbrev pub IsCertificateReported : CertificateParts → Answer → Type 0
IsCertificateReported c a = a ≡ printed (certificate_head (length c.ends) c.cost) Done

-- to explain a certificate
abbrev pub AnswersExplainCertificate : List ℕ → Sources → Answer → Type 0
AnswersExplainCertificate name s a = IsCertificateAnswer where_wrong IsCertificateReported name (taken_by (Named name) s) a

-- to migrate the plans of one file to another: the message where there are none; what each plan cost and costs, where
-- the other file was made and holds the new plans; the message where it cannot be made, or where a write to it failed,
-- so that it holds a prefix alone
pub data AnswersMigrate {O : Type 0} (written : O → Option (List ℕ)) (has_failed : O → Bool) (input output : List ℕ) (s : Sources) (a : Answer) : Type 0 where
  NoPlans : (refusal : Refusal) → IsNoPlanFile input (taken_by (ask_of input) s) refusal → a ≡ refuses refusal → AnswersMigrate written has_failed input output s a
  NotMade : (old : List plan.Plan) → IsSourceOf (taken_by (ask_of input) s) old → can_create output s.creatable ≡ false
      → a ≡ refused_with (unusable output) → AnswersMigrate written has_failed input output s a
  CutShort : (old new : List plan.Plan) (made : O) → IsSourceOf (taken_by (ask_of input) s) old → AreMigrated old new → can_create output s.creatable ≡ true
      → HoldsPrefix new (written made) → has_failed made ≡ true → a ≡ refused_with (unusable output) → AnswersMigrate written has_failed input output s a
  Migrated : (old new : List plan.Plan) (made : O) → IsSourceOf (taken_by (ask_of input) s) old → AreMigrated old new → can_create output s.creatable ≡ true
      → HoldsPlans new (written made) → has_failed made ≡ false → a ≡ printed (migrated_lines 0 old new) Done → AnswersMigrate written has_failed input output s a

-- what a request has to answer, with what the device of a file that it makes shows of it
abbrev pub IsAnswerTo : {O : Type 0} → (O → Option (List ℕ)) → (O → Bool) → Request → Sources → Answer → Type 0
IsAnswerTo written has_failed (Plan r) s a = AnswersPlan r.reading r.profile (string_bytes r.file) s a
IsAnswerTo written has_failed (Check r) s a = AnswersCheck r.reading (string_bytes r.file) (string_bytes r.certificate) s a
IsAnswerTo written has_failed (CheckPlan file place) s a = AnswersCheckPlan (string_bytes file) place s a
IsAnswerTo written has_failed (Pack r) s a = AnswersPack written has_failed r.reading r.profile (map string_bytes r.files.names.items) (string_bytes r.output) s a
IsAnswerTo written has_failed (Explain r) s a = AnswersExplain r.reading r.profile r.view (string_bytes r.file) s a
IsAnswerTo written has_failed (ExplainPlan view file place) s a = AnswersExplainPlan view (string_bytes file) place s a
IsAnswerTo written has_failed (ExplainCertificate certificate) s a = AnswersExplainCertificate (string_bytes certificate) s a
IsAnswerTo written has_failed (Migrate input output) s a = AnswersMigrate written has_failed (string_bytes input) (string_bytes output) s a
IsAnswerTo written has_failed (Scan r) s a = AnswersScan r.reading r.listing (string_bytes r.file) (string_bytes r.input) s a

-- the files that are read, in order: the file of patterns, and the certificate once there is a list
abbrev pub check_reads : Reading → List ℕ → List ℕ → Sources → List Ask
check_reads reading file certificate s =
    ask_of file ∷ (if is_some (list_message reading file (taken_by (ask_of file) s)) then [] else Named certificate ∷ [])

-- likewise the file of patterns, and the input once there is a plan
abbrev pub scan_reads : Reading → List ℕ → List ℕ → Sources → List Ask
scan_reads reading file input s =
    ask_of file ∷ (if is_some (plan_message reading file (taken_by (ask_of file) s)) then [] else ask_of input ∷ [])

-- all that a request may read
abbrev pub reads_of : Request → Sources → List Ask
reads_of (Plan r) s = ask_of (string_bytes r.file) ∷ []
reads_of (Check r) s = check_reads r.reading (string_bytes r.file) (string_bytes r.certificate) s
reads_of (CheckPlan file place) s = ask_of (string_bytes file) ∷ []
reads_of (Pack r) s = pack_reads r.reading (map string_bytes r.files.names.items) (string_bytes r.output) s
reads_of (Explain r) s = ask_of (string_bytes r.file) ∷ []
reads_of (ExplainPlan view file place) s = ask_of (string_bytes file) ∷ []
reads_of (ExplainCertificate certificate) s = Named (string_bytes certificate) ∷ []
reads_of (Migrate input output) s = ask_of (string_bytes input) ∷ []
reads_of (Scan r) s = scan_reads r.reading (string_bytes r.file) (string_bytes r.input) s

-- what a request leaves once it has asked for all: two make a file, the others read alone
abbrev pub IsLeftBy : Request → Sources → Sources → Type 0
IsLeftBy (Pack r) s left = left ≡ after_all (pack_asks r.reading (map string_bytes r.files.names.items) (string_bytes r.output) s) s
IsLeftBy (Migrate input output) s left = LeavesMigrate (string_bytes input) (string_bytes output) s left
IsLeftBy r s left = left ≡ after_all (reads_of r s) s
