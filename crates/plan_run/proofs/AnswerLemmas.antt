-- Answers: from what a list has to answer to what a request has.
use Rattle.std.proofs.Common.{◌≡◌, ℕ, ◌*◌, ◌/◌, ◌<◌, ◌≤◌, cond, List, [], ◌∷◌, length, Option, None, Some, is_some, MatchOption, Result, Ok, Err, refl, sym, ap, ◌∙◌, subst, arith}
use Rattle.std.specs.Global.{Vec}
use Rattle.std.proofs.KnownBytes.{Appends-nil}
use Rattle.std.proofs.Math.Nat.{mul_comm, mul-div_cancel}
use Rattle.byte_io.specs.Devices.{IfKnown}
use Rattle.byte_io.specs.Sources.{AreShort, Ask, Content, Named, Sources, after, after_all, ask_of, taken_by}
use Rattle.byte_io.proofs.OpenerLemmas.{short-after}
use Rattle.byte_io.proofs.KnownLemmas.{IfKnown-then, IfKnown-weaker}
use Rattle.lit_plan.specs.Plans.{Plan}
use Rattle.lit_base.specs.Cuts.{CutsFrom}
use Rattle.lit_base.specs.Literals.{Literals}
use Rattle.lit_base.specs.Profiles.{buckets}
use Rattle.lit_cert.specs.Certificates.{CertificateParts, numbers_of}
use Rattle.lit_cert.specs.Certified.{IsCertified}
use Rattle.lit_cert.specs.Spelling.{IsShaped, literals_in}
use Rattle.plan_pack.specs.Asking.{Asks, UnlessStarved}
use Rattle.lit_base.specs.declared.profile.Profile.{Profile}
use Rattle.lit_base.specs.declared.profile.Profile.TheVariants.{Eight, Sixteen}
use Rattle.lit_base.specs.declared.lit_list.Normal.{Normal}
use Rattle.plan_pack.specs.Lists.{ArePlaces, input_message, list_in, list_message, patterns_in, plan_message, text_in}
use Rattle.plan_pack.specs.Messages.{message_on}
use Rattle.plan_pack.specs.Stops.{Explains, is_starved as halts}
use Rattle.plan_pack.specs.Taken.{NamesStop, Takes, TakesList, TakesPlaces, TakesPlan, TakesText}
use Rattle.plan_pack.specs.declared.notation.Reading.{Reading}
use Rattle.plan_pack.specs.declared.stop.Refusal.{Refusal}
use Rattle.plan_pack.specs.declared.stop.Stop.{Stop as Halt}
use Rattle.plan_pack.specs.declared.stop.Stop.TheVariants.{OutOfMemory as Starving, Refused as Halted}
use Rattle.plan_run.specs.declared.stop.Stop.{Stop}
use Rattle.plan_run.specs.declared.stop.Stop.TheVariants.{OutOfMemory, Refused, WriteFault}
use Rattle.plan_pack.proofs.AskLemmas.{asks-all, asks-stopped}
use Rattle.plan_run.specs.Answers.{Answer, AnswersCheck, AnswersExplain, AnswersInput, AnswersList, AnswersPlan, AnswersScan, AnswersTaken, AnswersUnless, AreHitsReported, HasList, IsCheckAnswer, IsExplainAnswer, IsNoList, IsPlanAnswer, NoList, Nothing, Something, certificate_source, check_reads, input_source, refused_with, refuses, scan_reads, printed, where_wrong}
use Rattle.plan_run.specs.Running.{Begun, Silent, Reports, ReportsStop, Writes, runs_out}
use Rattle.plan_run.specs.Stops.{is_starved, widened}
use Rattle.plan_run.specs.declared.request.Listing.{Listing}
use Rattle.plan_run.specs.declared.request.View.{View}
use Rattle.plan_run.specs.declared.status.Status.{Status}

-- a text that was written is an answer for which P holds
pub reports-text : (P : Answer → Type 0) (text : List ℕ) (status : Status) (r : Result Status Stop) (old new : Option (List ℕ))
    → P (printed text status) → Writes text status r old new → Reports P r old new
reports-text P text status (Ok answered) old new right w = record { answer = printed text status; right = right; status_is = sym w.0; silent = refl; output = w.1 }
reports-text P text status (Err (Refused refusal)) old new right w = absurd w
reports-text P text status (Err WriteFault) old new right w = record { answer = printed text status; right = right; output = w }
reports-text P text status (Err OutOfMemory) old new right w = Begun (record { answer = printed text status; right = right; output = w })

-- where memory ran out before anything was written
pub reports-silent : (P : Answer → Type 0) (known : Option (List ℕ)) → Reports P (Err OutOfMemory) known known
reports-silent P known = Silent (Appends-nil known)

-- an answer of one kind is an answer of another
pub reports-weaker : (P Q : Answer → Type 0) (r : Result Status Stop) (old new : Option (List ℕ)) → ((a : Answer) → P a → Q a) → Reports P r old new → Reports Q r old new
reports-weaker P Q (Ok status) old new weaker t = record { answer = t.answer; right = weaker t.answer t.right; status_is = t.status_is; silent = t.silent; output = t.output }
reports-weaker P Q (Err (Refused refusal)) old new weaker t = (weaker _ t.0, t.1)
reports-weaker P Q (Err WriteFault) old new weaker t = record { answer = t.answer; right = weaker t.answer t.right; output = t.output }
reports-weaker P Q (Err OutOfMemory) old new weaker (Silent nothing) = Silent nothing
reports-weaker P Q (Err OutOfMemory) old new weaker (Begun t) = Begun (record { answer = t.answer; right = weaker t.answer t.right; output = t.output })

-- where there is no message, the answer is the one
pub reports-unless : (reason : Option (List ℕ)) (P : Answer → Type 0) (r : Result Status Stop) (old new : Option (List ℕ)) → reason ≡ None → Reports P r old new
    → Reports (AnswersUnless reason P) r old new
reports-unless reason P r old new none t =
    reports-weaker P (AnswersUnless reason P) r old new (λ a right. subst (λ m. MatchOption m (P a) (λ message. a ≡ refused_with message)) (sym none) right) t

-- what holds unless memory ran out in reading holds unless it ran out in the run
pub unless-widened : (stop : Halt) (P : Type 0) (reads : List Ask) (s left : Sources) → UnlessStarved (halts stop) P reads s left → UnlessStarved (is_starved (widened stop)) P reads s left
unless-widened (Halted refusal) P reads s left h = h
unless-widened Starving P reads s left h = h

-- where there is one, it is the answer
pub reports-reason : (reason : Option (List ℕ)) (P : Answer → Type 0) (stop : Halt) (known : Option (List ℕ)) → Explains stop reason → Reports (AnswersUnless reason P) (Err (widened stop)) known known
reports-reason reason P (Halted refusal) known e =
    let text : List ℕ = message_on refusal in
    (subst (λ m. MatchOption m (P (refused_with text)) (λ message. refused_with text ≡ refused_with message)) (sym e) refl, Appends-nil known)
reports-reason reason P Starving known e = Silent (Appends-nil known)

-- an answer on a list is an answer on its file
pub reports-list : (reading : Reading) (name : List ℕ) (source : Option Content) (P : Literals → Answer → Type 0) (list : Literals) (r : Result Status Stop) (old new : Option (List ℕ))
    → TakesList reading name source (Ok list) → Reports (P list) r old new → Reports (AnswersList reading name source P) r old new
reports-list reading name source P list r old new taken t =
    reports-unless (list_message reading name source) (P (list_in reading source)) r old new taken.0 (subst (λ l. Reports (P l) r old new) taken.1 t)

-- why there is no list
pub reports-stop : (reading : Reading) (name : List ℕ) (source : Option Content) (P : Literals → Answer → Type 0) (stop : Halt) (known : Option (List ℕ))
    → Explains stop (list_message reading name source) → Reports (AnswersList reading name source P) (Err (widened stop)) known known
reports-stop reading name source P stop known e = reports-reason (list_message reading name source) (P (list_in reading source)) stop known e

-- the plan of a list that is had
pub plan-had : (reading : Reading) (profile : Profile) (file : List ℕ) (known mid : Option Sources) (list : Literals) (r : Result Status Stop) (old new : Option (List ℕ))
    → IfKnown known mid (λ s left. AreShort s → (left ≡ after (ask_of file) s) × TakesList reading file (taken_by (ask_of file) s) (Ok list)) → Reports (IsPlanAnswer profile list) r old new
    → IfKnown known mid (λ s left. AreShort s → Asks (runs_out r) (ask_of file ∷ []) s left × Reports (AnswersPlan reading profile file s) r old new)
plan-had reading profile file known mid list r old new reads reports =
    IfKnown-weaker known mid _ (λ s left. AreShort s → Asks (runs_out r) (ask_of file ∷ []) s left × Reports (AnswersPlan reading profile file s) r old new) reads (λ s left h short.
    let taken = h short in
    (asks-all (runs_out r) (ask_of file ∷ []) s left taken.0, reports-list reading file (taken_by (ask_of file) s) (IsPlanAnswer profile) list r old new taken.1 reports))

-- and of a file without a list
pub plan-stopped : (reading : Reading) (profile : Profile) (file : List ℕ) (known mid : Option Sources) (stop : Halt) (out : Option (List ℕ))
    → IfKnown known mid (λ s left. AreShort s → (left ≡ after (ask_of file) s) × TakesList reading file (taken_by (ask_of file) s) (Err stop))
    → IfKnown known mid (λ s left. AreShort s → Asks (is_starved (widened stop)) (ask_of file ∷ []) s left × Reports (AnswersPlan reading profile file s) (Err (widened stop)) out out)
plan-stopped reading profile file known mid stop out reads =
    IfKnown-weaker known mid _ (λ s left. AreShort s → Asks (is_starved (widened stop)) (ask_of file ∷ []) s left × Reports (AnswersPlan reading profile file s) (Err (widened stop)) out out) reads (λ s left h short.
    let taken = h short in
    (asks-all (is_starved (widened stop)) (ask_of file ∷ []) s left taken.0, reports-stop reading file (taken_by (ask_of file) s) (IsPlanAnswer profile) stop out taken.1))

-- where there is no message, another ask follows that for the file of patterns
pub asks-both : (file : List ℕ) (next : Ask) (message : Option (List ℕ)) → message ≡ None
    → ask_of file ∷ cond (is_some message) [] (next ∷ []) ≡ ask_of file ∷ next ∷ []
asks-both file next None e = refl
asks-both file next (Some text) e = (cc)

-- the check of a certificate for a list that is had
pub check-had : (reading : Reading) (file certificate : List ℕ) (known mid left : Option Sources) (list : Literals) (r : Result Status Stop) (old new : Option (List ℕ))
    → IfKnown known mid (λ s m. AreShort s → (m ≡ after (ask_of file) s) × TakesList reading file (taken_by (ask_of file) s) (Ok list))
    → IfKnown mid left (λ m l. AreShort m → (l ≡ after (Named certificate) m) × Reports (IsCheckAnswer list certificate (taken_by (Named certificate) m)) r old new)
    → IfKnown known left (λ s l. AreShort s → Asks (runs_out r) (check_reads reading file certificate s) s l × Reports (AnswersCheck reading file certificate s) r old new)
check-had reading file certificate known mid left list r old new reads judges =
    IfKnown-then known mid left _ _ (λ s l. AreShort s → Asks (runs_out r) (check_reads reading file certificate s) s l × Reports (AnswersCheck reading file certificate s) r old new) reads judges (λ s m l h g short.
    let taken = h short in
    let judged = g (subst AreShort (sym taken.0) (short-after (ask_of file) s short)) in
    let message : Option (List ℕ) = list_message reading file (taken_by (ask_of file) s) in
    let made : l ≡ after_all (ask_of file ∷ Named certificate ∷ []) s = judged.0 ∙ ap (after (Named certificate)) taken.0 in
    let reports = subst (λ x. Reports (IsCheckAnswer list certificate (taken_by (Named certificate) x)) r old new) taken.0 judged.1 in (
      asks-all (runs_out r) (check_reads reading file certificate s) s l (made ∙ ap (λ asks. after_all asks s) (sym (asks-both file (Named certificate) message taken.1.0))),
      reports-list reading file (taken_by (ask_of file) s) (λ ls. IsCheckAnswer ls certificate (certificate_source file certificate s)) list r old new taken.1 reports,
    ))

pub check-stopped : (reading : Reading) (file certificate : List ℕ) (known mid : Option Sources) (stop : Halt) (out : Option (List ℕ))
    → IfKnown known mid (λ s left. AreShort s → (left ≡ after (ask_of file) s) × TakesList reading file (taken_by (ask_of file) s) (Err stop))
    → IfKnown known mid (λ s left. AreShort s → Asks (is_starved (widened stop)) (check_reads reading file certificate s) s left × Reports (AnswersCheck reading file certificate s) (Err (widened stop)) out out)
check-stopped reading file certificate known mid stop out reads =
    IfKnown-weaker known mid _ (λ s left. AreShort s → Asks (is_starved (widened stop)) (check_reads reading file certificate s) s left × Reports (AnswersCheck reading file certificate s) (Err (widened stop)) out out) reads (λ s left h short.
    let taken = h short in (
      unless-widened stop _ (check_reads reading file certificate s) s left
          (asks-stopped file (Named certificate ∷ []) (Named certificate ∷ []) (list_message reading file (taken_by (ask_of file) s)) stop s left taken.1 taken.0),
      reports-stop reading file (taken_by (ask_of file) s) (λ ls. IsCheckAnswer ls certificate (certificate_source file certificate s)) stop out taken.1,
    ))

-- the hits in an input that is read
pub input-had : (list : Literals) (listing : Listing) (input : List ℕ) (known left : Option Sources) (text : Vec ℕ) (r : Result Status Stop) (old new : Option (List ℕ))
    → IfKnown known left (λ s l. AreShort s → (l ≡ after (ask_of input) s) × TakesText input (taken_by (ask_of input) s) (Ok text)) → Reports (AreHitsReported list listing text.items) r old new
    → IfKnown known left (λ s l. AreShort s → (l ≡ after (ask_of input) s) × Reports (AnswersInput list listing input (taken_by (ask_of input) s)) r old new)
input-had list listing input known left text r old new reads reports =
    IfKnown-weaker known left _ (λ s l. AreShort s → (l ≡ after (ask_of input) s) × Reports (AnswersInput list listing input (taken_by (ask_of input) s)) r old new) reads (λ s l h short.
    let taken = h short in
    let source : Option Content = taken_by (ask_of input) s in
    (taken.0, reports-unless (input_message input source) (AreHitsReported list listing (text_in source)) r old new taken.1.0 (subst (λ t. Reports (AreHitsReported list listing t) r old new) taken.1.1 reports)))

-- and of an input that was not read
pub input-stopped : (list : Literals) (listing : Listing) (input : List ℕ) (known left : Option Sources) (stop : Halt) (out : Option (List ℕ))
    → IfKnown known left (λ s l. AreShort s → (l ≡ after (ask_of input) s) × TakesText input (taken_by (ask_of input) s) (Err stop))
    → IfKnown known left (λ s l. AreShort s → (l ≡ after (ask_of input) s) × Reports (AnswersInput list listing input (taken_by (ask_of input) s)) (Err (widened stop)) out out)
input-stopped list listing input known left stop out reads =
    IfKnown-weaker known left _ (λ s l. AreShort s → (l ≡ after (ask_of input) s) × Reports (AnswersInput list listing input (taken_by (ask_of input) s)) (Err (widened stop)) out out) reads (λ s l h short.
    let taken = h short in
    let source : Option Content = taken_by (ask_of input) s in
    (taken.0, reports-reason (input_message input source) (AreHitsReported list listing (text_in source)) stop out taken.1))

-- the scan of an input by a plan that is had
pub scan-had : (reading : Reading) (listing : Listing) (file input : List ℕ) (known mid left : Option Sources) (plan : Plan) (r : Result Status Stop) (old new : Option (List ℕ))
    → IfKnown known mid (λ s m. AreShort s → (m ≡ after (ask_of file) s) × TakesPlan reading Eight file (taken_by (ask_of file) s) (Ok plan))
    → IfKnown mid left (λ m l. AreShort m → (l ≡ after (ask_of input) m) × Reports (AnswersInput plan.literals listing input (taken_by (ask_of input) m)) r old new)
    → IfKnown known left (λ s l. AreShort s → Asks (runs_out r) (scan_reads reading file input s) s l × Reports (AnswersScan reading listing file input s) r old new)
scan-had reading listing file input known mid left plan r old new reads scans =
    IfKnown-then known mid left _ _ (λ s l. AreShort s → Asks (runs_out r) (scan_reads reading file input s) s l × Reports (AnswersScan reading listing file input s) r old new) reads scans (λ s m l h g short.
    let taken = h short in
    let scanned = g (subst AreShort (sym taken.0) (short-after (ask_of file) s short)) in
    let message : Option (List ℕ) = plan_message reading file (taken_by (ask_of file) s) in
    let list : Literals = list_in reading (taken_by (ask_of file) s) in
    let made : l ≡ after_all (ask_of file ∷ ask_of input ∷ []) s = scanned.0 ∙ ap (after (ask_of input)) taken.0 in
    let reports = subst (λ x. Reports (AnswersInput plan.literals listing input (taken_by (ask_of input) x)) r old new) taken.0 scanned.1 in
    let answer = AnswersInput list listing input (input_source file input s) in (
      asks-all (runs_out r) (scan_reads reading file input s) s l (made ∙ ap (λ asks. after_all asks s) (sym (asks-both file (ask_of input) message taken.1.0))),
      reports-unless message answer r old new taken.1.0 (subst (λ ls. Reports (AnswersInput ls listing input (input_source file input s)) r old new) taken.1.1.literals reports),
    ))

-- and by a file without a plan
pub scan-stopped : (reading : Reading) (listing : Listing) (file input : List ℕ) (known mid : Option Sources) (stop : Halt) (out : Option (List ℕ))
    → IfKnown known mid (λ s left. AreShort s → (left ≡ after (ask_of file) s) × TakesPlan reading Eight file (taken_by (ask_of file) s) (Err stop))
    → IfKnown known mid (λ s left. AreShort s → Asks (is_starved (widened stop)) (scan_reads reading file input s) s left × Reports (AnswersScan reading listing file input s) (Err (widened stop)) out out)
scan-stopped reading listing file input known mid stop out reads =
    IfKnown-weaker known mid _ (λ s left. AreShort s → Asks (is_starved (widened stop)) (scan_reads reading file input s) s left × Reports (AnswersScan reading listing file input s) (Err (widened stop)) out out) reads (λ s left h short.
    let taken = h short in
    let message : Option (List ℕ) = plan_message reading file (taken_by (ask_of file) s) in (
      unless-widened stop _ (scan_reads reading file input s) s left (asks-stopped file (ask_of input ∷ []) (ask_of input ∷ []) message stop s left taken.1 taken.0),
      reports-reason message (AnswersInput (list_in reading (taken_by (ask_of file) s)) listing input (input_source file input s)) stop out taken.1,
    ))

-- ---- a list and its certificate

ends-some : (n : ℕ) (ends : List ℕ) → 0 < n → CutsFrom n 0 ends → 1 ≤ length ends
ends-some n [] some cuts = omega (arith, some, cuts)
ends-some n (end ∷ ends) some cuts = omega arith

-- there is a bucket
some-buckets : (profile : Profile) → 0 < buckets profile
some-buckets Eight = omega arith
some-buckets Sixteen = omega arith

-- the number of potentials in rows, one for each literal, gives the number of literals
rows-report : (most n rows : ℕ) → 0 < most → rows ≡ most * n → rows / most ≡ n
rows-report most n rows some is = ap (λ m. m / most) (is ∙ mul_comm most n) ∙ mul-div_cancel n some

-- a certificate that holds has a text
pub shaped : (list : Literals) (c : CertificateParts) → IsCertified list c → length list.texts ≤ 4096 → IsShaped c
shaped list c p few =
    let most : ℕ = buckets c.profile in
    let rows : length c.potentials ≡ most * length list.texts = p.priced.size.rows in
    let n : literals_in most (numbers_of c) ≡ length list.texts = rows-report most (length list.texts) (length c.potentials) (some-buckets c.profile) rows in
    record {
      rows = rows ∙ ap (λ k. most * k) (sym n);
      literals = record { some = omega (arith, n, p.priced.size.some); few = omega (arith, n, few) };
      ends = ends-some (length list.texts) c.ends p.priced.cut.some p.priced.cut.cuts;
      few_ends = p.priced.cut.few;
    }

-- ---- a plan that is explained

-- the plan of a list that is had
pub explain-had : (reading : Reading) (profile : Profile) (view : View) (file : List ℕ) (known mid : Option Sources) (found : Literals × Normal) (r : Result Status Stop) (old new : Option (List ℕ))
    → IfKnown known mid (λ s left. AreShort s → (left ≡ after (ask_of file) s) × TakesPlaces reading file (taken_by (ask_of file) s) (Ok found))
    → ((patterns : List (List ℕ)) → ArePlaces found.0 patterns found.1.place_of.items → Reports (IsExplainAnswer profile found.0 view patterns) r old new)
    → IfKnown known mid (λ s left. AreShort s → Asks (runs_out r) (ask_of file ∷ []) s left × Reports (AnswersExplain reading profile view file s) r old new)
explain-had reading profile view file known mid found r old new reads reports =
    IfKnown-weaker known mid _ (λ s left. AreShort s → Asks (runs_out r) (ask_of file ∷ []) s left × Reports (AnswersExplain reading profile view file s) r old new) reads (λ s left h short.
    let taken = h short in
    let source : Option Content = taken_by (ask_of file) s in
    let printed = subst (λ list. Reports (IsExplainAnswer profile list view (patterns_in reading source)) r old new) taken.1.1 (reports (patterns_in reading source) taken.1.2) in (
      asks-all (runs_out r) (ask_of file ∷ []) s left taken.0,
      reports-weaker (IsExplainAnswer profile (list_in reading source) view (patterns_in reading source)) (AnswersExplain reading profile view file s) r old new (λ a right. HasList taken.1.0 right) printed,
    ))

-- the report of a stop, where it is right of each refusal that the stop may be
pub reports-flaw : (P : Answer → Type 0) (stop : Halt) (r : Result Status Stop) (old new : Option (List ℕ)) → ((refusal : Refusal) → stop ≡ Halted refusal → P (where_wrong refusal))
    → ReportsStop stop r old new → Reports P r old new
reports-flaw P (Halted refusal) r old new right t =
    reports-weaker (λ a. a ≡ where_wrong refusal) P r old new (λ a is. subst P (sym is) (right refusal refl)) t
reports-flaw P Starving r old new right t = subst (λ x. Reports P x old new) (sym t.0) (Silent t.1)

-- what both say
both : {T : Type 0} (a b : Option T) (P Q : T → T → Type 0) → IfKnown a b P → IfKnown a b Q → IfKnown a b (λ x y. P x y × Q x y)
both None b P Q p q = tt
both (Some x) None P Q p q = absurd p
both (Some x) (Some y) P Q p q = (p, q)

-- why a file of patterns gives no list
no-list : (reading : Reading) (file : List ℕ) (source : Option Content) (stop : Halt) → Explains stop (list_message reading file source) → NamesStop reading source stop
    → (refusal : Refusal) → stop ≡ Halted refusal → IsNoList reading file source refusal
no-list reading file source (Halted refusal) why named other e =
    let same : refusal ≡ other = (cc) in
    subst (λ x. IsNoList reading file source x) same (record { message = why; names = named })
no-list reading file source Starving why named other e = absurd (cc)

-- and of a file without a list
pub explain-stopped : (reading : Reading) (profile : Profile) (view : View) (file : List ℕ) (known mid : Option Sources) (stop : Halt) (r : Result Status Stop) (old new : Option (List ℕ))
    → IfKnown known mid (λ s left. AreShort s → (left ≡ after (ask_of file) s) × TakesPlaces reading file (taken_by (ask_of file) s) (Err stop))
    → IfKnown known mid (λ s left. AreShort s → NamesStop reading (taken_by (ask_of file) s) stop)
    → ReportsStop stop r old new
    → IfKnown known mid (λ s left. AreShort s → Asks (runs_out r) (ask_of file ∷ []) s left × Reports (AnswersExplain reading profile view file s) r old new)
explain-stopped reading profile view file known mid stop r old new reads names reports =
    IfKnown-weaker known mid _ (λ s left. AreShort s → Asks (runs_out r) (ask_of file ∷ []) s left × Reports (AnswersExplain reading profile view file s) r old new)
    (both known mid (λ s left. AreShort s → (left ≡ after (ask_of file) s) × TakesPlaces reading file (taken_by (ask_of file) s) (Err stop)) (λ s left. AreShort s → NamesStop reading (taken_by (ask_of file) s) stop) reads names) (λ s left h short.
    let taken = h.0 short in
    let source : Option Content = taken_by (ask_of file) s in (
      asks-all (runs_out r) (ask_of file ∷ []) s left taken.0,
      reports-flaw (AnswersExplain reading profile view file s) stop r old new (λ refusal is. NoList refusal (no-list reading file source stop taken.1 (h.1 short) refusal is) refl) reports,
    ))

-- ---- what was taken from a file

-- one read is all that was asked for
pub asks-one : (ask : Ask) (known left : Option Sources) (r : Result Status Stop) (R : Sources → Type 0) → IfKnown known left (λ s l. AreShort s → (l ≡ after ask s) × R s)
    → IfKnown known left (λ s l. AreShort s → Asks (runs_out r) (ask ∷ []) s l × R s)
asks-one ask known left r R reads =
    IfKnown-weaker known left _ (λ s l. AreShort s → Asks (runs_out r) (ask ∷ []) s l × R s) reads (λ s l h short. let read = h short in (asks-all (runs_out r) (ask ∷ []) s l read.0, read.1))

-- the report about it
pub taken-had : {T : Type 0} (is_right : Option Content → T → Type 0) (is_why : Option Content → Refusal → Type 0) (wrong : Refusal → Answer) (P : T → Answer → Type 0) (ask : Ask) (known left : Option Sources) (x : T) (r : Result Status Stop) (old new : Option (List ℕ))
    → IfKnown known left (λ s l. AreShort s → (l ≡ after ask s) × is_right (taken_by ask s) x) → Reports (P x) r old new
    → IfKnown known left (λ s l. AreShort s → (l ≡ after ask s) × Reports (AnswersTaken (is_right (taken_by ask s)) (is_why (taken_by ask s)) wrong P) r old new)
taken-had is_right is_why wrong P ask known left x r old new reads reports =
    IfKnown-weaker known left _ (λ s l. AreShort s → (l ≡ after ask s) × Reports (AnswersTaken (is_right (taken_by ask s)) (is_why (taken_by ask s)) wrong P) r old new) reads (λ s l h short.
    let taken = h short in (
      taken.0,
      reports-weaker (P x) (AnswersTaken (is_right (taken_by ask s)) (is_why (taken_by ask s)) wrong P) r old new (λ a right. Something x taken.1 right) reports,
    ))

-- why nothing was
no-taken : {T : Type 0} (is_right : T → Type 0) (is_why : Refusal → Type 0) (stop : Halt) → Takes is_right is_why (Err stop) → (refusal : Refusal) → stop ≡ Halted refusal → is_why refusal
no-taken is_right is_why (Halted refusal) takes other e =
    let same : refusal ≡ other = (cc) in
    subst is_why same takes
no-taken is_right is_why Starving takes other e = absurd (cc)

-- which is explained
pub taken-wrong : {T : Type 0} (is_right : Option Content → T → Type 0) (is_why : Option Content → Refusal → Type 0) (P : T → Answer → Type 0) (ask : Ask) (known left : Option Sources) (stop : Halt) (r : Result Status Stop) (old new : Option (List ℕ))
    → IfKnown known left (λ s l. AreShort s → (l ≡ after ask s) × Takes (is_right (taken_by ask s)) (is_why (taken_by ask s)) (Err stop)) → ReportsStop stop r old new
    → IfKnown known left (λ s l. AreShort s → (l ≡ after ask s) × Reports (AnswersTaken (is_right (taken_by ask s)) (is_why (taken_by ask s)) where_wrong P) r old new)
taken-wrong is_right is_why P ask known left stop r old new reads reports =
    IfKnown-weaker known left _ (λ s l. AreShort s → (l ≡ after ask s) × Reports (AnswersTaken (is_right (taken_by ask s)) (is_why (taken_by ask s)) where_wrong P) r old new) reads (λ s l h short.
    let taken = h short in
    let source : Option Content = taken_by ask s in (
      taken.0,
      reports-flaw (AnswersTaken (is_right source) (is_why source) where_wrong P) stop r old new (λ refusal is. Nothing refusal (no-taken (is_right source) (is_why source) stop taken.1 refusal is) refl) reports,
    ))

-- or has its message
reports-none : {T : Type 0} (is_right : T → Type 0) (is_why : Refusal → Type 0) (P : T → Answer → Type 0) (stop : Halt) (known : Option (List ℕ)) → Takes is_right is_why (Err stop)
    → Reports (AnswersTaken is_right is_why refuses P) (Err (widened stop)) known known
reports-none is_right is_why P (Halted refusal) known takes = (Nothing refusal takes refl, Appends-nil known)
reports-none is_right is_why P Starving known takes = reports-silent (AnswersTaken is_right is_why refuses P) known

pub taken-stopped : {T : Type 0} (is_right : Option Content → T → Type 0) (is_why : Option Content → Refusal → Type 0) (P : T → Answer → Type 0) (ask : Ask) (known left : Option Sources) (stop : Halt) (out : Option (List ℕ))
    → IfKnown known left (λ s l. AreShort s → (l ≡ after ask s) × Takes (is_right (taken_by ask s)) (is_why (taken_by ask s)) (Err stop))
    → IfKnown known left (λ s l. AreShort s → (l ≡ after ask s) × Reports (AnswersTaken (is_right (taken_by ask s)) (is_why (taken_by ask s)) refuses P) (Err (widened stop)) out out)
taken-stopped is_right is_why P ask known left stop out reads =
    IfKnown-weaker known left _ (λ s l. AreShort s → (l ≡ after ask s) × Reports (AnswersTaken (is_right (taken_by ask s)) (is_why (taken_by ask s)) refuses P) (Err (widened stop)) out out) reads (λ s l h short.
    let taken = h short in (taken.0, reports-none (is_right (taken_by ask s)) (is_why (taken_by ask s)) P stop out taken.1))
