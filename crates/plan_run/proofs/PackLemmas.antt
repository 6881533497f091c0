-- A plan file that is made: from the file of plans to what a request has to answer.
use Rattle.std.proofs.Common.{◌≡◌, ℕ, Bool, false, cond, List, [], Option, None, Some, IfSome, Result, Ok, Err, inl, inr, refl, sym, ap, subst, ◌∙◌}
use Rattle.std.proofs.KnownBytes.{Appends-nil}
use Rattle.std.specs.Prelude.{map, string_bytes}
use Rattle.std.specs.Option.{option_or}
use Rattle.byte_io.specs.Devices.{IfKnown}
use Rattle.byte_io.specs.Sources.{AreShort, Sources, after_all, can_create}
use Rattle.byte_io.proofs.KnownLemmas.{IfKnown-weaker}
use Rattle.plan_pack.specs.Asking.{AsksAfterReads, pack_asks, pack_reads}
use Rattle.lit_base.specs.declared.profile.Profile.{Profile}
use Rattle.plan_pack.specs.Lists.{ArePlansOf, plan_messages}
use Rattle.plan_pack.specs.Messages.{message_on, unusable}
use Rattle.plan_pack.specs.Packing.{LeavesPack, Other, Own, PacksFiles}
use Rattle.plan_pack.specs.Stops.{Explains, is_refusal, is_starved as halts}
use Rattle.plan_pack.specs.declared.notation.Reading.{Reading}
use Rattle.plan_pack.specs.declared.stop.Stop.{Stop as Halt}
use Rattle.plan_pack.specs.declared.stop.Stop.TheVariants.{OutOfMemory as Starving, Refused as Halted}
use Rattle.plan_run.specs.declared.stop.Stop.{Stop}
use Rattle.plan_run.specs.Answers.{Answer, AnswersPack, AnswersUnless, Cut, IsPackAnswer, Packed, Unmade, pack_message, refused_with}
use Rattle.plan_run.specs.Running.{Answers, Reports, runs_out}
use Rattle.plan_run.specs.Stops.{is_starved, widened}
use Rattle.plan_run.specs.declared.request.PackRequest.{PackRequest}
use Rattle.plan_run.specs.declared.request.Request.TheVariants.{Pack}
use Rattle.plan_run.specs.declared.status.Status.{Status}
use Rattle.plan_run.specs.declared.status.Status.TheVariants.{Done}
use Rattle.plan_run.proofs.AnswerLemmas.{reports-reason, reports-silent, reports-text, reports-unless, unless-widened}

-- of a plan file that was made
reports-packed : {O : Type 0} (written : O → Option (List ℕ)) (has_failed : O → Bool) (reading : Reading) (profile : Profile) (names : List (List ℕ)) (output : List ℕ) (s left : Sources) (made : O) (out : Option (List ℕ))
    → has_failed made ≡ false → PacksFiles written reading profile names output s left (Ok made)
    → Reports (AnswersPack written has_failed reading profile names output s) (Ok Done) out out
reports-packed written has_failed reading profile names output s left made out whole (Own stop own refused why same is) = absurd (cc)
reports-packed written has_failed reading profile names output s left made out whole (Other other makes) =
    let answer = IsPackAnswer written has_failed (ArePlansOf reading profile names s) output (can_create output s.creatable) in
    let none : pack_message reading names output s ≡ None = ap (λ b. cond b (Some (unusable output)) (plan_messages reading names s)) other ∙ makes.0 in
    reports-unless (pack_message reading names output s) answer (Ok Done) out out none
    (reports-text answer [] Done (Ok Done) out out (Packed makes.2.plans made makes.2.right makes.1 makes.2.holds whole refl) (refl, Appends-nil out))

pub pack-printed : {O : Type 0} (written : O → Option (List ℕ)) (has_failed : O → Bool) (reading : Reading) (profile : Profile) (names : List (List ℕ)) (output : List ℕ) (known left : Option Sources) (made : O)
    → has_failed made ≡ false
    → IfKnown known left (λ s l. AreShort s → AsksAfterReads false (pack_asks reading names output s) (pack_reads reading names output s) s l × PacksFiles written reading profile names output s l (Ok made))
    → IfKnown known left (λ s l. AreShort s → AsksAfterReads false (pack_asks reading names output s) (pack_reads reading names output s) s l × ((out : Option (List ℕ)) → Reports (AnswersPack written has_failed reading profile names output s) (Ok Done) out out))
pack-printed written has_failed reading profile names output known left made whole packs =
    IfKnown-weaker known left _ (λ s l. AreShort s → AsksAfterReads false (pack_asks reading names output s) (pack_reads reading names output s) s l × ((out : Option (List ℕ)) → Reports (AnswersPack written has_failed reading profile names output s) (Ok Done) out out)) packs (λ s l h short.
    let p = h short in
    (p.0, λ out. reports-packed written has_failed reading profile names output s l made out whole p.1))

-- what is answered where this is the message on the files of patterns
abbrev IsReportedOf : {O : Type 0} → (O → Option (List ℕ)) → (O → Bool) → Reading → Profile → List (List ℕ) → List ℕ → Sources → Option (List ℕ) → Answer → Type 0
IsReportedOf written has_failed reading profile names output s message =
    AnswersUnless message (IsPackAnswer written has_failed (ArePlansOf reading profile names s) output (can_create output s.creatable))

-- a file that is not made, or not whole, has its message where nothing comes before
reports-cut : {O : Type 0} (written : O → Option (List ℕ)) (has_failed : O → Bool) (reading : Reading) (profile : Profile) (names : List (List ℕ)) (output : List ℕ) (s left : Sources) (message : Option (List ℕ)) (stop : Halt) (begun : Option O) (out : Option (List ℕ))
    → message ≡ plan_messages reading names s → Explains stop (option_or message (Some (unusable output))) → LeavesPack written reading profile [] names output s left stop begun
    → IfSome begun (λ made. has_failed made ≡ is_refusal stop)
    → Reports (IsReportedOf written has_failed reading profile names output s message) (Err (widened stop)) out out
reports-cut written has_failed reading profile names output s left message Starving begun out same why leaves broken = reports-silent (IsReportedOf written has_failed reading profile names output s message) out
reports-cut written has_failed reading profile names output s left (Some text) (Halted refusal) begun out same why leaves broken =
    (ap refused_with (cc), Appends-nil out)
reports-cut written has_failed reading profile names output s left None (Halted refusal) (Some made) out same why leaves broken =
    let text : message_on refusal ≡ unusable output = (cc) in
    (Cut leaves.2.plans made leaves.2.right leaves.1 leaves.2.holds broken (ap refused_with text), Appends-nil out)
reports-cut written has_failed reading profile names output s left None (Halted refusal) None out same why (inl kept) broken = absurd (cc)
reports-cut written has_failed reading profile names output s left None (Halted refusal) None out same why (inr cannot) broken =
    let text : message_on refusal ≡ unusable output = (cc) in
    (Unmade cannot.0 (ap refused_with text), Appends-nil out)

reports-unpacked : {O : Type 0} (written : O → Option (List ℕ)) (has_failed : O → Bool) (reading : Reading) (profile : Profile) (names : List (List ℕ)) (output : List ℕ) (s left : Sources) (stopped : Halt × Option O) (out : Option (List ℕ))
    → IfSome stopped.1 (λ made. has_failed made ≡ is_refusal stopped.0) → PacksFiles written reading profile names output s left (Err stopped)
    → Reports (AnswersPack written has_failed reading profile names output s) (Err (widened stopped.0)) out out
reports-unpacked written has_failed reading profile names output s left stopped out broken (Own stop own refused why same is) =
    let stop_is : stop ≡ stopped.0 = (cc) in
    let message : pack_message reading names output s ≡ Some (unusable output) = ap (λ b. cond b (Some (unusable output)) (plan_messages reading names s)) own in
    subst (λ x. Reports (AnswersPack written has_failed reading profile names output s) (Err (widened x)) out out) stop_is
    (reports-reason (pack_message reading names output s) (IsPackAnswer written has_failed (ArePlansOf reading profile names s) output (can_create output s.creatable)) stop out
    (subst (λ m. Explains stop m) (sym message) why))
reports-unpacked written has_failed reading profile names output s left stopped out broken (Other other makes) =
    let message : pack_message reading names output s ≡ plan_messages reading names s = ap (λ b. cond b (Some (unusable output)) (plan_messages reading names s)) other in
    subst (λ m. Reports (IsReportedOf written has_failed reading profile names output s m) (Err (widened stopped.0)) out out) (sym message)
    (reports-cut written has_failed reading profile names output s left (plan_messages reading names s) stopped.0 stopped.1 out refl makes.0 makes.1 broken)

pub pack-unwritten : {O : Type 0} (written : O → Option (List ℕ)) (has_failed : O → Bool) (reading : Reading) (profile : Profile) (names : List (List ℕ)) (output : List ℕ) (known left : Option Sources) (stopped : Halt × Option O) (stop : Halt)
    → stop ≡ stopped.0 → IfSome stopped.1 (λ made. has_failed made ≡ is_refusal stopped.0)
    → IfKnown known left (λ s l. AreShort s → AsksAfterReads (halts stopped.0) (pack_asks reading names output s) (pack_reads reading names output s) s l × PacksFiles written reading profile names output s l (Err stopped))
    → IfKnown known left (λ s l. AreShort s → AsksAfterReads (is_starved (widened stop)) (pack_asks reading names output s) (pack_reads reading names output s) s l × ((out : Option (List ℕ)) → Reports (AnswersPack written has_failed reading profile names output s) (Err (widened stop)) out out))
pack-unwritten {O} written has_failed reading profile names output known left stopped stop same broken packs =
    IfKnown-weaker known left _ (λ s l. AreShort s → AsksAfterReads (is_starved (widened stop)) (pack_asks reading names output s) (pack_reads reading names output s) s l × ((out : Option (List ℕ)) → Reports (AnswersPack written has_failed reading profile names output s) (Err (widened stop)) out out)) packs (λ s l h short.
    let p = h short in (
      subst (λ x. AsksAfterReads (is_starved (widened x)) (pack_asks reading names output s) (pack_reads reading names output s) s l) (sym same)
          (unless-widened stopped.0 (l ≡ after_all (pack_asks reading names output s) s) (pack_reads reading names output s) s l p.0),
      λ out. subst (λ x. Reports (AnswersPack written has_failed reading profile names output s) (Err (widened x)) out out) (sym same) (reports-unpacked written has_failed reading profile names output s l stopped out broken p.1),
    ))

-- the answer and the asks are right for the request
pub pack-answers : {O : Type 0} (written : O → Option (List ℕ)) (has_failed : O → Bool) (request : PackRequest) (known left : Option Sources) (r : Result Status Stop) (out : Option (List ℕ))
    → IfKnown known left (λ s l. AreShort s → AsksAfterReads (runs_out r) (pack_asks request.reading (map string_bytes request.files.names.items) (string_bytes request.output) s)
    (pack_reads request.reading (map string_bytes request.files.names.items) (string_bytes request.output) s) s l
    × ((old : Option (List ℕ)) → Reports (AnswersPack written has_failed request.reading request.profile (map string_bytes request.files.names.items) (string_bytes request.output) s) r old old))
    → IfKnown known left (λ s l. AreShort s → Answers written has_failed (Pack request) s l r out out)
pack-answers written has_failed request known left r out answers =
    IfKnown-weaker known left _ (λ s l. AreShort s → Answers written has_failed (Pack request) s l r out out) answers (λ s l h short.
    let t = h short in
    record { asks = t.0; reports = t.1 out })
