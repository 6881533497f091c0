-- From what a part answers under the names of a request to what the request has to answer.
use Rattle.std.proofs.Common.{◌≡◌, ℕ, Bool, List, [], ◌∷◌, Option, Result, subst}
use Rattle.std.specs.Global.{Global}
use Rattle.std.specs.Prelude.{String, string_bytes}
use Rattle.byte_io.specs.Devices.{IfKnown}
use Rattle.byte_io.specs.Sources.{AreShort, Ask, Named, Sources, ask_of}
use Rattle.byte_io.proofs.KnownLemmas.{IfKnown-weaker}
use Rattle.plan_pack.specs.Asking.{Asks}
use Rattle.plan_run.specs.declared.stop.Stop.{Stop}
use Rattle.plan_run.specs.Answers.{Answer, AnswersCheckPlan, AnswersExplain, AnswersExplainCertificate, AnswersExplainPlan}
use Rattle.plan_run.specs.Running.{Answers, Reports, runs_out}
use Rattle.plan_run.specs.declared.request.ExplainRequest.{ExplainRequest}
use Rattle.plan_run.specs.declared.request.Request.{Request}
use Rattle.plan_run.specs.declared.request.Request.TheVariants.{CheckPlan, Explain, ExplainCertificate, ExplainPlan}
use Rattle.plan_run.specs.declared.request.View.{View}
use Rattle.plan_run.specs.declared.status.Status.{Status}

-- what is asked for and answered under one name
of-name : {O : Type 0} (written : O → Option (List ℕ)) (has_failed : O → Bool) (request : Request) (asks : List ℕ → Sources → List Ask) (P : List ℕ → Sources → Answer → Type 0) (from name : List ℕ) (known left : Option Sources) (r : Result Status Stop) (old new : Option (List ℕ))
    → from ≡ name → ((s l : Sources) → Asks (runs_out r) (asks name s) s l → Reports (P name s) r old new → Answers written has_failed request s l r old new)
    → IfKnown known left (λ s l. AreShort s → Asks (runs_out r) (asks from s) s l × Reports (P from s) r old new)
    → IfKnown known left (λ s l. AreShort s → Answers written has_failed request s l r old new)
of-name written has_failed request asks P from name known left r old new same build answers =
    IfKnown-weaker known left _ (λ s l. AreShort s → Answers written has_failed request s l r old new) answers (λ s l h short.
    let t = h short in
    build s l (subst (λ n. Asks (runs_out r) (asks n s) s l) same t.0) (subst (λ n. Reports (P n s) r old new) same t.1))

pub check-plan-answers : {O : Type 0} (written : O → Option (List ℕ)) (has_failed : O → Bool) (file : String Global) (place : ℕ) (from : List ℕ) (known left : Option Sources) (r : Result Status Stop) (old new : Option (List ℕ))
    → from ≡ string_bytes file
    → IfKnown known left (λ s l. AreShort s → Asks (runs_out r) (ask_of from ∷ []) s l × Reports (AnswersCheckPlan from place s) r old new)
    → IfKnown known left (λ s l. AreShort s → Answers written has_failed (CheckPlan file place) s l r old new)
check-plan-answers written has_failed file place from known left r old new here answers =
    of-name written has_failed (CheckPlan file place) (λ n s. ask_of n ∷ []) (λ n s. AnswersCheckPlan n place s) from (string_bytes file) known left r old new here
    (λ s l asked reports. record { asks = asked; reports = reports }) answers

pub explain-answers : {O : Type 0} (written : O → Option (List ℕ)) (has_failed : O → Bool) (request : ExplainRequest) (known left : Option Sources) (r : Result Status Stop) (old new : Option (List ℕ))
    → IfKnown known left (λ s l. AreShort s → Asks (runs_out r) (ask_of (string_bytes request.file) ∷ []) s l × Reports (AnswersExplain request.reading request.profile request.view (string_bytes request.file) s) r old new)
    → IfKnown known left (λ s l. AreShort s → Answers written has_failed (Explain request) s l r old new)
explain-answers written has_failed request known left r old new answers =
    IfKnown-weaker known left _ (λ s l. AreShort s → Answers written has_failed (Explain request) s l r old new) answers (λ s l h short.
    let t = h short in
    record { asks = t.0; reports = t.1 })

pub explain-plan-answers : {O : Type 0} (written : O → Option (List ℕ)) (has_failed : O → Bool) (view : View) (file : String Global) (place : ℕ) (from : List ℕ) (known left : Option Sources) (r : Result Status Stop) (old new : Option (List ℕ))
    → from ≡ string_bytes file
    → IfKnown known left (λ s l. AreShort s → Asks (runs_out r) (ask_of from ∷ []) s l × Reports (AnswersExplainPlan view from place s) r old new)
    → IfKnown known left (λ s l. AreShort s → Answers written has_failed (ExplainPlan view file place) s l r old new)
explain-plan-answers written has_failed view file place from known left r old new here answers =
    of-name written has_failed (ExplainPlan view file place) (λ n s. ask_of n ∷ []) (λ n s. AnswersExplainPlan view n place s) from (string_bytes file) known left r old new here
    (λ s l asked reports. record { asks = asked; reports = reports }) answers

pub explain-certificate-answers : {O : Type 0} (written : O → Option (List ℕ)) (has_failed : O → Bool) (certificate : String Global) (from : List ℕ) (known left : Option Sources) (r : Result Status Stop) (old new : Option (List ℕ))
    → from ≡ string_bytes certificate
    → IfKnown known left (λ s l. AreShort s → Asks (runs_out r) (Named from ∷ []) s l × Reports (AnswersExplainCertificate from s) r old new)
    → IfKnown known left (λ s l. AreShort s → Answers written has_failed (ExplainCertificate certificate) s l r old new)
explain-certificate-answers written has_failed certificate from known left r old new here answers =
    of-name written has_failed (ExplainCertificate certificate) (λ n s. Named n ∷ []) (λ n s. AnswersExplainCertificate n s) from (string_bytes certificate) known left r old new here
    (λ s l asked reports. record { asks = asked; reports = reports }) answers
