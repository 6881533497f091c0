-- The end of a run, from its answer and its message.
use Rattle.std.proofs.Common.{◌≡◌, ℕ, Bool, ◌||◌, inl, inr, List, Option, Ok, Err, refl, ◌∙◌}
use Rattle.std.proofs.Math.Bool.{or-false, or-true}
use Rattle.byte_io.specs.Devices.{IfKnown}
use Rattle.byte_io.specs.Sources.{AreShort, Sources}
use Rattle.byte_io.proofs.KnownLemmas.{IfKnown-weaker}
use Rattle.plan_pack.specs.Messages.{message_on}
use Rattle.plan_run.specs.declared.stop.Stop.{Stop}
use Rattle.plan_run.specs.declared.stop.Stop.TheVariants.{OutOfMemory, Refused, WriteFault}
use Rattle.plan_run.specs.Answers.{refused_with}
use Rattle.plan_run.specs.Running.{Answers, Broken, Ends, SaysStop, Starved, Unsaid, Whole, is_write_fault}
use Rattle.plan_run.specs.declared.request.Request.{Request}
use Rattle.plan_run.specs.declared.status.Status.{Status}
use Rattle.plan_run.specs.declared.status.Status.TheVariants.{Trouble}
use Rattle.byte_io.proofs.SayLemmas.{says-nothing}

-- a run with an answer says nothing
pub ends-printed : {O : Type 0} (written : O → Option (List ℕ)) (has_failed : O → Bool) (r : Request) (known left : Option Sources) (status : Status) (had_failed out_failed err_failed : Bool) (out_old out_new err : Option (List ℕ))
    → IfKnown known left (λ s l. AreShort s → Answers written has_failed r s l (Ok status) out_old out_new) → out_failed ≡ (had_failed || is_write_fault {T = Status} (Ok status))
    → IfKnown known left (λ s l. AreShort s → Ends written has_failed r s l status had_failed out_failed err_failed out_old out_new err err)
ends-printed written has_failed r known left status had_failed out_failed err_failed out_old out_new err p flag =
    IfKnown-weaker known left _ (λ s l. AreShort s → Ends written has_failed r s l status had_failed out_failed err_failed out_old out_new err err) p (λ s l h short.
    let a = h short in
    let t = a.reports in
    Whole t.answer t.right (flag ∙ or-false had_failed) a.asks t.status_is t.output (says-nothing err_failed err t.answer.message t.silent))

-- a run that stopped says why
ends-here : {O : Type 0} (written : O → Option (List ℕ)) (has_failed : O → Bool) (r : Request) (s l : Sources) (stop : Stop) (had_failed out_failed err_failed : Bool) (out_old out_new err_old err_new : Option (List ℕ))
    → Answers written has_failed r s l (Err stop) out_old out_new → out_failed ≡ (had_failed || is_write_fault {T = Status} (Err stop)) → SaysStop stop err_failed err_old err_new
    → Ends written has_failed r s l Trouble had_failed out_failed err_failed out_old out_new err_old err_new
ends-here written has_failed r s l (Refused refusal) had_failed out_failed err_failed out_old out_new err_old err_new a flag (inl said) =
    Whole (refused_with (message_on refusal)) a.reports.0 (flag ∙ or-false had_failed) a.asks refl a.reports.1 said
ends-here written has_failed r s l (Refused refusal) had_failed out_failed err_failed out_old out_new err_old err_new a flag (inr said) =
    Unsaid refusal a.reports.0 (flag ∙ or-false had_failed) a.asks refl a.reports.1 said
ends-here written has_failed r s l WriteFault had_failed out_failed err_failed out_old out_new err_old err_new a flag said =
    Broken (flag ∙ or-true had_failed) refl a.asks a.reports said
ends-here written has_failed r s l OutOfMemory had_failed out_failed err_failed out_old out_new err_old err_new a flag said =
    Starved (flag ∙ or-false had_failed) refl a.asks a.reports said

pub ends-stopped : {O : Type 0} (written : O → Option (List ℕ)) (has_failed : O → Bool) (r : Request) (known left : Option Sources) (stop : Stop) (had_failed out_failed err_failed : Bool) (out_old out_new err_old err_new : Option (List ℕ))
    → IfKnown known left (λ s l. AreShort s → Answers written has_failed r s l (Err stop) out_old out_new) → out_failed ≡ (had_failed || is_write_fault {T = Status} (Err stop))
    → SaysStop stop err_failed err_old err_new
    → IfKnown known left (λ s l. AreShort s → Ends written has_failed r s l Trouble had_failed out_failed err_failed out_old out_new err_old err_new)
ends-stopped written has_failed r known left stop had_failed out_failed err_failed out_old out_new err_old err_new p flag said =
    IfKnown-weaker known left _ (λ s l. AreShort s → Ends written has_failed r s l Trouble had_failed out_failed err_failed out_old out_new err_old err_new) p (λ s l h short.
    ends-here written has_failed r s l stop had_failed out_failed err_failed out_old out_new err_old err_new (h short) flag said)
