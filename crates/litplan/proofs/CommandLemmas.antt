-- The end of a command, from what its words ask for.
use Rattle.std.proofs.Common.{◌≡◌, ℕ, Bool, List, Option, refl}
use Rattle.std.proofs.KnownBytes.{Appends-nil}
use Rattle.byte_io.specs.Devices.{IfKnown}
use Rattle.byte_io.specs.Sources.{AreShort, Sources}
use Rattle.byte_io.specs.Transfers.{Says}
use Rattle.byte_io.proofs.KnownLemmas.{IfKnown-none, IfKnown-weaker}
use Rattle.plan_run.specs.declared.request.Request.{Request}
use Rattle.plan_run.specs.declared.status.Status.{Status}
use Rattle.plan_run.specs.declared.status.Status.TheVariants.{Trouble}
use Rattle.plan_run.specs.Messages.{out_of_memory}
use Rattle.plan_run.specs.Running.{Ends}
use Rattle.program_words.specs.declared.fault.Fault.{Fault}
use Rattle.program_words.specs.Words.{message_on}
use Rattle.litplan.specs.Commands.{EndsSomehow, Served, Unserved}

-- a request was served
pub served : {O : Type 0} (written : O → Option (List ℕ)) (has_failed : O → Bool) (r : Request) (known left : Option Sources) (status : Status) (had_failed out_failed err_failed : Bool) (out_old out_new err_old err_new : Option (List ℕ))
    → IfKnown known left (λ s l. AreShort s → Ends written has_failed r s l status had_failed out_failed err_failed out_old out_new err_old err_new)
    → IfKnown known left (λ s l. AreShort s → EndsSomehow written has_failed s l status had_failed out_failed err_failed out_old out_new err_old err_new)
served written has_failed r known left status had_failed out_failed err_failed out_old out_new err_old err_new p =
    IfKnown-weaker known left _ (λ s l. AreShort s → EndsSomehow written has_failed s l status had_failed out_failed err_failed out_old out_new err_old err_new) p (λ s l h short.
    Served r (h short))

-- a message was said alone
pub unserved : {O : Type 0} (written : O → Option (List ℕ)) (has_failed : O → Bool) (fault : Fault) (known : Option Sources) (status : Status) (out_failed err_failed : Bool) (out err_old err_new : Option (List ℕ)) → status ≡ Trouble
    → Says err_failed err_old err_new (message_on out_of_memory fault)
    → IfKnown known known (λ s l. AreShort s → EndsSomehow written has_failed s l status out_failed out_failed err_failed out out err_old err_new)
unserved written has_failed fault known status out_failed err_failed out err_old err_new trouble said =
    IfKnown-none known (λ s l. AreShort s → EndsSomehow written has_failed s l status out_failed out_failed err_failed out out err_old err_new) (λ s short.
    Unserved fault trouble refl refl (Appends-nil out) said)
