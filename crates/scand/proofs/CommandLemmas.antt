-- The end of a command, from its messages.
use Rattle.std.proofs.Common.{◌≡◌, ℕ, Bool, Global, List, Option, Result, Ok, Err, IfOk, MatchResult, inl, inr, ap, subst, ◌∙◌, string_bytes}
use Rattle.std.proofs.KnownBytes.{Appends-nil}
use Rattle.std.specs.declared.string.String.{String}
use Rattle.byte_io.specs.Transfers.{Says}
use Rattle.program_words.specs.declared.fault.Fault.{Fault}
use Rattle.program_words.specs.declared.fault.Fault.TheVariants.{OutOfMemory, Usage}
use Rattle.scan_run.specs.declared.status.Status.{Status}
use Rattle.scan_run.specs.declared.status.Status.TheVariants.{Trouble}
use Rattle.program_words.specs.Words.{message_on}
use Rattle.scan_run.specs.Messages.{out_of_memory}
use Rattle.scand.specs.Commands.{ServesPort, Unserved, cannot_listen}

-- that a port cannot be listened on was said, or that there was no memory for the message
pub unserved : {E : Type 0} (port connections : ℕ) (status : Status) (out_failed err_failed : Bool) (out err_old err_new : Option (List ℕ)) (text : Result (String Global) E) (fault : Fault)
    → IfOk text (λ t. string_bytes t ≡ cannot_listen port) → MatchResult text (λ t. fault ≡ Usage t) (λ _. fault ≡ OutOfMemory)
    → status ≡ Trouble → Says err_failed err_old err_new (message_on out_of_memory fault)
    → ServesPort port connections status out_failed err_failed out out err_old err_new
unserved port connections status out_failed err_failed out err_old err_new (Ok t) fault is made trouble said =
    Unserved trouble (Appends-nil out) (inl (subst (λ (x : List ℕ). Says err_failed err_old err_new x) (ap (message_on out_of_memory) made ∙ is) said))
unserved port connections status out_failed err_failed out err_old err_new (Err e) fault is made trouble said =
    Unserved trouble (Appends-nil out) (inr (subst (λ (x : List ℕ). Says err_failed err_old err_new x) (ap (message_on out_of_memory) made) said))
