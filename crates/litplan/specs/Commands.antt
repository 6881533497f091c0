-- How a command ends, for any words.
use Rattle.std.specs.Prelude.{◌≡◌, ℕ, Bool, List, [], Option}
use Rattle.std.specs.Io.KnownBytes.{Appends}
use Rattle.byte_io.specs.Transfers.{Says}
use Rattle.byte_io.specs.Sources.{Sources}
use Rattle.plan_run.specs.declared.request.Request.{Request}
use Rattle.plan_run.specs.declared.status.Status.{Status}
use Rattle.plan_run.specs.declared.status.Status.TheVariants.{Trouble}
use Rattle.plan_run.specs.Messages.{out_of_memory}
use Rattle.plan_run.specs.Running.{Ends}
use Rattle.program_words.specs.declared.fault.Fault.{Fault}
use Rattle.program_words.specs.Words.{message_on}

-- some request was served, or the message on some words was said and nothing else was done
pub data EndsSomehow {O : Type 0} (written : O → Option (List ℕ)) (has_failed : O → Bool) (s left : Sources) (status : Status) (had_failed out_failed err_failed : Bool) (out_old out_new err_old err_new : Option (List ℕ)) : Type 0 where
  Served : (r : Request) → Ends written has_failed r s left status had_failed out_failed err_failed out_old out_new err_old err_new
      → EndsSomehow written has_failed s left status had_failed out_failed err_failed out_old out_new err_old err_new
  Unserved : (fault : Fault) → status ≡ Trouble → left ≡ s → out_failed ≡ had_failed → Appends out_old out_new []
      → Says err_failed err_old err_new (message_on out_of_memory fault)
      → EndsSomehow written has_failed s left status had_failed out_failed err_failed out_old out_new err_old err_new
