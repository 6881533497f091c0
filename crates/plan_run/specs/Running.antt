-- How a run ends, against what a request has to answer.
use Rattle.std.specs.Prelude.{◌≡◌, ℕ, Bool, true, false, List, [], ◌⊎◌, Option, Result, Ok, Err}
use Rattle.std.specs.Io.KnownBytes.{Appends}
use Rattle.byte_io.specs.Transfers.{AppendsPart, Says}
use Rattle.byte_io.specs.Sources.{AsksPrefix, Sources}
use Rattle.plan_pack.specs.Asking.{UnlessStarved}
use Rattle.plan_pack.specs.Messages.{message_on}
use Rattle.plan_pack.specs.declared.stop.Stop.{Stop as Halt}
use Rattle.plan_pack.specs.declared.stop.Stop.TheVariants.{OutOfMemory as Starving, Refused as Halted}
use Rattle.plan_pack.specs.declared.stop.Refusal.{Refusal}
use Rattle.plan_run.specs.declared.stop.Stop.{Stop}
use Rattle.plan_run.specs.declared.stop.Stop.TheVariants.{OutOfMemory, Refused, WriteFault}
use Rattle.plan_run.specs.Answers.{Answer, IsAnswerTo, IsLeftBy, reads_of, refused_with, where_wrong}
use Rattle.plan_run.specs.Messages.{out_of_memory, write_fault}
use Rattle.plan_run.specs.Stops.{is_starved, is_write}
use Rattle.plan_run.specs.declared.request.Request.{Request}
use Rattle.plan_run.specs.declared.status.Status.{Status}
use Rattle.plan_run.specs.declared.status.Status.TheVariants.{Trouble}

-- a run stopped at a write that failed
abbrev pub is_write_fault : {T : Type 0} → Result T Stop → Bool
is_write_fault (Ok _) = false
is_write_fault (Err stop) = is_write stop

-- a run stopped for want of memory
abbrev pub runs_out : Result Status Stop → Bool
runs_out (Ok _) = false
runs_out (Err stop) = is_starved stop

-- the message of a stop, or that there was no memory for it
abbrev pub SaysStop : Stop → Bool → Option (List ℕ) → Option (List ℕ) → Type 0
SaysStop (Refused refusal) has_failed old new = Says has_failed old new (message_on refusal) ⊎ Says has_failed old new out_of_memory
SaysStop WriteFault has_failed old new = Says has_failed old new write_fault
SaysStop OutOfMemory has_failed old new = Says has_failed old new out_of_memory

-- ---- the parts of a run

-- a text is written, and this is the status; or a prefix of it is, and not all of it
abbrev pub Writes : List ℕ → Status → Result Status Stop → Option (List ℕ) → Option (List ℕ) → Type 0
Writes text status (Ok answered) old new = (answered ≡ status) × Appends old new text
Writes text status (Err (Refused refusal)) old new = ⊥
Writes text status (Err WriteFault) old new = AppendsPart old new text
Writes text status (Err OutOfMemory) old new = AppendsPart old new text

-- the run went to the end of an answer for which P holds, with this status
pub record IsReported (P : Answer → Type 0) (status : Status) (out_old out_new : Option (List ℕ)) : Type 0 where
  pub answer : Answer
  pub right : P answer
  pub status_is : answer.status ≡ status
  pub silent : answer.message ≡ []
  pub output : Appends out_old out_new answer.output

-- a prefix of the output of an answer for which P holds was written, and not all of it
pub record IsPrefix (P : Answer → Type 0) (out_old out_new : Option (List ℕ)) : Type 0 where
  pub answer : Answer
  pub right : P answer
  pub output : AppendsPart out_old out_new answer.output

-- nothing was written, or a prefix of the output of an answer for which P holds, and not all of it
pub data IsUnfinished (P : Answer → Type 0) (out_old out_new : Option (List ℕ)) : Type 0 where
  Silent : Appends out_old out_new [] → IsUnfinished P out_old out_new
  Begun : IsPrefix P out_old out_new → IsUnfinished P out_old out_new

-- the output and the status of a run, where P has to hold of its answer
abbrev pub Reports : (Answer → Type 0) → Result Status Stop → Option (List ℕ) → Option (List ℕ) → Type 0
Reports P (Ok status) out_old out_new = IsReported P status out_old out_new
Reports P (Err (Refused refusal)) out_old out_new = P (refused_with (message_on refusal)) × Appends out_old out_new []
Reports P (Err WriteFault) out_old out_new = IsPrefix P out_old out_new
Reports P (Err OutOfMemory) out_old out_new = IsUnfinished P out_old out_new

-- what is written and answered at a stop where an input is explained
abbrev pub ReportsStop : Halt → Result Status Stop → Option (List ℕ) → Option (List ℕ) → Type 0
ReportsStop (Halted refusal) r old new = Reports (λ a. a ≡ where_wrong refusal) r old new
ReportsStop Starving r old new = (r ≡ Err OutOfMemory) × Appends old new []

-- ---- a run

-- What a run answers and writes before any message. If it makes a file, the device shows what was written, and whether
-- a write failed.
pub record Answers {O : Type 0} (written : O → Option (List ℕ)) (has_failed : O → Bool) (r : Request) (s left : Sources) (result : Result Status Stop) (out_old out_new : Option (List ℕ)) : Type 0 where
  pub asks : UnlessStarved (runs_out result) (IsLeftBy r s left) (reads_of r s) s left
  pub reports : Reports (IsAnswerTo written has_failed r s) result out_old out_new

-- How a run ends: with its answer, or with a refusal that there was no memory to say; at a write to standard output that
-- failed; or for want of memory, with no file made.
pub data Ends {O : Type 0} (written : O → Option (List ℕ)) (has_failed : O → Bool) (r : Request) (s left : Sources) (status : Status) (had_failed out_failed err_failed : Bool) (out_old out_new err_old err_new : Option (List ℕ)) : Type 0 where
  Whole : (a : Answer) → IsAnswerTo written has_failed r s a → out_failed ≡ had_failed → IsLeftBy r s left → a.status ≡ status → Appends out_old out_new a.output
      → Says err_failed err_old err_new a.message → Ends written has_failed r s left status had_failed out_failed err_failed out_old out_new err_old err_new
  Broken : out_failed ≡ true → status ≡ Trouble → IsLeftBy r s left → IsPrefix (IsAnswerTo written has_failed r s) out_old out_new
      → Says err_failed err_old err_new write_fault → Ends written has_failed r s left status had_failed out_failed err_failed out_old out_new err_old err_new
  Unsaid : (refusal : Refusal) → IsAnswerTo written has_failed r s (refused_with (message_on refusal)) → out_failed ≡ had_failed → IsLeftBy r s left → status ≡ Trouble
      → Appends out_old out_new [] → Says err_failed err_old err_new out_of_memory → Ends written has_failed r s left status had_failed out_failed err_failed out_old out_new err_old err_new
  Starved : out_failed ≡ had_failed → status ≡ Trouble → AsksPrefix (reads_of r s) s left → IsUnfinished (IsAnswerTo written has_failed r s) out_old out_new
      → Says err_failed err_old err_new out_of_memory → Ends written has_failed r s left status had_failed out_failed err_failed out_old out_new err_old err_new
