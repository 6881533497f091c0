-- The reports on connections that have ended.
use Rattle.std.specs.Prelude.{◌≡◌, ℕ, ◌+◌, ◌<◌, ◌≤◌, ◌⊎◌, Bool, true, false, All, List, [], ◌∷◌, ◌++◌, Option, Some, None, codes, decimal, length}
use Rattle.std.specs.Io.KnownBytes.{Appends}
use Rattle.byte_io.specs.Transfers.{AppendsPart, SaysOrFails}
use Rattle.scan_serve.specs.declared.ended.Ended.{Ended}
use Rattle.scan_serve.specs.declared.ended.Ended.TheVariants as ended
use Rattle.scan_run.specs.declared.status.Status.{Status}
use Rattle.scan_run.specs.declared.status.Status.TheVariants.{Clean, Unclean, Trouble}
use Rattle.scan_run.specs.Messages.{accept_fault, out_of_memory}

-- the word for how a connection ended; none where its thread could not be started
abbrev pub word_of : Option Ended → List ℕ
word_of None = codes "not-served"
word_of (Some ended.Clean) = codes "clean"
word_of (Some ended.Truncated) = codes "truncated"
word_of (Some ended.Bad) = codes "bad"
word_of (Some ended.ReadFault) = codes "read-fault"
word_of (Some ended.WriteFault) = codes "write-fault"
word_of (Some ended.OutOfMemory) = codes "out-of-memory"

-- the line of a connection
abbrev pub line_text : ℕ → List ℕ → List ℕ
line_text number word = codes "connection " ++ (decimal number ++ (codes " " ++ (word ++ codes "\n")))

-- the lines of connections, counted from a number on
abbrev pub lines_from : ℕ → List (Option Ended) → List ℕ
lines_from number [] = []
lines_from number (ended ∷ endings) = line_text number (word_of ended) ++ lines_from (number + 1) endings

-- the status of connections: clean where all ended cleanly, and else unclean
abbrev pub IsStatusOf : List (Option Ended) → Status → Type 0
IsStatusOf endings status =
    ((status ≡ Clean) × All (λ e. e ≡ Some ended.Clean) endings) ⊎ ((status ≡ Unclean) × ¬ All (λ e. e ≡ Some ended.Clean) endings)

-- All lines are written, and then a fault of accepting, where there was one. Or a write of the lines failed; or there
-- was no memory for them, though there are some.
pub data Reports (endings : List (Option Ended)) (accept_failed : Bool) (status : Status) (out_failed err_had_failed err_failed : Bool) (out_old out_new err_old err_new : Option (List ℕ)) : Type 0 where
  Written : accept_failed ≡ false → IsStatusOf endings status → Appends out_old out_new (lines_from 1 endings) → Appends err_old err_new []
      → Reports endings accept_failed status out_failed err_had_failed err_failed out_old out_new err_old err_new
  Faulty : accept_failed ≡ true → status ≡ Trouble → Appends out_old out_new (lines_from 1 endings) → SaysOrFails err_had_failed err_failed err_old err_new accept_fault
      → Reports endings accept_failed status out_failed err_had_failed err_failed out_old out_new err_old err_new
  Broken : out_failed ≡ true → status ≡ Trouble → AppendsPart out_old out_new (lines_from 1 endings) → Appends err_old err_new []
      → Reports endings accept_failed status out_failed err_had_failed err_failed out_old out_new err_old err_new
  Starved : 0 < length endings → status ≡ Trouble → Appends out_old out_new [] → SaysOrFails err_had_failed err_failed err_old err_new out_of_memory
      → Reports endings accept_failed status out_failed err_had_failed err_failed out_old out_new err_old err_new

-- The ends of connections were reported: as many as were asked for, or at most as many where accepting failed. That they
-- are the ends of the connections that were served is by reading.
pub record ReportsSome (connections : ℕ) (status : Status) (out_failed err_had_failed err_failed : Bool) (out_old out_new err_old err_new : Option (List ℕ)) : Type 0 where
  pub endings : List (Option Ended)
  pub accept_failed : Bool
  pub few : length endings ≤ connections
  pub all : accept_failed ≡ false → length endings ≡ connections
  pub reported : Reports endings accept_failed status out_failed err_had_failed err_failed out_old out_new err_old err_new
