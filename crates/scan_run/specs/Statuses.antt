-- The status of a run.
use Rattle.std.specs.Prelude.{ℕ}
use Rattle.scan_serve.specs.declared.ended.Ended.{Ended}
use Rattle.scan_serve.specs.declared.ended.Ended.TheVariants as ended
use Rattle.scan_run.specs.declared.status.Status.{Status}
use Rattle.scan_run.specs.declared.status.Status.TheVariants.{Clean, Unclean, OutOfMemory, Trouble}

-- the number that the program exits with
abbrev pub code_of : Status → ℕ
code_of Clean = 0
code_of Unclean = 1
code_of OutOfMemory = 1
code_of Trouble = 2

-- clean is what ended cleanly; want of memory has a status of its own, with the same code
abbrev pub status_of : Ended → Status
status_of ended.Clean = Clean
status_of ended.Truncated = Unclean
status_of ended.Bad = Unclean
status_of ended.ReadFault = Unclean
status_of ended.WriteFault = Unclean
status_of ended.OutOfMemory = OutOfMemory
