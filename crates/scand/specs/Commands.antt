-- How a command ends, for any words.
use Rattle.std.specs.Prelude.{◌≡◌, ◌≢◌, ℕ, Bool, List, [], ◌++◌, Option, codes, decimal, true, ◌⊎◌}
use Rattle.std.specs.Io.KnownBytes.{Appends}
use Rattle.boxcar.specs.Table.{Shelves}
use Rattle.byte_io.specs.Devices.{Coming}
use Rattle.byte_io.specs.Sources.{Sources}
use Rattle.byte_io.specs.Transfers.{AppendsPart, Says}
use Rattle.plan_file.specs.declared.fault.Fault as plan_fault
use Rattle.plan_store.specs.Tickets as tickets
use Rattle.program_words.specs.declared.fault.Fault.{Fault}
use Rattle.program_words.specs.Words.{message_on}
use Rattle.scan_run.specs.declared.status.Status.{Status}
use Rattle.scan_run.specs.declared.status.Status.TheVariants.{Trouble}
use Rattle.scan_run.specs.Alone.{EndsAlone}
use Rattle.scan_run.specs.LoadingFiles.{LoadsEach, StopsLoading, names_of, state}
use Rattle.scan_run.specs.Messages.{out_of_memory, port_line}
use Rattle.scan_run.specs.Reports.{ReportsSome}
use Rattle.scand.specs.declared.words.Request.{Request}
use Rattle.scand.specs.declared.words.Service.{Service}
use Rattle.scand.specs.declared.words.Service.TheVariants.{Alone, Listen}

-- the message where a port cannot be listened on
abbrev pub cannot_listen : ℕ → List ℕ
cannot_listen port = codes "scand: cannot listen on port " ++ (decimal port ++ codes "\n")

-- the port is reported where the system chose it, and no other port is
abbrev pub ReportsPort : ℕ → Option (List ℕ) → Option (List ℕ) → Type 0
ReportsPort port err_old err_new =
    ((port ≡ 0) × (chosen : ℕ) × Appends err_old err_new (port_line chosen)) ⊎ ((port ≢ 0) × (err_new ≡ err_old))

-- The ends of this number of connections to a port were reported, once the port was reported. Or the message on why
-- there were none was written, and nothing else was done. Or the port that the system chose could not be written.
pub data ServesPort (port connections : ℕ) (status : Status) (out_failed err_failed : Bool) (out_old out_new err_old err_new : Option (List ℕ)) : Type 0 where
  Reported : (err_mid : Option (List ℕ)) (had_failed : Bool) → ReportsPort port err_old err_mid → ReportsSome connections status out_failed had_failed err_failed out_old out_new err_mid err_new
      → ServesPort port connections status out_failed err_failed out_old out_new err_old err_new
  Unreported : (chosen : ℕ) → port ≡ 0 → status ≡ Trouble → Appends out_old out_new [] → err_failed ≡ true → AppendsPart err_old err_new (port_line chosen)
      → ServesPort port connections status out_failed err_failed out_old out_new err_old err_new
  Unserved : status ≡ Trouble → Appends out_old out_new [] → Says err_failed err_old err_new (cannot_listen port) ⊎ Says err_failed err_old err_new out_of_memory
      → ServesPort port connections status out_failed err_failed out_old out_new err_old err_new

-- one client was served over a store, beside the loaded plans; or the ends of connections to a port were reported, and
-- nothing was read
abbrev pub Serves : Service → Shelves → List tickets.TicketParts → Status → Type 0 → Bool → Bool → Option Coming → Option Coming → Option (List ℕ) → Option (List ℕ) → Option (List ℕ) → Option (List ℕ) → Type 0
Serves Alone store loaded status read_fault out_failed err_failed coming_old coming_new out_old out_new err_old err_new =
    EndsAlone store loaded status read_fault out_failed coming_old coming_new out_old out_new × (err_new ≡ err_old)
Serves (Listen port connections) store loaded status read_fault out_failed err_failed coming_old coming_new out_old out_new err_old err_new =
    (coming_new ≡ coming_old) × ServesPort port connections.count status out_failed err_failed out_old out_new err_old err_new

-- A request was served over a store with the plans of the files that it names; or a file could not be loaded, or there
-- was no memory for a store, and nothing was served.
pub data Runs (request : Request) (status : Status) (files_old files_new : Option Sources) (read_fault : Type 0) (out_failed err_failed : Bool) (coming_old coming_new : Option Coming) (out_old out_new err_old err_new : Option (List ℕ)) : Type 0 where
  Served : (store : Shelves) (gained : List tickets.TicketParts) (err_mid : Option (List ℕ)) → LoadsEach store (names_of request.plans.items) (state files_old [] err_old) (state files_new gained err_mid)
      → Serves request.service store gained status read_fault out_failed err_failed coming_old coming_new out_old out_new err_mid err_new
      → Runs request status files_old files_new read_fault out_failed err_failed coming_old coming_new out_old out_new err_old err_new
  Unplanned : (store : Shelves) (gained : List tickets.TicketParts) (fault : plan_fault.Fault) → status ≡ Trouble → coming_new ≡ coming_old → Appends out_old out_new []
      → StopsLoading store (names_of request.plans.items) (state files_old [] err_old) (state files_new gained err_new) fault
      → Runs request status files_old files_new read_fault out_failed err_failed coming_old coming_new out_old out_new err_old err_new
  Starved : status ≡ Trouble → files_new ≡ files_old → coming_new ≡ coming_old → Appends out_old out_new [] → Says err_failed err_old err_new out_of_memory
      → Runs request status files_old files_new read_fault out_failed err_failed coming_old coming_new out_old out_new err_old err_new

-- some request ended so, or the message on some words was said and nothing else was done
pub data EndsSomehow (status : Status) (files_old files_new : Option Sources) (read_fault : Type 0) (out_failed err_failed : Bool) (coming_old coming_new : Option Coming) (out_old out_new err_old err_new : Option (List ℕ)) : Type 0 where
  Ran : (request : Request) → Runs request status files_old files_new read_fault out_failed err_failed coming_old coming_new out_old out_new err_old err_new
      → EndsSomehow status files_old files_new read_fault out_failed err_failed coming_old coming_new out_old out_new err_old err_new
  Unread : (fault : Fault) → status ≡ Trouble → files_new ≡ files_old → coming_new ≡ coming_old → Appends out_old out_new []
      → Says err_failed err_old err_new (message_on out_of_memory fault)
      → EndsSomehow status files_old files_new read_fault out_failed err_failed coming_old coming_new out_old out_new err_old err_new
