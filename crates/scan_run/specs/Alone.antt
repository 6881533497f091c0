-- A run that serves one stream.
use Rattle.std.specs.Prelude.{◌≡◌, ℕ, ◌+◌, ◌^◌, ◌≤◌, ◌⊎◌, Bool, IsTrue, List, [], Option}
use Rattle.byte_io.specs.Devices.{Coming}
use Rattle.boxcar.specs.Table.{Shelves}
use Rattle.plan_store.specs.Tickets.{TicketParts}
use Rattle.scan_serve.specs.declared.ended.Ended.{Ended}
use Rattle.scan_serve.specs.declared.ended.Ended.TheVariants as ending
use Rattle.scan_serve.specs.Serving.{EndsAs}
use Rattle.scan_core.specs.Sessions.{Serving, fresh}
use Rattle.scan_run.specs.Beside.{IsEventBeside}
use Rattle.scan_run.specs.declared.status.Status.{Status}
use Rattle.scan_run.specs.Statuses.{status_of}

-- a read of a device may have failed: its flag is set, or it gave so many bytes that reading stopped
abbrev pub MayHaveFailed : Bool → ℕ → ℕ → Type 0
MayHaveFailed failed given_old given_new = IsTrue failed ⊎ (given_old + 2 ^ 40 ≤ given_new)

-- A stream was served as a session of the store, beside the loaded plans, and the status says how it ended. A fault is
-- how it ended only where a read or a write may have failed.
pub record EndsAlone (store : Shelves) (loaded : List TicketParts) (status : Status) (read_fault : Type 0) (out_failed : Bool) (coming_old coming_new : Option Coming) (out_old out_new : Option (List ℕ)) : Type 0 where
  pub after : Serving
  pub ended : Ended
  pub ends : EndsAs (IsEventBeside loaded) (fresh store) after coming_old coming_new out_old out_new [] ended
  pub unread : ended ≡ ending.ReadFault → read_fault
  pub unwritten : ended ≡ ending.WriteFault → IsTrue out_failed
  pub reported : status ≡ status_of ended
