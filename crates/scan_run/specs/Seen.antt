-- A served session, seen by all bytes that its streams were fed.
use Rattle.std.specs.Prelude.{List, Option}
use Rattle.scan_wire.specs.Messages.{ReplyParts, RequestParts}
use Rattle.scan_core.specs.Steps.{Entry, IsStep, SessionParts}
use Rattle.scan_core.specs.Worlds.{Streamed, by_bytes}

-- a request is one step of the session, with these replies
abbrev pub IsStepByBytes : SessionParts Streamed → RequestParts → List ReplyParts → SessionParts Streamed → Type 0
IsStepByBytes before request replies after =
    (met : Option Entry) × IsStep by_bytes before request record { replies = replies; met = met; after = after }
