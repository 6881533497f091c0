-- What a contract sees of a `Session`: its store, the tickets of the plans that it published, and its open streams as
-- their tickets and the state of their scanners.
use Rattle.std.specs.Prelude.{◌≡◌, ℕ, List, [], ◌++◌, All, map, Option, IfSome}
use Rattle.boxcar.specs.Table.{Shelves}
use Rattle.plan_store.specs.Tickets.{IsOf, TicketParts}
use Rattle.flow_scan.specs.Scanners.{Scanning, fed, started}
use Rattle.flow_scan.specs.Tails.{AreAdded}
use Rattle.scan_wire.specs.Messages.{RequestParts, ReplyParts, reply_parts}
use Rattle.scan_wire.specs.declared.message.Reply.{Reply}
use Rattle.scan_core.specs.Steps.{Entry, IsStep, Reading, SessionParts}

-- an open stream: the ticket of its plan, and its scan
pub record Bound : Type 0 where
  pub ticket : TicketParts
  pub scan : Scanning

-- a session: its store, the tickets of the plans that it published, and its open streams by their numbers
pub record Serving : Type 0 where
  pub store : Shelves
  pub published_plans : List TicketParts
  pub streams : List (ℕ × Bound)

-- a session of a store that has published nothing and has no open stream
abbrev pub fresh : Shelves → Serving
fresh store = record { store = store; published_plans = []; streams = [] }

-- the entry that a ticket shows
abbrev pub entry_of : TicketParts → Entry
entry_of ticket = record { number = ticket.number; plan = ticket.plan }

-- the session, with the entries of its tickets
abbrev pub parts_of : Serving → SessionParts Bound
parts_of s = record { published_plans = map entry_of s.published_plans; streams = s.streams }

-- a stream as its scanner keeps it: it begins at place 0 by the plan of its ticket, and a piece adds hits after its
-- tail
abbrev pub by_tails : Reading Bound
by_tails = record {
  opened_by = λ state. entry_of state.ticket;
  plan_of = λ state. state.scan.plan;
  place_of = λ state. state.scan.place;
  Begins = λ entry state. (entry_of state.ticket ≡ entry) × (state.scan ≡ started entry.plan 0);
  Moves = λ state piece hits next.
      (next ≡ record state { scan = fed state.scan piece }) × AreAdded state.scan.plan.literals state.scan.tail piece state.scan.place hits;
}

-- an open stream is scanned by the plan of its ticket, which is of the store
pub record IsBound (store : Shelves) (state : Bound) : Type 0 where
  pub here : IsOf store state.ticket
  pub plan : state.scan.plan ≡ state.ticket.plan

-- what a session keeps: all its tickets are of its store
pub record IsServing (s : Serving) : Type 0 where
  pub published_plans : All (IsOf s.store) s.published_plans
  pub streams : All (λ stream. IsBound s.store stream.1) s.streams

-- and its finder, if it has one, is by the plan of a ticket of its store
pub record IsSession (s : Serving) (finder : Option TicketParts) : Type 0 where
  pub serving : IsServing s
  pub own : IfSome finder (IsOf s.store)

-- a request is one step of the session, with these replies
pub record IsEvent (before : Serving) (request : RequestParts) (replies : List ReplyParts) (after : Serving) : Type 0 where
  pub met : Option Entry
  pub step : IsStep by_tails (parts_of before) request record { replies = replies; met = met; after = parts_of after }
  pub store : after.store ≡ before.store

-- replies, as contracts see them
abbrev pub replies_of : List Reply → List ReplyParts
replies_of replies = map reply_parts replies

-- a list of replies has gained the replies of an event, at its end
pub record GainsEvent (before : Serving) (request : RequestParts) (old new : List Reply) (after : Serving) : Type 0 where
  pub replies : List ReplyParts
  pub grown : replies_of new ≡ replies_of old ++ replies
  pub event : IsEvent before request replies after
