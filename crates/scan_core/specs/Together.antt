-- Two sessions of one store: that what they know fits into one world.
use Rattle.std.specs.Prelude.{◌≡◌, ◌≢◌, ℕ, List, [], ◌∷◌, ◌++◌, Contains, IfSome, map, Option, Some}
use Rattle.std.specs.List.{slice_get}
use Rattle.plan_store.specs.Tickets.{TicketParts}
use Rattle.scan_core.specs.Sessions.{Bound, Serving, entry_of}
use Rattle.scan_core.specs.Steps.{Entry, IsSound, IsStep, SessionParts}
use Rattle.scan_core.specs.Worlds.{Event, HasOnePlan, Runs, Streamed, World, by_bytes}

-- the tickets of a session: of the plans that it published, and of its open streams
abbrev pub tickets_of : Serving → List TicketParts
tickets_of s = s.published_plans ++ map (λ (stream : ℕ × Bound). stream.1.ticket) s.streams

-- the entries that its tickets show
abbrev pub known_to : Serving → List Entry
known_to s = map entry_of (tickets_of s)

-- with the same number, the two show the same plan
abbrev pub AreAgreed : TicketParts → TicketParts → Type 0
AreAgreed one other = one.number ≡ other.number → one.plan ≡ other.plan

-- a ticket agrees with each of a session
abbrev pub AgreesWith : TicketParts → Serving → Type 0
AgreesWith ticket s = (place : ℕ) (other : TicketParts) → slice_get (tickets_of s) place ≡ Some other → AreAgreed ticket other

-- each ticket of a session agrees with each of another
abbrev pub AgreeAll : Serving → Serving → Type 0
AgreeAll one other = (place : ℕ) (ticket : TicketParts) → slice_get (tickets_of one) place ≡ Some ticket → AgreesWith ticket other

-- each ticket of a session shows a plan that holds
abbrev pub ShowSound : Serving → Type 0
ShowSound s = (place : ℕ) (ticket : TicketParts) → slice_get (tickets_of s) place ≡ Some ticket → IsSound ticket.plan

-- a world before any event, with the given entries
abbrev pub world_of : List Entry → World
world_of entries = record { entries = entries; sessions = λ name. record { published_plans = []; streams = [] } }

-- an event over entries that stay: a step of its session that meets none but these, while all others stay
pub record IsMeeting (entries : List Entry) (event : Event) (old new : ℕ → SessionParts Streamed) : Type 0 where
  pub met : Option Entry
  pub step : IsStep by_bytes (old event.who) event.request record { replies = event.replies; met = met; after = new event.who }
  pub others : (name : ℕ) → name ≢ event.who → new name ≡ old name
  pub among : IfSome met (Contains entries)

-- such events, one after the other
abbrev pub Meet : List Entry → (ℕ → SessionParts Streamed) → List Event → (ℕ → SessionParts Streamed) → Type 0
Meet entries old [] new = new ≡ old
Meet entries old (event ∷ events) new = (next : ℕ → SessionParts Streamed) × IsMeeting entries event old next × Meet entries next events new

-- they are a run of one world, which ends with these sessions and no other entries
pub record IsOneRun (entries : List Entry) (old : ℕ → SessionParts Streamed) (events : List Event) (new : ℕ → SessionParts Streamed) : Type 0 where
  pub last : World
  pub runs : Runs record { entries = entries; sessions = old } events last
  pub ends : last.sessions ≡ new
  pub no_others : (entry : Entry) → Contains last.entries entry → Contains entries entry

-- events of sessions that each meet entries of one set, one plan a number, are a run of one world, in whatever order
-- they stand
abbrev pub TogetherLaw : Type 0
TogetherLaw = (entries : List Entry) (old new : ℕ → SessionParts Streamed) (events : List Event) → HasOnePlan entries → Meet entries old events new → IsOneRun entries old events new
