-- A session seen by the state of its scanners, and the same session seen by all bytes that its streams were fed.
use Rattle.std.specs.Prelude.{◌≡◌, ℕ, List, [], ◌∷◌, length}
use Rattle.lit_plan.specs.Bounds.{HasBounds, carry_of}
use Rattle.flow_scan.specs.Tails.{last_bytes}
use Rattle.scan_wire.specs.Messages.{RequestParts}
use Rattle.scan_core.specs.Sessions.{Bound, by_tails}
use Rattle.scan_core.specs.Steps.{IsStep, Outcome, SessionParts}
use Rattle.scan_core.specs.Worlds.{Streamed, by_bytes}

-- a stream was opened by the entry of the ticket; its scan is at the end of all bytes that it was fed, and has as many
-- of the last of them as its plan asks for
pub record IsCarried (state : Bound) (stream : Streamed) : Type 0 where
  pub opened_by : by_bytes.opened_by stream ≡ by_tails.opened_by state
  pub plan : stream.plan ≡ state.scan.plan
  pub bounds : HasBounds state.scan.plan.literals
  pub place : state.scan.place ≡ length stream.bytes
  pub tail : state.scan.tail ≡ last_bytes (carry_of state.scan.plan.literals) stream.bytes

-- so are all streams, one by one
abbrev pub AreCarried : List (ℕ × Bound) → List (ℕ × Streamed) → Type 0
AreCarried [] [] = Unit {0}
AreCarried [] (s ∷ ss) = ⊥
AreCarried (b ∷ bs) [] = ⊥
AreCarried (b ∷ bs) (s ∷ ss) = (b.0 ≡ s.0) × IsCarried b.1 s.1 × AreCarried bs ss

-- the same session, seen both ways
pub record IsSeen (tails : SessionParts Bound) (bytes : SessionParts Streamed) : Type 0 where
  pub published_plans : bytes.published_plans ≡ tails.published_plans
  pub streams : AreCarried tails.streams bytes.streams

-- the session after a request, seen by bytes, and that the request is a step to it
pub record IsEventOf (tails : Outcome Bound) (bytes : SessionParts Streamed) (request : RequestParts) : Type 0 where
  pub after : SessionParts Streamed
  pub seen : IsSeen tails.after after
  pub step : IsStep by_bytes bytes request record { replies = tails.replies; met = tails.met; after = after }

-- a step that a session takes by what its scanners keep, it takes by all bytes
abbrev pub EventLaw : Type 0
EventLaw = (tails : SessionParts Bound) (bytes : SessionParts Streamed) (request : RequestParts) (outcome : Outcome Bound) → IsSeen tails bytes → IsStep by_tails tails request outcome → IsEventOf outcome bytes request
