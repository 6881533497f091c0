-- A session beside plans that were published before it, known by their tickets.
use Rattle.std.specs.Prelude.{◌≡◌, ◌≢◌, ℕ, List, [], ◌∷◌, Contains, Some, map, ⊤}
use Rattle.std.specs.List.{slice_get}
use Rattle.plan_store.specs.Tickets.{TicketParts}
use Rattle.scan_wire.specs.Messages.{Close, Closed, Fed, Feed, Hits, Open, Opened, Plan, Publish, Published, Refused, ReplyParts, RequestParts, ShowPlan}
use Rattle.scan_core.specs.Sessions.{IsEvent, Serving}
use Rattle.scan_core.specs.Steps.{refused_reply}
use Rattle.scan_core.specs.Together.{AgreesWith}
use Rattle.scan_core.specs.declared.refusal.Refusal.TheVariants.{NoSuchPlan}

-- a number shows one plan, in these tickets and in a session
abbrev pub AgreeOn : List TicketParts → ℕ → Serving → Type 0
AgreeOn loaded number s = (place : ℕ) (ticket : TicketParts) → slice_get loaded place ≡ Some ticket → ticket.number ≡ number → AgreesWith ticket s

-- so does the number of a plan that was published
abbrev pub AgreeReplied : List TicketParts → List ReplyParts → Serving → Type 0
AgreeReplied loaded [] s = ⊤
AgreeReplied loaded (Published number ∷ replies) s = AgreeOn loaded number s
AgreeReplied loaded (Opened stream ∷ replies) s = ⊤
AgreeReplied loaded (Hits stream hits ∷ replies) s = ⊤
AgreeReplied loaded (Fed stream place ∷ replies) s = ⊤
AgreeReplied loaded (Closed stream ∷ replies) s = ⊤
AgreeReplied loaded (Plan stream fold profile count cost ends ∷ replies) s = ⊤
AgreeReplied loaded (Refused stream code detail ∷ replies) s = ⊤

-- the number of a plan that the session gains shows one plan
abbrev pub AgreeAfter : List TicketParts → RequestParts → List ReplyParts → Serving → Type 0
AgreeAfter loaded (Publish fold profile literals) replies after = AgreeReplied loaded replies after
AgreeAfter loaded (Open stream number) replies after = AgreeOn loaded number after
AgreeAfter loaded (Feed stream piece) replies after = ⊤
AgreeAfter loaded (Close stream) replies after = ⊤
AgreeAfter loaded (ShowPlan stream) replies after = ⊤

-- an Open of the number of a loaded plan is not answered that there is no such plan
abbrev pub FindsLoaded : List TicketParts → RequestParts → List ReplyParts → Type 0
FindsLoaded loaded (Publish fold profile literals) replies = ⊤
FindsLoaded loaded (Open stream number) replies =
    Contains (map (λ (ticket : TicketParts). ticket.number) loaded) number → replies ≢ refused_reply stream NoSuchPlan ∷ []
FindsLoaded loaded (Feed stream piece) replies = ⊤
FindsLoaded loaded (Close stream) replies = ⊤
FindsLoaded loaded (ShowPlan stream) replies = ⊤

-- A request is one event of a session. A plan that the session gains has no number of another loaded plan, and each
-- loaded plan is found.
pub record IsEventBeside (loaded : List TicketParts) (before : Serving) (request : RequestParts) (replies : List ReplyParts) (after : Serving) : Type 0 where
  pub event : IsEvent before request replies after
  pub agreed : AgreeAfter loaded request replies after
  pub found : FindsLoaded loaded request replies

-- ---- inside the crate: the session with the tickets

-- a session, and the tickets of the loaded plans
pub record Beside : Type 0 where
  pub session : Serving
  pub loaded : List TicketParts

-- a request is one event of the session, and the tickets stay
pub record IsStepBeside (before : Beside) (request : RequestParts) (replies : List ReplyParts) (after : Beside) : Type 0 where
  pub event : IsEventBeside before.loaded before.session request replies after.session
  pub kept : after.loaded ≡ before.loaded
