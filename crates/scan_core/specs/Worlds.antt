-- The world of a store's sessions: the plans that were published, and each session with all bytes that its streams were
-- fed.
use Rattle.std.specs.Prelude.{◌≡◌, ◌≢◌, ℕ, ◌+◌, ◌<◌, ◌==◌, ◌&&◌, ◌↔◌, Bool, true, false, IsTrue, List, [], ◌∷◌, ◌++◌, Contains, length, fold, option_map, Option, Some, None, if◌then◌else◌}
use Rattle.std.specs.List.{concat}
use Rattle.std.specs.List.Sorted.{IsStrictlySortedBy}
use Rattle.lit_base.specs.Literals.{Literals}
use Rattle.lit_base.specs.Occurrences.{Occurs, hit_cmp}
use Rattle.lit_plan.specs.Plans as plans
use Rattle.scan_wire.specs.Messages.{RequestParts, ReplyParts, Publish, Open, Feed, Close, ShowPlan, Published, Opened, Hits, Fed, Closed, Plan, Refused}
use Rattle.scan_wire.specs.declared.message.TheConstants.{MAX_HITS}
use Rattle.scan_core.specs.Blocks.{AreBlocks}
use Rattle.scan_core.specs.Steps.{AgreeWith, Entry, IsSound, IsStep, Reading, SessionParts, fed_replies, new_session}

-- a stream as its client sees it: the number and the plan it was opened with, and all bytes fed since
pub record Streamed : Type 0 where
  pub number : ℕ
  pub plan : plans.Plan
  pub bytes : List ℕ

-- the hits in a text whose ends lie past a place: they strictly rise, and are exactly those occurrences
pub record AreHitsPast (l : Literals) (text : List ℕ) (from : ℕ) (hits : List (ℕ × ℕ)) : Type 0 where
  pub rising : IsStrictlySortedBy hit_cmp hits
  pub members : (place end : ℕ) → Contains hits (place, end) ↔ ((from < end) × Occurs l text place end)

-- a stream seen by all its bytes: a piece adds the hits of them all whose ends lie past the bytes before
abbrev pub by_bytes : Reading Streamed
by_bytes = record {
  opened_by = λ state. record { number = state.number; plan = state.plan };
  plan_of = λ state. state.plan;
  place_of = λ state. length state.bytes;
  Begins = λ entry state. state ≡ record { number = entry.number; plan = entry.plan; bytes = [] };
  Moves = λ state piece hits next.
      (next ≡ record state { bytes = state.bytes ++ piece }) × AreHitsPast state.plan.literals (state.bytes ++ piece) (length state.bytes) hits;
}

-- the entries that were published, and the sessions by their names
pub record World : Type 0 where
  pub entries : List Entry
  pub sessions : ℕ → SessionParts Streamed

-- a session's request with its replies
pub record Event : Type 0 where
  pub who : ℕ
  pub request : RequestParts
  pub replies : List ReplyParts

-- each number has one plan
abbrev pub HasOnePlan : List Entry → Type 0
HasOnePlan entries = (first second : Entry) → Contains entries first → Contains entries second → first.number ≡ second.number → first.plan ≡ second.plan

-- a world before any event: entries, one plan a number, and sessions that have published nothing and have no open
-- stream
pub record IsFirst (world : World) : Type 0 where
  pub sound : (entry : Entry) → Contains world.entries entry → IsSound entry.plan
  pub one_plan : HasOnePlan world.entries
  pub sessions : (name : ℕ) → world.sessions name ≡ new_session

-- whether a request is a Publish
abbrev pub is_publish : RequestParts → Bool
is_publish (Publish folding profile literals) = true
is_publish (Open stream number) = false
is_publish (Feed stream piece) = false
is_publish (Close stream) = false
is_publish (ShowPlan stream) = false

-- the entries after an event: what a Publish met is added, and has this plan wherever the number stands; what another
-- request met is there
abbrev pub MeetsEntries : Bool → Option Entry → List Entry → List Entry → Type 0
MeetsEntries publishes None old new = new ≡ old
MeetsEntries true (Some entry) old new = AgreeWith old entry × (new ≡ entry ∷ old)
MeetsEntries false (Some entry) old new = Contains old entry × (new ≡ old)

-- an event happens: it is a step of its session, and all others stay
pub record Happens (event : Event) (old new : World) : Type 0 where
  pub met : Option Entry
  pub step : IsStep by_bytes (old.sessions event.who) event.request record { replies = event.replies; met = met; after = new.sessions event.who }
  pub others : (name : ℕ) → name ≢ event.who → new.sessions name ≡ old.sessions name
  pub entries : MeetsEntries (is_publish event.request) met old.entries new.entries

-- events happen one after the other
abbrev pub Runs : World → List Event → World → Type 0
Runs old [] new = new ≡ old
Runs old (event ∷ events) new = (next : World) × Happens event old next × Runs next events new

-- whether the request was accepted: its first reply is no refusal
abbrev pub is_accepted : List ReplyParts → Bool
is_accepted [] = false
is_accepted (Published number ∷ replies) = true
is_accepted (Opened stream ∷ replies) = true
is_accepted (Hits stream hits ∷ replies) = true
is_accepted (Fed stream place ∷ replies) = true
is_accepted (Closed stream ∷ replies) = true
is_accepted (Plan stream fold profile count cost ends ∷ replies) = true
is_accepted (Refused stream code detail ∷ replies) = false

-- the number that a stream was last opened with, and the pieces that it was fed since
pub record Past : Type 0 where
  pub number : ℕ
  pub pieces : List (List ℕ)

-- one accepted request of the stream further
abbrev pub past_after : ℕ → RequestParts → Option Past → Option Past
past_after stream (Publish folding profile literals) past = past
past_after stream (Open other number) past = if other == stream then Some record { number = number; pieces = [] } else past
past_after stream (Feed other piece) past =
    if other == stream then option_map {T = Past} (λ p. record p { pieces = p.pieces ++ piece ∷ [] }) past else past
past_after stream (Close other) past = past
past_after stream (ShowPlan other) past = past

-- one event further
abbrev pub past_event : ℕ → ℕ → Option Past → Event → Option Past
past_event who stream past event =
    if (event.who == who) && is_accepted event.replies then past_after stream event.request past else past

-- of a session's stream, read off the events alone
abbrev pub past_of : ℕ → ℕ → List Event → Option Past
past_of who stream events = fold (past_event who stream) None events

-- the answer to a piece after a text: the hits that it adds, in blocks, and the place reached
pub record FedAnswer : Type 0 where
  pub blocks : List (List (ℕ × ℕ))
  pub place : ℕ

-- the answer to a piece, by the plan of its stream and the pieces before it
pub record IsAnswer (plan : plans.Plan) (pieces : List (List ℕ)) (piece : List ℕ) (answer : FedAnswer) : Type 0 where
  pub hits : List (ℕ × ℕ)
  pub past : AreHitsPast plan.literals (concat pieces ++ piece) (length (concat pieces)) hits
  pub cut : AreBlocks MAX_HITS hits answer.blocks
  pub reached : answer.place ≡ length (concat pieces) + length piece

-- an accepted Feed was answered by the plan under the number that the stream was last opened with, and the pieces that
-- it was fed since
pub record AnswersByPast (events : List Event) (entries : List Entry) (who stream : ℕ) (piece : List ℕ) (replies : List ReplyParts) : Type 0 where
  pub entry : Entry
  pub pieces : List (List ℕ)
  pub opened : past_of who stream events ≡ Some record { number = entry.number; pieces = pieces }
  pub published : Contains entries entry
  pub answer : FedAnswer
  pub replied : replies ≡ fed_replies stream answer.blocks answer.place
  pub right : IsAnswer entry.plan pieces piece answer

-- what holds of all runs from a first world
pub record WorldLaw : Type 0 where
  -- a number has one plan throughout
  pub one_plan : (first last : World) (events : List Event) → IsFirst first → Runs first events last → HasOnePlan last.entries
  -- an entry stays
  pub stays : (old new : World) (events : List Event) (entry : Entry) → Runs old events new → Contains old.entries entry → Contains new.entries entry
  -- the replies to an accepted Feed
  pub answers : (first old new : World) (events : List Event) (who stream : ℕ) (piece : List ℕ) (replies : List ReplyParts) → IsFirst first → Runs first events old → Happens record { who = who; request = Feed stream piece; replies = replies } old new → IsTrue (is_accepted replies) → AnswersByPast events old.entries who stream piece replies
  -- apart from the stream's number they are a function of the plan and the pieces alone
  pub one_answer : (plan : plans.Plan) (pieces : List (List ℕ)) (piece : List ℕ) (one other : FedAnswer) → IsAnswer plan pieces piece one → IsAnswer plan pieces piece other → one ≡ other
