-- One event of a session: a request and its replies. A stream may be seen in two ways here: by the state of its
-- scanner, or by all bytes that it was fed.
use Rattle.std.specs.Prelude.{◌≡◌, ℕ, ◌+◌, ◌^◌, nat_eq, nat_le, List, [], ◌∷◌, ◌++◌, length, map, Contains, Option, Some, None, MatchOption, ◌⊎◌, is_some, if◌then◌else◌}
use Rattle.std.specs.Map.{lookup, remove_entry, set_value}
use Rattle.lit_base.specs.declared.fold.Fold.{Fold}
use Rattle.lit_base.specs.declared.profile.Profile.{Profile}
use Rattle.lit_base.specs.Literals.{IsNormal}
use Rattle.lit_base.specs.NormalForm.{normal_form}
use Rattle.lit_cert.specs.Certified.{IsCertified}
use Rattle.list_plan.specs.Planned.{IsPlanned}
use Rattle.lit_plan.specs.Plans as plans
use Rattle.scan_wire.specs.Messages.{RequestParts, ReplyParts, Publish, Open, Feed, Close, ShowPlan, Published, Opened, Hits, Fed, Closed, Plan, Refused}
use Rattle.scan_wire.specs.declared.message.TheConstants.{MAX_HITS}
use Rattle.scan_core.specs.declared.limits.TheConstants.{MAX_STREAMS}
use Rattle.scan_core.specs.declared.refusal.Refusal.{Refusal}
use Rattle.scan_core.specs.declared.refusal.Refusal.TheVariants.{StreamInUse, StreamQuota, NoSuchPlan, NoSuchStream, StreamTooLong}
use Rattle.scan_core.specs.Blocks.{AreBlocks}
use Rattle.scan_core.specs.Refusals.{code_of, detail_of, publish_refusal}

-- a plan that was published, and its number
pub record Entry : Type 0 where
  pub number : ℕ
  pub plan : plans.Plan

-- a plan that holds: literals in normal form, and a certificate of them
pub record IsSound (plan : plans.Plan) : Type 0 where
  pub normal : IsNormal plan.literals
  pub certified : IsCertified plan.literals plan.certificate

-- the plan of literals by a profile: their normal form, planned
pub record IsPlanOf (fold : Fold) (profile : Profile) (literals : List (List ℕ)) (plan : plans.Plan) : Type 0 where
  pub list : plan.literals ≡ record { folding = fold; texts = normal_form fold literals }
  pub planned : IsPlanned plan.literals profile plan.certificate

-- how the state of a stream is seen: the entry that it was opened by, its plan and its place, how it begins by an
-- entry, and with which hits a piece moves it on
pub record Reading (S : Type 0) : Type 1 where
  pub opened_by : S → Entry
  pub plan_of : S → plans.Plan
  pub place_of : S → ℕ
  pub Begins : Entry → S → Type 0
  pub Moves : S → List ℕ → List (ℕ × ℕ) → S → Type 0

-- a session: the entries that it published, and its open streams by their numbers, in order of opening
pub record SessionParts (S : Type 0) : Type 0 where
  pub published_plans : List Entry
  pub streams : List (ℕ × S)

-- a session that has published nothing and has no open stream
abbrev pub new_session : {S : Type 0} → SessionParts S
new_session {S} = record { published_plans = []; streams = [] }

-- the entries that a session knows: the entries that it published, and the entries that its open streams were opened by
abbrev pub known_entries : {S : Type 0} → Reading S → SessionParts S → List Entry
known_entries {S} reading s = s.published_plans ++ map (λ (stream : ℕ × S). reading.opened_by stream.1) s.streams

-- the outcome of a request: the replies, the entry that it met, if it met one, and the session after it
pub record Outcome (S : Type 0) : Type 0 where
  pub replies : List ReplyParts
  pub met : Option Entry
  pub after : SessionParts S

-- the state of the stream with a number, if it is open
abbrev pub stream_at : {S : Type 0} → ℕ → SessionParts S → Option S
stream_at number s = lookup (nat_eq number) s.streams

-- the stream a request names: 0 in a Publish
abbrev pub stream_of : RequestParts → ℕ
stream_of (Publish fold profile literals) = 0
stream_of (Open stream number) = stream
stream_of (Feed stream piece) = stream
stream_of (Close stream) = stream
stream_of (ShowPlan stream) = stream

-- the reply of a refusal
abbrev pub refused_reply : ℕ → Refusal → ReplyParts
refused_reply stream refusal = Refused stream (code_of refusal) (detail_of refusal)

-- the reply that shows the plan of a stream
abbrev pub plan_reply : ℕ → plans.Plan → ReplyParts
plan_reply stream plan = Plan stream plan.literals.folding plan.certificate.profile (length plan.literals.texts) plan.certificate.cost plan.certificate.ends

-- the replies with hits in blocks, and the place reached
abbrev pub fed_replies : ℕ → List (List (ℕ × ℕ)) → ℕ → List ReplyParts
fed_replies stream blocks place = map (Hits stream) blocks ++ Fed stream place ∷ []

-- a request is refused, and changes nothing
abbrev pub refused : {S : Type 0} → SessionParts S → RequestParts → Refusal → Outcome S
refused before request refusal = record { replies = refused_reply (stream_of request) refusal ∷ []; met = None; after = before }

-- an entry is published, and the session gets its number
abbrev pub published : {S : Type 0} → SessionParts S → Entry → Outcome S
published before entry = record {
  replies = Published entry.number ∷ [];
  met = Some entry;
  after = record before { published_plans = before.published_plans ++ entry ∷ [] };
}

-- a stream is opened by an entry
abbrev pub opened : {S : Type 0} → SessionParts S → ℕ → Entry → S → Outcome S
opened before stream entry state = record {
  replies = Opened stream ∷ [];
  met = Some entry;
  after = record before { streams = before.streams ++ (stream, state) ∷ [] };
}

-- a stream has moved on to a state, with hits in blocks
abbrev pub moved : {S : Type 0} → SessionParts S → ℕ → List (List (ℕ × ℕ)) → ℕ → S → Outcome S
moved before stream blocks place state = record {
  replies = fed_replies stream blocks place;
  met = None;
  after = record before { streams = set_value (nat_eq stream) before.streams state };
}

-- a stream is closed
abbrev pub closed : {S : Type 0} → SessionParts S → ℕ → Outcome S
closed before stream = record {
  replies = Closed stream ∷ [];
  met = None;
  after = record before { streams = remove_entry (nat_eq stream) before.streams };
}

-- the plan of a stream is shown
abbrev pub shown : {S : Type 0} → SessionParts S → ℕ → plans.Plan → Outcome S
shown before stream plan = record { replies = plan_reply stream plan ∷ []; met = None; after = before }

-- each of the entries with the number of one entry has the same plan
abbrev pub AgreeWith : List Entry → Entry → Type 0
AgreeWith entries entry = (other : Entry) → Contains entries other → other.number ≡ entry.number → other.plan ≡ entry.plan

-- a Publish that is not refused: an entry of the plan of its literals by its profile, with which those agree that the
-- session knows
pub record Publishes {S : Type 0} (reading : Reading S) (fold : Fold) (profile : Profile) (literals : List (List ℕ)) (before : SessionParts S) (outcome : Outcome S) : Type 0 where
  pub entry : Entry
  pub plan : IsPlanOf fold profile literals entry.plan
  pub sound : IsSound entry.plan
  pub agreed : AgreeWith (known_entries reading before) entry
  pub is : outcome ≡ published before entry

-- an Open that finds an entry of the number, with which those agree that the session knows
pub record Opens {S : Type 0} (reading : Reading S) (stream number : ℕ) (before : SessionParts S) (outcome : Outcome S) : Type 0 where
  pub entry : Entry
  pub state : S
  pub asked : entry.number ≡ number
  pub sound : IsSound entry.plan
  pub agreed : AgreeWith (known_entries reading before) entry
  pub begins : reading.Begins entry state
  pub is : outcome ≡ opened before stream entry state

-- an Open that finds none: the session did not publish the number, and has no stream open by it
pub record FindsNone {S : Type 0} (reading : Reading S) (stream number : ℕ) (before : SessionParts S) (outcome : Outcome S) : Type 0 where
  pub stranger : ¬ Contains (map (λ entry. entry.number) (known_entries reading before)) number
  pub is : outcome ≡ refused before (Open stream number) NoSuchPlan

-- a Feed of an open stream: the hits that its piece adds
pub record Feeds {S : Type 0} (reading : Reading S) (stream : ℕ) (piece : List ℕ) (state : S) (before : SessionParts S) (outcome : Outcome S) : Type 0 where
  pub hits : List (ℕ × ℕ)
  pub blocks : List (List (ℕ × ℕ))
  pub next : S
  pub moves : reading.Moves state piece hits next
  pub cut : AreBlocks MAX_HITS hits blocks
  pub is : outcome ≡ moved before stream blocks (reading.place_of state + length piece) next

-- the refusal that a request of a stream meets where the stream is not open, and else by its state
abbrev pub stream_refusal : {S : Type 0} → Option S → (S → Option Refusal) → Option Refusal
stream_refusal None refusal = Some NoSuchStream
stream_refusal (Some state) refusal = refusal state

-- the first refusal that a request meets, apart from the number that an Open asks for
abbrev pub refusal_of : {S : Type 0} → Reading S → SessionParts S → RequestParts → Option Refusal
refusal_of reading s (Publish fold profile literals) = publish_refusal (length s.published_plans) literals
refusal_of reading s (Open stream number) =
    if is_some (stream_at stream s) then Some StreamInUse
    else if nat_le MAX_STREAMS (length s.streams) then Some StreamQuota
    else None
refusal_of reading s (Feed stream piece) =
    stream_refusal (stream_at stream s) (λ state. if nat_le (2 ^ 64) (reading.place_of state + length piece) then Some StreamTooLong else None)
refusal_of reading s (Close stream) = stream_refusal (stream_at stream s) (λ state. None)
refusal_of reading s (ShowPlan stream) = stream_refusal (stream_at stream s) (λ state. None)

-- the outcome of a request that meets no refusal
abbrev pub IsAccepted : {S : Type 0} → Reading S → SessionParts S → RequestParts → Outcome S → Type 0
IsAccepted reading before (Publish fold profile literals) outcome = Publishes reading fold profile literals before outcome
IsAccepted reading before (Open stream number) outcome = Opens reading stream number before outcome ⊎ FindsNone reading stream number before outcome
IsAccepted {S} reading before (Feed stream piece) outcome = (state : S) × (stream_at stream before ≡ Some state) × Feeds reading stream piece state before outcome
IsAccepted reading before (Close stream) outcome = outcome ≡ closed before stream
IsAccepted {S} reading before (ShowPlan stream) outcome = (state : S) × (stream_at stream before ≡ Some state) × (outcome ≡ shown before stream (reading.plan_of state))

-- the outcome of a request: its first refusal, if it meets one
abbrev pub IsStep : {S : Type 0} → Reading S → SessionParts S → RequestParts → Outcome S → Type 0
IsStep reading before request outcome =
    MatchOption (refusal_of reading before request)
    (IsAccepted reading before request outcome)
    (λ refusal. outcome ≡ refused before request refusal)
