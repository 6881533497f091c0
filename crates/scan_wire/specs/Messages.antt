-- Requests and replies, as contracts see them: without where they lie in memory.
use Rattle.std.specs.Prelude.{ℕ, List, map, ⊤}
use Rattle.std.specs.Global.{Vec}
use Rattle.lit_base.specs.declared.fold.Fold.{Fold}
use Rattle.lit_base.specs.declared.profile.Profile.{Profile}
use Rattle.scan_wire.specs.declared.message.Request.{Request}
use Rattle.scan_wire.specs.declared.message.Request.TheVariants as request
use Rattle.scan_wire.specs.declared.message.Reply.{Reply}
use Rattle.scan_wire.specs.declared.message.Reply.TheVariants as reply
use Rattle.scan_wire.specs.declared.message.Borrowed.{Borrowed}
use Rattle.scan_wire.specs.declared.message.Borrowed.TheVariants as borrowed

-- what a client asks
pub data RequestParts : Type 0 where
  Publish : Fold → Profile → List (List ℕ) → RequestParts
  Open : ℕ → ℕ → RequestParts
  Feed : ℕ → List ℕ → RequestParts
  Close : ℕ → RequestParts
  ShowPlan : ℕ → RequestParts

-- a Feed: the only request whose bytes are copied when it gets its own
abbrev pub IsFeed : RequestParts → Type 0
IsFeed (Publish fold profile literals) = ⊥
IsFeed (Open stream number) = ⊥
IsFeed (Feed stream bytes) = ⊤
IsFeed (Close stream) = ⊥
IsFeed (ShowPlan stream) = ⊥

-- what the server answers
pub data ReplyParts : Type 0 where
  Published : ℕ → ReplyParts
  Opened : ℕ → ReplyParts
  Hits : ℕ → List (ℕ × ℕ) → ReplyParts
  Fed : ℕ → ℕ → ReplyParts
  Closed : ℕ → ReplyParts
  Plan : ℕ → Fold → Profile → ℕ → ℕ → List ℕ → ReplyParts
  Refused : ℕ → ℕ → ℕ → ReplyParts

-- the bytes of each literal
abbrev pub texts_of : List (Vec ℕ) → List (List ℕ)
texts_of literals = map (λ literal. literal.items) literals

-- a request that owns its bytes
abbrev pub request_parts : Request → RequestParts
request_parts (request.Publish fold profile literals) = Publish fold profile (texts_of literals.items)
request_parts (request.Open stream number) = Open stream number
request_parts (request.Feed stream bytes) = Feed stream bytes.items
request_parts (request.Close stream) = Close stream
request_parts (request.ShowPlan stream) = ShowPlan stream

-- a request whose piece lies where it was read
abbrev pub borrowed_parts : Borrowed → RequestParts
borrowed_parts (borrowed.Publish fold profile literals) = Publish fold profile (texts_of literals.items)
borrowed_parts (borrowed.Open stream number) = Open stream number
borrowed_parts (borrowed.Feed stream bytes) = Feed stream bytes.now
borrowed_parts (borrowed.Close stream) = Close stream
borrowed_parts (borrowed.ShowPlan stream) = ShowPlan stream

-- a reply
abbrev pub reply_parts : Reply → ReplyParts
reply_parts (reply.Published number) = Published number
reply_parts (reply.Opened stream) = Opened stream
reply_parts (reply.Hits stream hits) = Hits stream hits.items
reply_parts (reply.Fed stream place) = Fed stream place
reply_parts (reply.Closed stream) = Closed stream
reply_parts (reply.Plan stream fold profile count cost ends) = Plan stream fold profile count cost ends.items
reply_parts (reply.Refused stream code detail) = Refused stream code detail
