-- Frames, and the one spelling of each request and each reply.
use Rattle.std.specs.Prelude.{ℕ, ◌+◌, ◌^◌, ◌<◌, ◌≤◌, List, [], ◌∷◌, ◌++◌, length, All, ⊤}
use Rattle.std.specs.List.{flat_map}
use Rattle.lit_base.specs.Flags.{flags_of}
use Rattle.lit_base.specs.declared.fold.Fold.{Fold}
use Rattle.lit_base.specs.declared.profile.Profile.{Profile}
use Rattle.scan_wire.specs.Messages.{RequestParts, Publish, Open, Feed, Close, ShowPlan, ReplyParts, Published, Opened, Hits, Fed, Closed, Plan, Refused}
use Rattle.scan_wire.specs.Numbers.{u16_text, u32_text, u64_text}

-- what a frame carries
pub record FrameParts : Type 0 where
  pub kind : ℕ
  pub stream : ℕ
  pub payload : List ℕ

-- the length of what follows it, then kind, stream and payload
abbrev pub frame_text : FrameParts → List ℕ
frame_text f = u32_text (5 + length f.payload) ++ (f.kind ∷ (u32_text f.stream ++ f.payload))

-- what fits a frame: a kind of one byte, a stream of four, a payload of at most 65,536
pub record IsFrame (f : FrameParts) : Type 0 where
  pub kind : f.kind < 2 ^ 8
  pub stream : f.stream < 2 ^ 32
  pub payload : length f.payload ≤ 65536

-- a literal: its length in two bytes, and its bytes
abbrev pub literal_text : List ℕ → List ℕ
literal_text literal = u16_text (length literal) ++ literal

-- the payload of a Publish: fold and profile, number of literals, and the literals
abbrev pub list_text : Fold → Profile → List (List ℕ) → List ℕ
list_text fold profile literals = flags_of fold profile ∷ (u16_text (length literals) ++ flat_map literal_text literals)

-- the frame of a request
abbrev pub request_frame : RequestParts → FrameParts
request_frame (Publish fold profile literals) = record { kind = 0x01; stream = 0; payload = list_text fold profile literals }
request_frame (Open stream number) = record { kind = 0x02; stream = stream; payload = u64_text number }
request_frame (Feed stream bytes) = record { kind = 0x03; stream = stream; payload = bytes }
request_frame (Close stream) = record { kind = 0x04; stream = stream; payload = [] }
request_frame (ShowPlan stream) = record { kind = 0x05; stream = stream; payload = [] }

-- a list of literals whose number and lengths fit two bytes
pub record AreLiterals (literals : List (List ℕ)) : Type 0 where
  pub count : length literals < 2 ^ 16
  pub lengths : All (λ literal. length literal < 2 ^ 16) literals

-- the numbers of a request's payload are within their fields
abbrev pub HasFields : RequestParts → Type 0
HasFields (Publish fold profile literals) = AreLiterals literals
HasFields (Open stream number) = number < 2 ^ 64
HasFields (Feed stream bytes) = ⊤
HasFields (Close stream) = ⊤
HasFields (ShowPlan stream) = ⊤

-- what can be asked in one frame
pub record IsRequest (r : RequestParts) : Type 0 where
  pub fields : HasFields r
  pub frame : IsFrame (request_frame r)

-- the text of a request
abbrev pub request_text : RequestParts → List ℕ
request_text r = frame_text (request_frame r)

-- the text of requests, one after the other
abbrev pub requests_text : List RequestParts → List ℕ
requests_text rs = flat_map request_text rs

-- a hit: its literal's place, and its end
abbrev pub hit_text : ℕ × ℕ → List ℕ
hit_text hit = u16_text hit.0 ++ u64_text hit.1

-- the frame of a reply
abbrev pub reply_frame : ReplyParts → FrameParts
reply_frame (Published number) = record { kind = 0x11; stream = 0; payload = u64_text number }
reply_frame (Opened stream) = record { kind = 0x12; stream = stream; payload = [] }
reply_frame (Hits stream hits) = record { kind = 0x13; stream = stream; payload = u16_text (length hits) ++ flat_map hit_text hits }
reply_frame (Fed stream place) = record { kind = 0x14; stream = stream; payload = u64_text place }
reply_frame (Closed stream) = record { kind = 0x15; stream = stream; payload = [] }
reply_frame (Plan stream fold profile count cost ends) = record {
  kind = 0x16;
  stream = stream;
  payload = flags_of fold profile ∷ (u16_text count ++ (u64_text cost ++ (length ends ∷ flat_map u16_text ends)));
}
reply_frame (Refused stream code detail) = record { kind = 0x17; stream = stream; payload = code ∷ u16_text detail }

-- the text of a reply
abbrev pub reply_text : ReplyParts → List ℕ
reply_text r = frame_text (reply_frame r)

-- the text of replies, one after the other
abbrev pub replies_text : List ReplyParts → List ℕ
replies_text rs = flat_map reply_text rs

-- a number of hits in one reply: 1 to 4,096
pub record IsBlock (count : ℕ) : Type 0 where
  pub some : 1 ≤ count
  pub few : count ≤ 4096

-- a Hits reply has 1 to 4,096 hits
abbrev pub FitsReply : ReplyParts → Type 0
FitsReply (Published number) = ⊤
FitsReply (Opened stream) = ⊤
FitsReply (Hits stream hits) = IsBlock (length hits)
FitsReply (Fed stream place) = ⊤
FitsReply (Closed stream) = ⊤
FitsReply (Plan stream fold profile count cost ends) = ⊤
FitsReply (Refused stream code detail) = ⊤
