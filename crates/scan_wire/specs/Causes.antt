-- When the bytes at the start of a text are a bad frame, and why; when they are not yet a frame.
use Rattle.std.specs.Prelude.{◌≡◌, ◌≢◌, ℕ, ◌^◌, ◌<◌, ◌≤◌, List, ◌∷◌, ◌++◌, ⊤}
use Rattle.scan_wire.specs.declared.fault.Cause.{Cause}
use Rattle.scan_wire.specs.declared.fault.Cause.TheVariants.{Length, Kind, Stream, Payload}
use Rattle.scan_wire.specs.declared.fault.Fault.{Fault}
use Rattle.scan_wire.specs.declared.fault.Fault.TheVariants.{OutOfMemory, BadFrame}
use Rattle.lit_base.specs.Flags.{flags_of}
use Rattle.lit_base.specs.declared.fold.Fold.{Fold}
use Rattle.lit_base.specs.declared.profile.Profile.{Profile}
use Rattle.scan_wire.specs.Frames.{FrameParts, frame_text, IsFrame, IsRequest, request_frame, request_text}
use Rattle.scan_wire.specs.Messages.{RequestParts}
use Rattle.scan_wire.specs.Numbers.{u16_text, u32_text}

-- a length that a frame may have: kind and stream, and a payload of at most 65,536 bytes
pub record IsFrameLen (n : ℕ) : Type 0 where
  pub least : 5 ≤ n
  pub most : n ≤ 65541

-- a kind of requests
pub record IsRequestKind (kind : ℕ) : Type 0 where
  pub least : 0x01 ≤ kind
  pub most : kind ≤ 0x05

-- a frame begins with a length that no frame may have
pub record HasBadLength (text : List ℕ) : Type 0 where
  pub len : ℕ
  pub rest : List ℕ
  pub four_bytes : len < 2 ^ 32
  pub text_is : text ≡ u32_text len ++ rest
  pub out_of_range : IsFrameLen len → ⊥

-- the fault of a whole frame: its kind; else a stream in a Publish; else no request has it
abbrev pub IsWrong : Cause → FrameParts → Type 0
IsWrong Length f = ⊥
IsWrong Kind f = IsRequestKind f.kind → ⊥
IsWrong Stream f = (f.kind ≡ 0x01) × (f.stream ≢ 0)
IsWrong Payload f =
    IsRequestKind f.kind × (f.kind ≡ 0x01 → f.stream ≡ 0)
    × ((r : RequestParts) → IsRequest r → request_frame r ≢ f)

-- a whole frame stands at the start, and this is wrong with it
pub record HasWrongFrame (cause : Cause) (text : List ℕ) : Type 0 where
  pub frame : FrameParts
  pub rest : List ℕ
  pub is_frame : IsFrame frame
  pub text_is : text ≡ frame_text frame ++ rest
  pub wrong : IsWrong cause frame

-- The cause for which a text begins with a bad frame. The length is judged once its four bytes are there, the others
-- once the frame is whole.
abbrev pub HasCause : Cause → List ℕ → Type 0
HasCause Length text = HasBadLength text
HasCause Kind text = HasWrongFrame Kind text
HasCause Stream text = HasWrongFrame Stream text
HasCause Payload text = HasWrongFrame Payload text

-- the text begins with a request's frame
pub record BeginsWithRequest (text : List ℕ) : Type 0 where
  pub request : RequestParts
  pub rest : List ℕ
  pub is_request : IsRequest request
  pub text_is : text ≡ request_text request ++ rest

-- no frame stands at the start, neither a request's nor a bad one: more bytes have to come
pub record Waits (text : List ℕ) : Type 0 where
  pub no_request : BeginsWithRequest text → ⊥
  pub no_cause : (cause : Cause) → HasCause cause text → ⊥

-- a whole frame stands at the start, whatever it carries
pub record BeginsWithFrame (text : List ℕ) : Type 0 where
  pub frame : FrameParts
  pub rest : List ℕ
  pub is_frame : IsFrame frame
  pub text_is : text ≡ frame_text frame ++ rest

-- a payload begins like the payload of a list with literals
pub record AnnouncesLiterals (payload : List ℕ) : Type 0 where
  pub fold : Fold
  pub profile : Profile
  pub count : ℕ
  pub rest : List ℕ
  pub some : 0 < count
  pub small : count < 2 ^ 16
  pub payload_is : payload ≡ flags_of fold profile ∷ (u16_text count ++ rest)

-- a Publish that announces literals: the only frame that takes memory while it is read
pub record TakesMemory (f : FrameParts) : Type 0 where
  pub publishes : f.kind ≡ 0x01
  pub stream : f.stream ≡ 0
  pub literals : AnnouncesLiterals f.payload

-- a frame that takes memory stands at the start
pub record BeginsWithList (text : List ℕ) : Type 0 where
  pub prefix : BeginsWithFrame text
  pub takes : TakesMemory prefix.frame

-- want of memory, or a bad frame whose cause has P
abbrev pub IfBadFrame : (Cause → Type 0) → Fault → Type 0
IfBadFrame P OutOfMemory = ⊤
IfBadFrame P (BadFrame cause) = P cause
