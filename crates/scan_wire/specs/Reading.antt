-- Requests read from the start of a text.
use Rattle.std.specs.Prelude.{◌≡◌, ◌≢◌, ℕ, ◌+◌, ◌^◌, ◌<◌, ◌≤◌, List, ◌++◌, length, drop, map, All}
use Rattle.std.specs.List.{flat_map}
use Rattle.lit_base.specs.declared.fold.Fold.{Fold}
use Rattle.lit_base.specs.declared.profile.Profile.{Profile}
use Rattle.scan_wire.specs.declared.message.Request.{Request}
use Rattle.scan_wire.specs.declared.frames.Frame.{Frame}
use Rattle.scan_wire.specs.Frames.{AreLiterals, FrameParts, IsFrame, IsRequest, frame_text, list_text, literal_text, request_text, requests_text}
use Rattle.scan_wire.specs.Messages.{RequestParts, request_parts}

-- what a frame that was read carries
abbrev pub parts_of : Frame → FrameParts
parts_of f = record { kind = f.kind; stream = f.stream; payload = f.payload.now }

-- a whole frame stands at the start
pub record StartsWithFrame (text : List ℕ) (f : FrameParts) : Type 0 where
  pub is_frame : IsFrame f
  pub within : 9 + length f.payload ≤ length text
  pub text_is : text ≡ frame_text f ++ drop (9 + length f.payload) text

-- the first `len` bytes of the text are the request's frame
pub record StartsWith (text : List ℕ) (r : RequestParts) (len : ℕ) : Type 0 where
  pub is_request : IsRequest r
  pub some : 0 < len
  pub within : len ≤ length text
  pub text_is : text ≡ request_text r ++ drop len text

-- the text from one place to another is the text of the requests that the list gains
pub record GainsRequests (text : List ℕ) (from to : ℕ) (before after : List Request) : Type 0 where
  pub gained : List Request
  pub list : after ≡ before ++ gained
  pub are_requests : All (λ r. IsRequest (request_parts r)) gained
  pub within : to ≤ length text
  pub text_is : drop from text ≡ requests_text (map request_parts gained) ++ drop to text

-- no list of literals has this payload
abbrev pub NoList : List ℕ → Type 0
NoList payload = (fold : Fold) (profile : Profile) (literals : List (List ℕ)) → AreLiterals literals → payload ≢ list_text fold profile literals

-- no whole literal stands at the start
abbrev pub NoLiteral : List ℕ → Type 0
NoLiteral bytes = (literal rest : List ℕ) → length literal < 2 ^ 16 → bytes ≢ literal_text literal ++ rest

-- the bytes are `count` literals
pub record AreRead (count : ℕ) (bytes : List ℕ) (literals : List (List ℕ)) : Type 0 where
  pub are_literals : AreLiterals literals
  pub count_is : length literals ≡ count
  pub text_is : bytes ≡ flat_map literal_text literals

-- the bytes are not `count` literals
abbrev pub NoLiterals : ℕ → List ℕ → Type 0
NoLiterals count bytes = (literals : List (List ℕ)) → AreRead count bytes literals → ⊥
