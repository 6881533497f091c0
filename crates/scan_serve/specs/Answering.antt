-- What answers requests, one after the other.
use Rattle.std.specs.Prelude.{◌≡◌, ◌≢◌, ℕ, ◌<◌, ◌≤◌, ◌⊎◌, List, [], ◌∷◌, ◌++◌, length, drop, Option, All}
use Rattle.std.specs.Io.KnownBytes.{Appends}
use Rattle.scan_wire.specs.declared.fault.Cause.{Cause}
use Rattle.scan_wire.specs.Causes.{BeginsWithFrame, HasCause, Waits}
use Rattle.scan_wire.specs.Faults.{cause_number}
use Rattle.scan_wire.specs.Frames.{IsRequest, replies_text, requests_text}
use Rattle.scan_wire.specs.Messages.{Refused, ReplyParts, RequestParts}
use Rattle.scan_serve.specs.Sending.{Sends, SendsPrefix, SendsLess}

-- how one request is answered: state before, request, replies, state after
abbrev pub Step : Type 0 → Type 1
Step S = S → RequestParts → List ReplyParts → S → Type 0

-- requests answered one after the other
abbrev pub Run : {S : Type 0} → Step S → S → List RequestParts → List ReplyParts → S → Type 0
Run {S} step s [] replies t = (replies ≡ []) × (t ≡ s)
Run {S} step s (r ∷ rs) replies t =
    (first : List ReplyParts) × (others : List ReplyParts) × (mid : S)
    × (replies ≡ first ++ others) × step s r first mid × Run step mid rs others t

-- a request was answered, and its replies wait or are written
pub record Answered {S : Type 0} (step : Step S) (old new : S) (r : RequestParts) (written_old written_new : Option (List ℕ)) (before after : List ℕ) : Type 0 where
  pub replies : List ReplyParts
  pub is_step : step old r replies new
  pub sent : Sends written_old written_new before after (replies_text replies)

-- a request was answered, and of the bytes that waited and of its replies not all are written
pub record IsCut {S : Type 0} (step : Step S) (old : S) (r : RequestParts) (written_old written_new : Option (List ℕ)) (before : List ℕ) : Type 0 where
  pub replies : List ReplyParts
  pub new : S
  pub is_step : step old r replies new
  pub sent : SendsLess written_old written_new before (replies_text replies)

-- answering a request stopped: before anything was written, or in its replies
abbrev pub Stopped : {S : Type 0} → Step S → S → RequestParts → Option (List ℕ) → Option (List ℕ) → List ℕ → Type 0
Stopped step old r written_old written_new before = Appends written_old written_new [] ⊎ IsCut step old r written_old written_new before

-- the requests whose text stands from one place to another were answered, and their replies wait or are written
pub record AnswersAll {S : Type 0} (step : Step S) (old new : S) (text : List ℕ) (from to : ℕ) (written_old written_new : Option (List ℕ)) (before after : List ℕ) : Type 0 where
  pub requests : List RequestParts
  pub replies : List ReplyParts
  pub are_requests : All IsRequest requests
  pub within : to ≤ length text
  pub text_is : drop from text ≡ requests_text requests ++ drop to text
  pub run : Run step old requests replies new
  pub sent : Sends written_old written_new before after (replies_text replies)

-- Some requests stand from a place on, and a prefix of their replies is written: not all of them, or a frame follows
-- that is not answered.
pub record AnswersPrefix {S : Type 0} (step : Step S) (old : S) (text : List ℕ) (from : ℕ) (written_old written_new : Option (List ℕ)) (before : List ℕ) : Type 0 where
  pub requests : List RequestParts
  pub replies : List ReplyParts
  pub rest : List ℕ
  pub new : S
  pub are_requests : All IsRequest requests
  pub text_is : drop from text ≡ requests_text requests ++ rest
  pub run : Run step old requests replies new
  pub sent : SendsPrefix written_old written_new before (replies_text replies)
  pub missed : (sent.lost ≢ []) ⊎ BeginsWithFrame rest

-- the refusal of a bad frame
abbrev pub bad_frame : Cause → ReplyParts
bad_frame cause = Refused 0 11 (cause_number cause)

-- a text is requests and a rest; the requests were answered; their replies are written, then the last replies
pub record AnswersText {S : Type 0} (step : Step S) (old new : S) (written_old written_new : Option (List ℕ)) (text rest : List ℕ) (last : List ReplyParts) : Type 0 where
  pub requests : List RequestParts
  pub replies : List ReplyParts
  pub are_requests : All IsRequest requests
  pub text_is : text ≡ requests_text requests ++ rest
  pub run : Run step old requests replies new
  pub written : Appends written_old written_new (replies_text (replies ++ last))

-- nothing, or the refusal of the bad frame that a text begins with
abbrev pub IsLast : List ReplyParts → List ℕ → Type 0
IsLast last rest = (last ≡ []) ⊎ ((cause : Cause) × HasCause cause rest × (last ≡ bad_frame cause ∷ []))

-- A text is requests and a rest, and a prefix of the requests' replies is written, after which the refusal of a bad
-- frame counts as one: not all of them, or the rest begins with a frame that is not answered.
pub record AnswersTextPrefix {S : Type 0} (step : Step S) (old : S) (written_old written_new : Option (List ℕ)) (text : List ℕ) : Type 0 where
  pub requests : List RequestParts
  pub replies : List ReplyParts
  pub last : List ReplyParts
  pub rest : List ℕ
  pub new : S
  pub are_requests : All IsRequest requests
  pub text_is : text ≡ requests_text requests ++ rest
  pub run : Run step old requests replies new
  pub is_last : IsLast last rest
  pub written : SendsPrefix written_old written_new [] (replies_text (replies ++ last))
  pub missed : (written.lost ≢ []) ⊎ ((last ≡ []) × BeginsWithFrame rest)

-- all is written, and the rest waits for more
pub record GoesOn {S : Type 0} (step : Step S) (old new : S) (written_old written_new : Option (List ℕ)) (text rest : List ℕ) : Type 0 where
  pub waits : Waits rest
  pub short : length rest < 65545
  pub answers : AnswersText step old new written_old written_new text rest []

-- all is written, and the refusal of the bad frame that the rest begins with, for this cause
pub record MeetsBad {S : Type 0} (step : Step S) (old new : S) (written_old written_new : Option (List ℕ)) (text rest : List ℕ) (cause : Cause) : Type 0 where
  pub has_cause : HasCause cause rest
  pub answers : AnswersText step old new written_old written_new text rest (bad_frame cause ∷ [])
