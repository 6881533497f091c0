-- How serving a stream ends.
use Rattle.std.specs.Prelude.{◌≢◌, ℕ, ◌<◌, ◌⊎◌, List, [], ◌∷◌, ◌++◌, length, Option}
use Rattle.std.specs.Io.KnownBytes.{Appends}
use Rattle.byte_io.specs.Devices.{Coming, EndsHere, Gives, IfKnown}
use Rattle.scan_wire.specs.declared.fault.Cause.{Cause}
use Rattle.scan_wire.specs.Causes.{HasCause, Waits}
use Rattle.scan_wire.specs.Messages.{ReplyParts}
use Rattle.scan_serve.specs.declared.ended.Ended.{Ended}
use Rattle.scan_serve.specs.declared.ended.Ended.TheVariants.{Clean, Truncated, Bad, ReadFault, WriteFault, OutOfMemory}
use Rattle.scan_serve.specs.Answering.{AnswersText, AnswersTextPrefix, Step, bad_frame}

-- The held bytes and the bytes that were read are requests and a rest. The requests were answered. All their replies
-- are written, then the last replies.
pub record IsServed {S : Type 0} (step : Step S) (old new : S) (coming_old coming_new : Option Coming) (written_old written_new : Option (List ℕ)) (held rest : List ℕ) (last : List ReplyParts) : Type 0 where
  pub bytes : List ℕ
  pub read : IfKnown coming_old coming_new (λ x y. Gives x y bytes)
  pub answers : AnswersText step old new written_old written_new (held ++ bytes) rest last

-- The bytes that were held and those that were read are requests and a rest, and a prefix of the replies is written. A
-- reply is missing, or a frame of the rest is not answered.
pub record IsServedPrefix {S : Type 0} (step : Step S) (old : S) (coming_old coming_new : Option Coming) (written_old written_new : Option (List ℕ)) (held : List ℕ) : Type 0 where
  pub bytes : List ℕ
  pub read : IfKnown coming_old coming_new (λ x y. Gives x y bytes)
  pub answers : AnswersTextPrefix step old written_old written_new (held ++ bytes)

-- nothing is read, and nothing is written
pub record IsUntouched (coming_old coming_new : Option Coming) (written_old written_new : Option (List ℕ)) : Type 0 where
  pub read : IfKnown coming_old coming_new (λ x y. Gives x y [])
  pub written : Appends written_old written_new []

-- the end is known to be clean
abbrev pub AtEnd : Option Coming → Option Coming → Type 0
AtEnd c d = IfKnown c d (λ _ y. EndsHere y)

-- What each ending says. Clean: nothing remains at the end. Truncated: the rest waits for more, at the end. Bad: the
-- rest has a cause, whose refusal is the last reply. Read fault: the rest waits for more. Write fault and want of
-- memory: something is not answered in full. Memory may also be refused before the first read.
abbrev pub EndsAs : {S : Type 0} → Step S → S → S → Option Coming → Option Coming → Option (List ℕ) → Option (List ℕ) → List ℕ → Ended → Type 0
EndsAs step old new c d v w held Clean = IsServed step old new c d v w held [] [] × AtEnd c d
EndsAs step old new c d v w held Truncated =
    (rest : List ℕ) × (rest ≢ []) × Waits rest × IsServed step old new c d v w held rest [] × AtEnd c d
EndsAs step old new c d v w held Bad =
    (rest : List ℕ) × (cause : Cause) × HasCause cause rest × IsServed step old new c d v w held rest (bad_frame cause ∷ [])
EndsAs step old new c d v w held ReadFault = (rest : List ℕ) × Waits rest × IsServed step old new c d v w held rest []
EndsAs step old new c d v w held WriteFault = IsServedPrefix step old c d v w held
EndsAs step old new c d v w held OutOfMemory = IsServedPrefix step old c d v w held ⊎ IsUntouched c d v w

-- the stream goes on: all is written, and the rest waits for more
pub record GoesOnServing {S : Type 0} (step : Step S) (old new : S) (coming_old coming_new : Option Coming) (written_old written_new : Option (List ℕ)) (held rest : List ℕ) : Type 0 where
  pub waits : Waits rest
  pub short : length rest < 65545
  pub served : IsServed step old new coming_old coming_new written_old written_new held rest []
