-- What a contract sees of a decoder, and what a piece of the stream does to it.
use Rattle.std.specs.Prelude.{◌≡◌, ℕ, List, ◌++◌, All, map, Option, None, Some}
use Rattle.scan_wire.specs.declared.fault.Cause.{Cause}
use Rattle.scan_wire.specs.declared.message.Request.{Request}
use Rattle.scan_wire.specs.Causes.{HasCause, Waits}
use Rattle.scan_wire.specs.Frames.{IsRequest, requests_text}
use Rattle.scan_wire.specs.Messages.{request_parts}

-- the bytes after the requests that were returned, and why they are a bad frame, once that is known
pub record DecoderParts : Type 0 where
  pub rest : List ℕ
  pub cause : Option Cause

-- the bytes held and the piece are the requests that the list gains, and the rest
pub record Decodes (old new piece : List ℕ) (before after : List Request) : Type 0 where
  pub gained : List Request
  pub list : after ≡ before ++ gained
  pub are_requests : All (λ r. IsRequest (request_parts r)) gained
  pub text_is : old ++ piece ≡ requests_text (map request_parts gained) ++ new

-- no bad frame was found: the requests are returned, and the rest waits
pub record IsFed (old new : DecoderParts) (piece : List ℕ) (before after : List Request) : Type 0 where
  pub good_before : old.cause ≡ None
  pub good : new.cause ≡ None
  pub decodes : Decodes old.rest new.rest piece before after
  pub waits : Waits new.rest

-- a bad frame is found now for the first time: the requests before it are returned
pub record MeetsBadFrame (old new : DecoderParts) (cause : Cause) (piece : List ℕ) (before after : List Request) : Type 0 where
  pub good_before : old.cause ≡ None
  pub noted : new.cause ≡ Some cause
  pub decodes : Decodes old.rest new.rest piece before after
  pub has_cause : HasCause cause new.rest
