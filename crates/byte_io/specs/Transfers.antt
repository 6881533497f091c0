-- What moves between a device and a list of bytes in many calls.
use Rattle.std.specs.Prelude.{◌≡◌, ◌≢◌, ℕ, ◌<◌, ◌≤◌, ◌++◌, Bool, true, false, List, [], length, take, Option}
use Rattle.std.specs.Io.KnownBytes.{Appends}
use Rattle.byte_io.specs.Devices.{Coming, Clean, Faulty, Gives, IfKnown}

-- known bytes grow by a prefix of the piece that is not all of it
pub record AppendsPart (old new : Option (List ℕ)) (piece : List ℕ) : Type 0 where
  pub count : ℕ
  pub fewer : count < length piece
  pub text : Appends old new (take count piece)

-- known bytes grew by a prefix of the text, which may be none or all of it
pub record AppendsPrefix (old new : Option (List ℕ)) (text : List ℕ) : Type 0 where
  pub prefix : List ℕ
  pub rest : List ℕ
  pub parts : text ≡ prefix ++ rest
  pub grown : Appends old new prefix

-- and by all of it unless a write failed
pub record Says (has_failed : Bool) (old new : Option (List ℕ)) (text : List ℕ) : Type 0 where
  pub said : AppendsPrefix old new text
  pub whole : has_failed ≡ false → said.rest ≡ []

-- all of a text was written, and no write failed; or one did, at which writing ended: a prefix was written, and not all
pub data SaysOrFails (had_failed has_failed : Bool) (old new : Option (List ℕ)) (text : List ℕ) : Type 0 where
  SaidAll : has_failed ≡ had_failed → Appends old new text → SaysOrFails had_failed has_failed old new text
  SaidPart : has_failed ≡ true → AppendsPart old new text → SaysOrFails had_failed has_failed old new text

-- a text grows by bytes that a reader gave, and the reader gave no others
pub record ReadsInto (old new : Option Coming) (before after : List ℕ) : Type 0 where
  pub bytes : List ℕ
  pub text : after ≡ before ++ bytes
  pub given : IfKnown old new (λ x y. Gives x y bytes)

-- all bytes to come were read, there are no more than the limit, and no fault follows them
pub record ReadsAll (limit : ℕ) (before after : List ℕ) (c : Coming) : Type 0 where
  pub text : after ≡ before ++ c.text
  pub short : length c.text ≤ limit
  pub ending : c.ending ≢ Faulty

-- no clean end follows, and where a fault does, all bytes before it were read, and no more than the limit
pub record FaultFollows (limit : ℕ) (before after : List ℕ) (c : Coming) : Type 0 where
  pub ending : c.ending ≢ Clean
  pub text : c.ending ≡ Faulty → after ≡ before ++ c.text
  pub short : c.ending ≡ Faulty → length c.text ≤ limit
