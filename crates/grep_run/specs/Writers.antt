-- Texts written to a device: a whole text, or a prefix of it.
use Rattle.std.specs.Prelude.{◌≡◌, ℕ, ◌<◌, Bool, true, false, List, ◌++◌, length, Option, Result, Ok, Err}
use Rattle.std.specs.Io.KnownBytes.{Appends}
use Rattle.grep_run.specs.declared.status.Stop.{Stop}
use Rattle.grep_run.specs.declared.status.Stop.TheVariants.{WriteFault, OutOfMemory}

-- the known bytes of a device, and whether a call of it failed
pub record Writer : Type 0 where
  pub written : Option (List ℕ)
  pub has_failed : Bool

-- the writer that a device is
abbrev pub writer : {D : Type 0} → (D → Option (List ℕ)) → (D → Bool) → D → Writer
writer written has_failed device = record { written = written device; has_failed = has_failed device }

-- the text is written, and no call failed
pub record Writes (old new : Writer) (text : List ℕ) : Type 0 where
  pub grown : Appends old.written new.written text
  pub flag : new.has_failed ≡ old.has_failed

-- a prefix of the text is written, and not all of it where a call failed
pub record WritesPrefix (old new : Writer) (text : List ℕ) : Type 0 where
  pub prefix : List ℕ
  pub rest : List ℕ
  pub parts : text ≡ prefix ++ rest
  pub grown : Appends old.written new.written prefix
  pub strict : old.has_failed ≡ false → new.has_failed ≡ true → 0 < length rest

-- the first text is written, and after it a prefix of the second
pub record WritesUpTo (old new : Writer) (text part : List ℕ) : Type 0 where
  pub between : Writer
  pub whole : Writes old between text
  pub prefix : WritesPrefix between new part

-- a run stopped at a write that failed
abbrev pub is_write_fault : {T : Type 0} → Result T Stop → Bool
is_write_fault (Ok _) = false
is_write_fault (Err WriteFault) = true
is_write_fault (Err OutOfMemory) = false
