-- The devices of the tests: how contracts see them, and the exact answer of one call.
use Rattle.std.specs.Prelude.{ℕ, ◌+◌, ◌-◌, min, Bool, true, false, ◌||◌, ◌&&◌, ◌==◌, nat_lt, if◌then◌else◌, List, ◌++◌, length, take, drop, Option, Some, None, Result, Ok, Err}
use Rattle.byte_io.specs.declared.device.Failed.{Failed}
use Rattle.byte_io.specs.declared.cut_device.Cut.{Cut}
use Rattle.byte_io.specs.declared.cut_device.Cut.TheVariants.{Never, AtEnd, InCalls, Past}
use Rattle.byte_io.specs.Devices.{Coming, Clean, Faulty}

-- whether the next call is cut, with `left` bytes left
abbrev pub fails_now : Cut → ℕ → Bool
fails_now Never left = false
fails_now AtEnd left = left == 0
fails_now (InCalls calls) left = calls == 0
fails_now Past left = false

-- the cut, one call later
abbrev pub cut_after : Cut → Cut
cut_after Never = Never
cut_after AtEnd = AtEnd
cut_after (InCalls calls) = if calls == 0 then Past else InCalls (calls - 1)
cut_after Past = Past

-- a reader: the bytes that it has not given, where it fails, and how many bytes a call gives at most
pub record CutReader : Type 0 where
  pub text : List ℕ
  pub cut : Cut
  pub step : ℕ
  pub given : ℕ
  pub has_failed : Bool

-- the known bytes of the reader and their end; with a call that is cut none are known
abbrev pub known_by : Cut → List ℕ → Option Coming
known_by Never text = Some (record { text = text; ending = Clean })
known_by AtEnd text = Some (record { text = text; ending = Faulty })
known_by (InCalls _) text = None
known_by Past text = None

-- how many bytes a read gives that is not cut
abbrev pub read_len : CutReader → ℕ → ℕ
read_len d room = min d.step (min (length d.text) room)

-- what a read into a buffer of this length answers
abbrev pub read_answer : CutReader → ℕ → Result ℕ Failed
read_answer d room = if fails_now d.cut (length d.text) then Err (record {}) else Ok (read_len d room)

-- the reader after that read
abbrev pub after_read : CutReader → ℕ → CutReader
after_read d room =
    if fails_now d.cut (length d.text)
    then record d { cut = cut_after d.cut; has_failed = true }
    else record d { cut = cut_after d.cut; text = drop (read_len d room) d.text; given = d.given + read_len d room }

-- a writer: the bytes that it has taken, how many more it takes, where it fails, and how many a call takes at most
pub record CutWriter : Type 0 where
  pub taken : List ℕ
  pub room : ℕ
  pub cut : Cut
  pub step : ℕ
  pub has_failed : Bool

-- how many bytes of a piece a write takes that is not cut
abbrev pub write_len : CutWriter → ℕ → ℕ
write_len d len = min d.step (min d.room len)

-- whether a write fails: its call is cut, or there is no room for a nonempty piece
abbrev pub write_fails : CutWriter → ℕ → Bool
write_fails d len = fails_now d.cut d.room || (d.room == 0 && nat_lt 0 len)

-- what a write of a piece of this length answers
abbrev pub write_answer : CutWriter → ℕ → Result ℕ Failed
write_answer d len = if write_fails d len then Err (record {}) else Ok (write_len d len)

-- the writer after that write
abbrev pub after_write : CutWriter → List ℕ → CutWriter
after_write d piece =
    if write_fails d (length piece)
    then record d { cut = cut_after d.cut; has_failed = true }
    else record d { cut = cut_after d.cut; taken = d.taken ++ take (write_len d (length piece)) piece; room = d.room - write_len d (length piece) }
