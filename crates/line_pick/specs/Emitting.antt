-- How numbered lines are emitted to a sink, one after another.
use Rattle.std.specs.Prelude.{◌≢◌, ℕ, ◌+◌, ◌<◌, Bool, true, false, List, [], ◌∷◌, filter, length, Result, Ok, Err}
use Rattle.std.specs.List.{enumerate_from}
use Rattle.line_pick.specs.declared.fault.Fault.{Fault}
use Rattle.line_pick.specs.declared.fault.Fault.TheVariants.{OutOfMemory, StreamTooLong}
use Rattle.line_pick.specs.declared.halt.Halt.{Halt}
use Rattle.line_pick.specs.declared.halt.Halt.TheVariants.{Stopped, Failed}
use Rattle.line_pick.specs.declared.sink.Next.{Next}
use Rattle.line_pick.specs.declared.sink.Next.TheVariants.{More, Stop}

-- the lines that pass a test, with their numbers, after `before` lines
abbrev pub numbered : (List ℕ → Bool) → ℕ → List (List ℕ) → List (ℕ × List ℕ)
numbered test before lines = filter (λ l. test l.1) (enumerate_from (before + 1) lines)

-- how a line is taken: under its number, or where lines are not numbered, under some number
abbrev pub as_numbered : {S : Type 0} → Bool → (S → ℕ → List ℕ → Result Next Fault → S → Type 0) → S → ℕ → List ℕ → Result Next Fault → S → Type 0
as_numbered true takes = takes
as_numbered false takes = λ s number line answer t. (some : ℕ) × takes s some line answer t

-- lines are emitted in order: each is taken with More, until none remains, or one has another answer and is the last
-- one emitted
pub data Emitted {S : Type 0} (takes : S → ℕ → List ℕ → Result Next Fault → S → Type 0) : S → List (ℕ × List ℕ) → Result Next Fault → S → Type 0 where
  NoneLeft : {s : S} → Emitted takes s [] (Ok More) s
  OneMore : {s t u : S} {number : ℕ} {line : List ℕ} {rest : List (ℕ × List ℕ)} {answer : Result Next Fault} → takes s number line (Ok More) t → Emitted takes t rest answer u → Emitted takes s ((number, line) ∷ rest) answer u
  LastOne : {s t : S} {number : ℕ} {line : List ℕ} {rest : List (ℕ × List ℕ)} {answer : Result Next Fault} → takes s number line answer t → answer ≢ Ok More → Emitted takes s ((number, line) ∷ rest) answer t

-- Lines are emitted. Or memory ran out: before the first of them, where bytes were held before, or after the last,
-- where bytes remain to be held. Or none is, where the stream would become too long.
pub data Emits {S : Type 0} (takes : S → ℕ → List ℕ → Result Next Fault → S → Type 0) (held rest : List ℕ) : S → List (ℕ × List ℕ) → Result Next Fault → S → Type 0 where
  Whole : {s t : S} {lines : List (ℕ × List ℕ)} {answer : Result Next Fault} → Emitted takes s lines answer t → Emits takes held rest s lines answer t
  StarvedFirst : {s : S} {lines : List (ℕ × List ℕ)} → 0 < length held → Emits takes held rest s lines (Err OutOfMemory) s
  StarvedLast : {s t : S} {lines : List (ℕ × List ℕ)} → 0 < length rest → Emitted takes s lines (Ok More) t → Emits takes held rest s lines (Err OutOfMemory) t
  Refused : {s : S} {lines : List (ℕ × List ℕ)} → Emits takes held rest s lines (Err StreamTooLong) s

-- the answer where emitting ends so
abbrev pub answer_to : Halt → Result Next Fault
answer_to Stopped = Ok Stop
answer_to (Failed fault) = Err fault

abbrev pub answer_of : {T : Type 0} → Result T Halt → Result Next Fault
answer_of (Ok _) = Ok More
answer_of (Err halt) = answer_to halt

-- ---- inside the crate: the lines of a part of a text

-- lines are emitted, or memory ran out before the first of them
pub data EmitsOrNone {S : Type 0} (takes : S → ℕ → List ℕ → Result Next Fault → S → Type 0) : S → List (ℕ × List ℕ) → Result Next Fault → S → Type 0 where
  Begun : {s t : S} {lines : List (ℕ × List ℕ)} {answer : Result Next Fault} → Emitted takes s lines answer t → EmitsOrNone takes s lines answer t
  NotBegun : {s : S} {lines : List (ℕ × List ℕ)} → EmitsOrNone takes s lines (Err OutOfMemory) s

-- lines are emitted, or memory ran out after the last of them, where bytes remain to be held
pub data EmitsOrAll {S : Type 0} (takes : S → ℕ → List ℕ → Result Next Fault → S → Type 0) (rest : List ℕ) : S → List (ℕ × List ℕ) → Result Next Fault → S → Type 0 where
  Ended : {s t : S} {lines : List (ℕ × List ℕ)} {answer : Result Next Fault} → Emitted takes s lines answer t → EmitsOrAll takes rest s lines answer t
  NotHeld : {s t : S} {lines : List (ℕ × List ℕ)} → 0 < length rest → Emitted takes s lines (Ok More) t → EmitsOrAll takes rest s lines (Err OutOfMemory) t
