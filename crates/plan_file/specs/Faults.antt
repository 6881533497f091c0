-- The numbers by which messages name the faults, and the faults of each call.
use Rattle.std.specs.Prelude.{ℕ, ⊤, ◌≡◌, Result, Ok, Err}
use Rattle.plan_file.specs.declared.fault.Cause.{Cause}
use Rattle.plan_file.specs.declared.fault.Wrong.{Wrong}
use Rattle.plan_file.specs.declared.fault.Stop.{Stop}
use Rattle.plan_file.specs.declared.fault.Stop.TheVariants as stop
use Rattle.plan_file.specs.declared.fault.Fault.{Fault}
use Rattle.plan_file.specs.declared.fault.Fault.TheVariants.{OutOfMemory, BadPlanFile, ReadFault, WriteFault}

-- the number of a fault, the same in every crate
abbrev pub number_of : Fault → ℕ
number_of OutOfMemory = 1
number_of (BadPlanFile place cause) = 10
number_of ReadFault = 17
number_of WriteFault = 18

-- a fault of bytes that are held whole: want of memory, or a place and a cause for which P holds
abbrev pub IfBadFile : (ℕ → Cause → Type 0) → Fault → Type 0
IfBadFile P OutOfMemory = ⊤
IfBadFile P (BadPlanFile place cause) = P place cause
IfBadFile P ReadFault = ⊥
IfBadFile P WriteFault = ⊥

-- a fault of reading: a read that failed, a file that is wrong, or want of memory
abbrev pub IsReadersFault : Fault → Type 0
IsReadersFault OutOfMemory = ⊤
IsReadersFault (BadPlanFile place cause) = ⊤
IsReadersFault ReadFault = ⊤
IsReadersFault WriteFault = ⊥

-- a fault of writing: a write that failed, or want of memory
abbrev pub IsWritersFault : Fault → Type 0
IsWritersFault OutOfMemory = ⊤
IsWritersFault (BadPlanFile place cause) = ⊥
IsWritersFault ReadFault = ⊥
IsWritersFault WriteFault = ⊤

-- ---- inside the crate: why reading stops

-- want of memory, or something wrong for which P holds
abbrev pub IfWrong : (Wrong → Type 0) → Stop → Type 0
IfWrong P stop.OutOfMemory = ⊤
IfWrong P (stop.Wrong w) = P w

-- what a function returned, as `view` shows it, is what reading gives, unless memory ran out
abbrev pub Gives : {X Y : Type 0} → (X → Y) → Result X Stop → Result Y Wrong → Type 0
Gives view (Ok x) read = read ≡ Ok (view x)
Gives view (Err e) read = IfWrong (λ w. read ≡ Err w) e
