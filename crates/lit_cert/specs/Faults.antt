-- The numbers by which messages name the faults.
use Rattle.std.specs.Prelude.{ℕ, ⊤}
use Rattle.lit_cert.specs.declared.fault.Fault.{Fault}
use Rattle.lit_cert.specs.declared.fault.Fault.TheVariants.{OutOfMemory, BadCertText, ReadFault, WriteFault}

-- the number of a fault
abbrev pub number_of : Fault → ℕ
number_of OutOfMemory = 1
number_of (BadCertText line) = 9
number_of ReadFault = 17
number_of WriteFault = 18

-- a fault of writing: a write that failed, or want of memory
abbrev pub IsWritersFault : Fault → Type 0
IsWritersFault OutOfMemory = ⊤
IsWritersFault (BadCertText line) = ⊥
IsWritersFault ReadFault = ⊥
IsWritersFault WriteFault = ⊤

-- a fault of reading: a read that failed, a bad line, or want of memory
abbrev pub IsReadersFault : Fault → Type 0
IsReadersFault OutOfMemory = ⊤
IsReadersFault (BadCertText line) = ⊤
IsReadersFault ReadFault = ⊤
IsReadersFault WriteFault = ⊥
