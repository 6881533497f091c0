-- The numbers of the faults and of the causes of a bad frame.
use Rattle.std.specs.Prelude.{ℕ}
use Rattle.scan_wire.specs.declared.fault.Cause.{Cause}
use Rattle.scan_wire.specs.declared.fault.Cause.TheVariants.{Length, Kind, Stream, Payload}
use Rattle.scan_wire.specs.declared.fault.Fault.{Fault}
use Rattle.scan_wire.specs.declared.fault.Fault.TheVariants.{OutOfMemory, BadFrame}

-- the number of a cause
abbrev pub cause_number : Cause → ℕ
cause_number Length = 1
cause_number Kind = 2
cause_number Stream = 3
cause_number Payload = 4

-- the number of a fault
abbrev pub number_of : Fault → ℕ
number_of OutOfMemory = 1
number_of (BadFrame cause) = 11
