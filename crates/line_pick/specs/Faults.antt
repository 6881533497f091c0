-- The numbers of the faults, the same in every crate.
use Rattle.std.specs.Prelude.{ℕ}
use Rattle.line_pick.specs.declared.fault.Fault.{Fault}
use Rattle.line_pick.specs.declared.fault.Fault.TheVariants.{OutOfMemory, WriteFault, StreamTooLong}

abbrev pub number_of : Fault → ℕ
number_of OutOfMemory = 1
number_of WriteFault = 18
number_of StreamTooLong = 20
