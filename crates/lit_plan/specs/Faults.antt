-- The numbers by which messages name the faults.
use Rattle.std.specs.Prelude.{ℕ}
use Rattle.lit_plan.specs.declared.fault.Fault.{Fault}
use Rattle.lit_plan.specs.declared.fault.Fault.TheVariants.{OutOfMemory, NotCertified, StreamTooLong}

-- the number of a fault, the same in every crate
abbrev pub number_of : Fault → ℕ
number_of OutOfMemory = 1
number_of (NotCertified reason) = 8
number_of StreamTooLong = 20
