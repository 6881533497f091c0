-- The faults of this crate, and the numbers that messages give them.
use Rattle.std.specs.Prelude.{ℕ}
use Rattle.par_scan.specs.declared.fault.Fault.{Fault}
use Rattle.par_scan.specs.declared.fault.Fault.TheVariants.{OutOfMemory}

-- the number of a fault, the same in every crate
abbrev pub number_of : Fault → ℕ
number_of OutOfMemory = 1
