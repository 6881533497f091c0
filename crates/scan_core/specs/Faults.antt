-- The refusals of this crate, and the numbers that messages give them.
use Rattle.std.specs.Prelude.{ℕ}
use Rattle.scan_core.specs.declared.fault.Fault.{Fault}
use Rattle.scan_core.specs.declared.fault.Fault.TheVariants.{OutOfMemory}

-- the number of a refusal, the same in every crate
abbrev pub number_of : Fault → ℕ
number_of OutOfMemory = 1
