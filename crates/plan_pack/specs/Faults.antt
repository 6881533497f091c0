-- The number of the refusal of `migrate`.
use Rattle.std.specs.Prelude.{ℕ}
use Rattle.plan_pack.specs.declared.fault.Fault.{Fault}
use Rattle.plan_pack.specs.declared.fault.Fault.TheVariants.{OutOfMemory}

-- the same in every crate
abbrev pub number_of : Fault → ℕ
number_of OutOfMemory = 1
