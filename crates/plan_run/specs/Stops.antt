-- Which stops are failed writes or want of memory, and how a run stops where reading or making a file stopped.
use Rattle.std.specs.Prelude.{Bool, true, false}
use Rattle.plan_pack.specs.declared.stop.Stop.{Stop as Halt}
use Rattle.plan_pack.specs.declared.stop.Stop.TheVariants.{OutOfMemory as Starving, Refused as Halted}
use Rattle.plan_run.specs.declared.stop.Stop.{Stop}
use Rattle.plan_run.specs.declared.stop.Stop.TheVariants.{OutOfMemory, Refused, WriteFault}

-- the stop is a write that failed
abbrev pub is_write : Stop → Bool
is_write (Refused refusal) = false
is_write WriteFault = true
is_write OutOfMemory = false

-- the stop is want of memory
abbrev pub is_starved : Stop → Bool
is_starved (Refused refusal) = false
is_starved WriteFault = false
is_starved OutOfMemory = true

-- the stop of a run where a call of `plan_pack` stopped
abbrev pub widened : Halt → Stop
widened (Halted refusal) = Refused refusal
widened Starving = OutOfMemory
