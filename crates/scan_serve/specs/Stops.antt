-- Why answering ended before the input did.
use Rattle.scan_wire.specs.declared.fault.Cause.{Cause}
use Rattle.scan_serve.specs.declared.ended.Ended.{Ended}
use Rattle.scan_serve.specs.declared.ended.Ended.TheVariants as ended
use Rattle.scan_serve.specs.declared.stop.Stop.{Stop}
use Rattle.scan_serve.specs.declared.stop.Stop.TheVariants.{WriteFault, OutOfMemory}
use Rattle.scan_serve.specs.declared.stop.Halt.{Halt}
use Rattle.scan_serve.specs.declared.stop.Halt.TheVariants.{Bad, Stopped}

-- a bad frame whose cause has P, or a stop with Q
abbrev pub OnHalt : (Cause → Type 0) → Type 0 → Halt → Type 0
OnHalt P Q (Bad cause) = P cause
OnHalt P Q (Stopped stop) = Q

-- how serving ends at a stop
abbrev pub ended_by : Stop → Ended
ended_by WriteFault = ended.WriteFault
ended_by OutOfMemory = ended.OutOfMemory
