-- A plan file is refused only for want of memory, and memory runs out only where plans are announced.
use Rattle.std.proofs.Common.{◌≡◌, ℕ, Result, Err, ap}
use Rattle.std.specs.Global.{Vec}
use Rattle.lit_plan.specs.declared.compiled.Compiled.{Compiled}
use Rattle.plan_file.specs.declared.fault.Cause.{Cause}
use Rattle.plan_file.specs.declared.fault.Fault.{Fault}
use Rattle.plan_file.specs.declared.fault.Fault.TheVariants.{BadPlanFile, OutOfMemory}
use Rattle.fiolargu.proofs.files.plans_of.Goals as goal

abbrev refused : Fault → Result (Vec Compiled) Fault
refused fault = Err fault

other_fault : {fault bad : Fault} → fault ≡ bad → refused fault ≡ refused OutOfMemory → bad ≡ OutOfMemory
other_fault is same = (cc)

never_memory : {fault : Fault} {place : ℕ} {cause : Cause} → fault ≡ BadPlanFile place cause → refused fault ≡ refused OutOfMemory → ⊥
never_memory {fault} {place} {cause} is same = let both : BadPlanFile place cause ≡ OutOfMemory = other_fault is same in absurd cc

pub returns-in-Err-BadPlanFile-clause-right : goal.returns-in-Err-BadPlanFile-clause-right
returns-in-Err-BadPlanFile-clause-right c =
    λ plans file. absurd (c.in-Err-BadPlanFile.ensures.only plans file (never_memory c.in-Err-BadPlanFile.field-0-is))

pub returns-in-Err-BadPlanFile-clause-starved : goal.returns-in-Err-BadPlanFile-clause-starved
returns-in-Err-BadPlanFile-clause-starved c = λ is. absurd cc

pub returns-in-Err-OutOfMemory-clause-starved : goal.returns-in-Err-OutOfMemory-clause-starved
returns-in-Err-OutOfMemory-clause-starved c = λ _. c.in-Err-OutOfMemory.ensures.starved (ap refused c.in-Err-OutOfMemory.field-0-is)
