-- The bytes that were read are the bytes of the file.
use Rattle.std.proofs.Common.{Result, Err, ap}
use Rattle.std.specs.Global.{Vec}
use Rattle.lit_plan.specs.Plans.{Plan}
use Rattle.plan_file.specs.declared.fault.Fault.{Fault}
use Rattle.plan_pack.proofs.MigrateLemmas.{plans-read, plans-unread, plans-wrong}
use Rattle.plan_pack.proofs.reading.plans_from.Goals as goal

abbrev failed : Fault → Result (Vec Plan) Fault
failed fault = Err fault

pub returns-in-Ok-clause-plans : goal.returns-in-Ok-clause-plans
returns-in-Ok-clause-plans g c = λ content e short.
    plans-read c.in-Ok.plans (g.I.ByteIn.coming c.args.input.now) (g.I.ByteIn.coming c.read_plans.new.input) content c.in-Ok.ensures.found c.in-Ok.ensures.ending e

pub returns-in-Err-BadPlanFile-clause-plans : goal.returns-in-Err-BadPlanFile-clause-plans
returns-in-Err-BadPlanFile-clause-plans g c = λ content e short.
    plans-wrong c.args.file.now (g.I.ByteIn.coming c.args.input.now) (failed c.in-Err-BadPlanFile.field-0) c.in-Err-BadPlanFile.place c.in-Err-BadPlanFile.cause content
    c.in-Err-BadPlanFile.ensures.wrong c.in-Err-BadPlanFile.ensures.shown (ap failed c.in-Err-BadPlanFile.field-0-is) e

pub returns-in-Err-ReadFault-clause-plans : goal.returns-in-Err-ReadFault-clause-plans
returns-in-Err-ReadFault-clause-plans g c = λ content e short.
    plans-unread c.args.file (g.I.ByteIn.coming c.args.input.now) (failed c.in-Err-ReadFault.field-0) content
    c.in-Err-ReadFault.ensures.clean (ap failed c.in-Err-ReadFault.field-0-is) e short
