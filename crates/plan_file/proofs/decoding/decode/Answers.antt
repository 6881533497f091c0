use Rattle.std.proofs.Common.{ℕ, Result, Err}
use Rattle.std.specs.Global.{Vec}
use Rattle.lit_plan.specs.declared.compiled.Compiled.{Compiled}
use Rattle.plan_file.specs.declared.fault.Cause.{Cause}
use Rattle.plan_file.specs.declared.fault.Fault.{Fault}
use Rattle.plan_file.specs.declared.fault.Fault.TheVariants.{BadPlanFile}
use Rattle.plan_file.proofs.OneWay.{first_fault, none_wrong, one_list, same_cause}
use Rattle.plan_file.proofs.PlaceLemmas.{wrong_within}
use Rattle.plan_file.proofs.decoding.decode.Goals as goal

abbrev bad_file : ℕ → Cause → Result (Vec Compiled) Fault
bad_file place cause = Err (BadPlanFile place cause)

pub overflow_sub-result : goal.overflow_sub-result
overflow_sub-result c = wrong_within c.args.bytes.now c.in-Err-Wrong.wrong (rw c.in-Err-Wrong.field-0-is at c.in-Err-Wrong.ensures.wrong)

pub returns-in-Ok-clause-only : goal.returns-in-Ok-clause-only
returns-in-Ok-clause-only c = λ plans f memory. one_list c.args.bytes.now c.in-Ok.plans.items plans c.in-Ok.ensures.found f

pub returns-in-Ok-clause-exact : goal.returns-in-Ok-clause-exact
returns-in-Ok-clause-exact c = λ place cause first memory. absurd (none_wrong c.args.bytes.now c.in-Ok.plans.items _ c.in-Ok.ensures.found first.wrong)

pub returns-in-Err-Wrong-clause-only : goal.returns-in-Err-Wrong-clause-only
returns-in-Err-Wrong-clause-only c = λ plans f memory. none_wrong c.args.bytes.now plans c.in-Err-Wrong.wrong f (rw c.in-Err-Wrong.field-0-is at c.in-Err-Wrong.ensures.wrong)

pub returns-in-Err-Wrong-clause-wrong : goal.returns-in-Err-Wrong-clause-wrong
returns-in-Err-Wrong-clause-wrong c = first_fault c.args.bytes.now c.in-Err-Wrong.wrong (rw c.in-Err-Wrong.field-0-is at c.in-Err-Wrong.ensures.wrong)

pub returns-in-Err-Wrong-clause-exact : goal.returns-in-Err-Wrong-clause-exact
returns-in-Err-Wrong-clause-exact c = λ place cause first memory. same_cause bad_file c.args.bytes.now c.in-Err-Wrong.wrong place cause (rw c.in-Err-Wrong.field-0-is at c.in-Err-Wrong.ensures.wrong) first
