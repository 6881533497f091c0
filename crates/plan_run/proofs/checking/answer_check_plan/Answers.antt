-- The plan of this number is judged, or there is none.
use Rattle.std.proofs.Common.{Result, Err}
use Rattle.byte_io.specs.Sources.{ask_of}
use Rattle.lit_plan.specs.Plans.{Plan}
use Rattle.plan_pack.specs.PlanFiles.{IsNoPlanAt, IsPlanAt}
use Rattle.plan_pack.specs.declared.stop.Stop.{Stop as Halt}
use Rattle.plan_run.specs.Stops.{widened}
use Rattle.plan_run.specs.declared.stop.Stop.{Stop}
use Rattle.plan_run.specs.Answers.{Answer, IsVerdict, refuses}
use Rattle.plan_run.specs.declared.status.Status.{Status}
use Rattle.plan_run.proofs.AnswerLemmas.{asks-one, taken-had, taken-stopped}
use Rattle.plan_run.proofs.checking.answer_check_plan.Goals as goal

-- the verdict on a plan
abbrev IsJudged : Plan → Answer → Type 0
IsJudged p = IsVerdict p.literals p.certificate

pub returns-in-Ok-clause-answer : goal.returns-in-Ok-clause-answer
returns-in-Ok-clause-answer g c =
    asks-one (ask_of c.args.file.now) _ _ c.verdict.result _
    (taken-had (IsPlanAt c.args.place) (IsNoPlanAt c.args.file.now c.args.place) refuses IsJudged (ask_of c.args.file.now) _ _ c.in-Ok.plan c.verdict.result _ _ c.in-Ok.ensures.plan
    (rw (c.list.ensures, c.certificate.ensures.same) at c.verdict.ensures.answer))

-- there is none
abbrev stopped : Halt → Result Status Stop
stopped stop = Err (widened stop)

pub returns-in-Err-clause-answer : goal.returns-in-Err-clause-answer
returns-in-Err-clause-answer g c =
    rw c.from.ensures.value (asks-one (ask_of c.args.file.now) _ _ (stopped c.in-Err.stop) _
    (taken-stopped (IsPlanAt c.args.place) (IsNoPlanAt c.args.file.now c.args.place) IsJudged (ask_of c.args.file.now) _ _ c.in-Err.stop (g.W.ByteOut.written c.args.out.now) c.in-Err.ensures.plan))
