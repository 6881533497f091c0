-- The plan of this number is explained, or what is wrong with the file.
use Rattle.byte_io.specs.Sources.{ask_of}
use Rattle.plan_pack.specs.PlanFiles.{IsNoPlanAt, IsPlanAt}
use Rattle.plan_run.specs.Answers.{IsPlanExplained, where_wrong}
use Rattle.plan_run.proofs.AnswerLemmas.{asks-one, taken-had, taken-wrong}
use Rattle.plan_run.proofs.explaining.answer_explain_plan.Goals as goal

pub returns-in-Ok-clause-answer : goal.returns-in-Ok-clause-answer
returns-in-Ok-clause-answer g c =
    asks-one (ask_of c.args.file.now) _ _ c.explain_plan.result _
    (taken-had (IsPlanAt c.args.place) (IsNoPlanAt c.args.file.now c.args.place) where_wrong (IsPlanExplained c.args.view) (ask_of c.args.file.now) _ _ c.in-Ok.plan c.explain_plan.result _ _ c.in-Ok.ensures.plan
    c.explain_plan.ensures.answer)

pub returns-in-Err-clause-answer : goal.returns-in-Err-clause-answer
returns-in-Err-clause-answer g c =
    asks-one (ask_of c.args.file.now) _ _ c.report_stop.result _
    (taken-wrong (IsPlanAt c.args.place) (IsNoPlanAt c.args.file.now c.args.place) (IsPlanExplained c.args.view) (ask_of c.args.file.now) _ _ c.in-Err.stop c.report_stop.result _ _ c.in-Err.ensures.plan c.report_stop.ensures.answer)
