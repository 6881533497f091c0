-- The verdict is the verdict of the check.
use Rattle.std.proofs.Common.{rules}
use Rattle.plan_run.specs.Answers.{Fails, Holds, IsVerdict}
use Rattle.plan_run.specs.declared.status.Status.TheVariants.{Done, NotCertified}
use Rattle.plan_run.proofs.AnswerLemmas.{reports-text}
use Rattle.plan_run.proofs.checking.verdict.Goals as goal

pub returns-in_ok-text-in-Ok-clause-answer : goal.returns-in_ok-text-in-Ok-clause-answer
returns-in_ok-text-in-Ok-clause-answer g c =
    reports-text (IsVerdict c.args.list.now c.args.certificate.now) _ Done c.report.result _ _
    (Holds (search rules) (search rules)) c.report.ensures.text

pub returns-in_ok-text-in-Err-clause-answer : goal.returns-in_ok-text-in-Err-clause-answer
returns-in_ok-text-in-Err-clause-answer g c =
    reports-text (IsVerdict c.args.list.now c.args.certificate.now) _ NotCertified c.report-in-Err.result _ _
    (Fails c.in-Err.reason (search rules) (search rules)) c.report-in-Err.ensures.text
