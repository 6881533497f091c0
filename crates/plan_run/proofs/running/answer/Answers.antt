-- Requests are answered as their parts are.
use Rattle.plan_run.proofs.MigrateLemmas.{migrate-answers}
use Rattle.plan_run.proofs.PackLemmas.{pack-answers}
use Rattle.plan_run.proofs.RequestLemmas.{check-plan-answers, explain-answers, explain-certificate-answers, explain-plan-answers}
use Rattle.plan_run.proofs.running.answer.Goals as goal

pub returns-in-Pack-clause-answer : goal.returns-in-Pack-clause-answer
returns-in-Pack-clause-answer g c =
    rw c.in-Pack.is (pack-answers g.F.Output.ByteOut.written g.F.Output.ByteOut.has_failed c.in-Pack.pack (g.F.Opener.sources c.args.files.now) (g.F.Opener.sources c.answer_pack.new.files) c.answer_pack.result (g.W.ByteOut.written c.args.out.now)
    c.answer_pack.ensures.answer)

pub returns-in-Migrate-clause-answer : goal.returns-in-Migrate-clause-answer
returns-in-Migrate-clause-answer g c =
    rw c.in-Migrate.is (migrate-answers g.F.Output.ByteOut.written g.F.Output.ByteOut.has_failed c.in-Migrate.input c.in-Migrate.output _ _ (g.F.Opener.sources c.args.files.now) (g.F.Opener.sources c.answer_migrate.new.files) c.answer_migrate.result
    (g.W.ByteOut.written c.args.out.now) (g.W.ByteOut.written c.answer_migrate.new.out) c.as_str-in-Migrate.ensures.value c.as_str-in-Migrate-2.ensures.value c.answer_migrate.ensures.answer)

pub returns-in-CheckPlan-clause-answer : goal.returns-in-CheckPlan-clause-answer
returns-in-CheckPlan-clause-answer g c =
    rw c.in-CheckPlan.is (check-plan-answers g.F.Output.ByteOut.written g.F.Output.ByteOut.has_failed c.in-CheckPlan.file c.in-CheckPlan.place _ (g.F.Opener.sources c.args.files.now) (g.F.Opener.sources c.answer_check_plan.new.files) c.answer_check_plan.result
    (g.W.ByteOut.written c.args.out.now) (g.W.ByteOut.written c.answer_check_plan.new.out) c.as_str.ensures.value c.answer_check_plan.ensures.answer)

pub returns-in-Explain-clause-answer : goal.returns-in-Explain-clause-answer
returns-in-Explain-clause-answer g c =
    rw c.in-Explain.is (explain-answers g.F.Output.ByteOut.written g.F.Output.ByteOut.has_failed c.in-Explain.explain (g.F.Opener.sources c.args.files.now) (g.F.Opener.sources c.answer_explain.new.files) c.answer_explain.result
    (g.W.ByteOut.written c.args.out.now) (g.W.ByteOut.written c.answer_explain.new.out) c.answer_explain.ensures.answer)

pub returns-in-ExplainPlan-clause-answer : goal.returns-in-ExplainPlan-clause-answer
returns-in-ExplainPlan-clause-answer g c =
    rw c.in-ExplainPlan.is (explain-plan-answers g.F.Output.ByteOut.written g.F.Output.ByteOut.has_failed c.in-ExplainPlan.view c.in-ExplainPlan.file c.in-ExplainPlan.place _ (g.F.Opener.sources c.args.files.now) (g.F.Opener.sources c.answer_explain_plan.new.files) c.answer_explain_plan.result
    (g.W.ByteOut.written c.args.out.now) (g.W.ByteOut.written c.answer_explain_plan.new.out) c.as_str-in-ExplainPlan.ensures.value c.answer_explain_plan.ensures.answer)

pub returns-in-ExplainCertificate-clause-answer : goal.returns-in-ExplainCertificate-clause-answer
returns-in-ExplainCertificate-clause-answer g c =
    rw c.in-ExplainCertificate.is (explain-certificate-answers g.F.Output.ByteOut.written g.F.Output.ByteOut.has_failed c.in-ExplainCertificate.certificate _ (g.F.Opener.sources c.args.files.now) (g.F.Opener.sources c.answer_explain_certificate.new.files) c.answer_explain_certificate.result
    (g.W.ByteOut.written c.args.out.now) (g.W.ByteOut.written c.answer_explain_certificate.new.out) c.as_str-in-ExplainCertificate.ensures.value c.answer_explain_certificate.ensures.answer)
