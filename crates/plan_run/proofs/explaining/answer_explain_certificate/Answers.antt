-- The certificate is explained, or what is wrong with its text.
use Rattle.byte_io.specs.Sources.{Named}
use Rattle.plan_pack.specs.Certificates.{IsCertificateIn, IsNoCertificate}
use Rattle.plan_run.specs.Answers.{IsCertificateReported, where_wrong}
use Rattle.plan_run.proofs.AnswerLemmas.{asks-one, taken-had, taken-wrong}
use Rattle.plan_run.proofs.explaining.answer_explain_certificate.Goals as goal

pub returns-in-Ok-clause-answer : goal.returns-in-Ok-clause-answer
returns-in-Ok-clause-answer g c =
    asks-one (Named c.args.name.now) _ _ c.report_head.result _
    (taken-had IsCertificateIn (IsNoCertificate c.args.name.now) where_wrong IsCertificateReported (Named c.args.name.now) _ _ c.in-Ok.certificate c.report_head.result _ _ c.in-Ok.ensures.certificate c.report_head.ensures.answer)

pub returns-in-Err-clause-answer : goal.returns-in-Err-clause-answer
returns-in-Err-clause-answer g c =
    asks-one (Named c.args.name.now) _ _ c.report_stop.result _
    (taken-wrong IsCertificateIn (IsNoCertificate c.args.name.now) IsCertificateReported (Named c.args.name.now) _ _ c.in-Err.stop c.report_stop.result _ _ c.in-Err.ensures.certificate c.report_stop.ensures.answer)
