-- The certificate is judged, or there is none.
use Rattle.byte_io.specs.Sources.{Named}
use Rattle.plan_pack.specs.Certificates.{IsCertificateIn, IsNoCertificate}
use Rattle.plan_run.specs.Answers.{IsVerdict, refuses}
use Rattle.plan_run.proofs.AnswerLemmas.{taken-had, taken-stopped}
use Rattle.plan_run.proofs.checking.check_list.Goals as goal

pub returns-in-Ok-clause-answer : goal.returns-in-Ok-clause-answer
returns-in-Ok-clause-answer g c =
    taken-had IsCertificateIn (IsNoCertificate c.args.name.now) refuses (IsVerdict c.args.list.now) (Named c.args.name.now) _ _ c.in-Ok.certificate c.verdict.result _ _
    c.in-Ok.ensures.certificate c.verdict.ensures.answer

pub returns-in-Err-clause-answer : goal.returns-in-Err-clause-answer
returns-in-Err-clause-answer g c =
    rw c.from.ensures.value (taken-stopped IsCertificateIn (IsNoCertificate c.args.name.now) (IsVerdict c.args.list.now) (Named c.args.name.now) _ _ c.in-Err.stop (g.W.ByteOut.written c.args.out.now) c.in-Err.ensures.certificate)
