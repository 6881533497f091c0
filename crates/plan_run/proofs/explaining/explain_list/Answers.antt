-- The first of the list's cheapest cuts is explained.
use Rattle.std.proofs.Common.{◌≡◌, ap, ◌∙◌}
use Rattle.lit_cert.specs.Certificates.{CertificateParts}
use Rattle.plan_run.specs.Answers.{Explained, IsExplainAnswer, explained, printed}
use Rattle.plan_run.specs.declared.status.Status.TheVariants.{Done}
use Rattle.plan_run.proofs.AnswerLemmas.{reports-text}
use Rattle.plan_run.proofs.explaining.explain_list.Goals as goal

pub returns-in_ok-text-in-Ok-clause-answer : goal.returns-in_ok-text-in-Ok-clause-answer
returns-in_ok-text-in-Ok-clause-answer g c = λ patterns placed.
    let list = c.args.list.now in
    let places = c.args.places.now in
    let ends = c.in-Ok.certificate.ends in
    let seen : c.certificate.inside.ends.items ≡ ends = ap (λ (p : CertificateParts). p.ends) c.certificate.view_is in
    let text : c.as_slice.result.now ≡ explained c.args.profile c.args.view list ends places =
    c.as_slice.ensures.value ∙ (c.in_ok-text-in-Ok.ensures ∙ ap (λ es. explained c.args.profile c.args.view list es places) seen) in
    reports-text (IsExplainAnswer c.args.profile list c.args.view patterns) c.as_slice.result.now Done c.report_bytes.result _ _
    (Explained (record { ends = ends; places = places; first = c.in-Ok.ensures.first; placed = placed; is = ap (λ t. printed t Done) text }))
    c.report_bytes.ensures.text
