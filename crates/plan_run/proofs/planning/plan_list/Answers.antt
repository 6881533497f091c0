-- The list's plan has a text, and is the answer.
use Rattle.std.proofs.Common.{refl}
use Rattle.plan_run.specs.Answers.{IsPlanAnswer, Planned}
use Rattle.plan_run.specs.declared.status.Status.TheVariants.{Done}
use Rattle.plan_run.proofs.AnswerLemmas.{shaped, reports-text}
use Rattle.plan_run.proofs.planning.plan_list.Goals as goal

pub report_certificate-requires : goal.report_certificate-requires
report_certificate-requires g c = record { shape = shaped c.args.list.now c.in-Ok.certificate c.in-Ok.ensures.certified c.normal_law.ensures.few }

pub returns-in-Ok-clause-answer : goal.returns-in-Ok-clause-answer
returns-in-Ok-clause-answer g c =
    reports-text (IsPlanAnswer c.args.profile c.args.list.now) _ Done c.report_certificate.result _ _
    (Planned c.in-Ok.certificate (record { for_profile = c.in-Ok.ensures.profile; first = c.in-Ok.ensures.first; cost = c.in-Ok.ensures.cost; potentials = c.in-Ok.ensures.potentials; len = c.in-Ok.ensures.len }) refl)
    c.report_certificate.ensures.text
