-- Facts on the content that was read hold of the files' known source.
use Rattle.std.proofs.Common.{refl}
use Rattle.byte_io.specs.Sources.{Named}
use Rattle.byte_io.proofs.OpenerLemmas.{missing, opened}
use Rattle.plan_pack.specs.Certificates.{IsNoCertificate, Missing}
use Rattle.plan_pack.specs.Taken.{TakesCertificate}
use Rattle.plan_pack.specs.declared.stop.Refusal.TheVariants.{Unusable}
use Rattle.plan_pack.proofs.ListLemmas.{opened-before-memory}
use Rattle.plan_pack.proofs.reading.certificate_of.Goals as goal

pub returns-in-Ok-clause-certificate : goal.returns-in-Ok-clause-certificate
returns-in-Ok-clause-certificate g c =
    opened _ c.in-Ok.input _ _ (Named c.args.name.now) (λ source. TakesCertificate c.args.name.now source c.certificate_from.result)
    c.in-Ok.ensures.takes c.in-Ok.ensures.gives c.certificate_from.ensures.certificate

pub returns-in-Err-clause-certificate : goal.returns-in-Err-clause-certificate
returns-in-Err-clause-certificate g c =
    missing _ c.in-Err.field-0 _ _ (Named c.args.name.now) (λ source. IsNoCertificate c.args.name.now source (Unusable c.args.name)) c.in-Err.ensures.takes c.in-Err.ensures.gives (Missing refl refl)

pub returns-in-Ok-clause-starved : goal.returns-in-Ok-clause-starved
returns-in-Ok-clause-starved g c = opened-before-memory _ c.in-Ok.input (g.F.Opener.sources c.args.files.now) (Named c.args.name.now) c.certificate_from.result c.in-Ok.ensures.gives
