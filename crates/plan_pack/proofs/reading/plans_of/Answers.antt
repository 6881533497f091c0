-- Facts on the content that was read hold of the files' known source.
use Rattle.std.proofs.Common.{refl}
use Rattle.byte_io.specs.Sources.{ask_of}
use Rattle.byte_io.proofs.OpenerLemmas.{missing, opened}
use Rattle.plan_pack.specs.Migrated.{IsNoPlanFile, Unopened}
use Rattle.plan_pack.specs.Taken.{TakesPlans}
use Rattle.plan_pack.specs.declared.stop.Refusal.TheVariants.{Unusable}
use Rattle.plan_pack.proofs.ListLemmas.{opened-before-memory}
use Rattle.plan_pack.proofs.reading.plans_of.Goals as goal

pub returns-in-Ok-clause-plans : goal.returns-in-Ok-clause-plans
returns-in-Ok-clause-plans g c =
    opened _ c.in-Ok.input _ _ (ask_of c.args.file.now) (λ source. TakesPlans c.args.file.now source c.plans_from.result)
    c.in-Ok.ensures.takes c.in-Ok.ensures.gives c.plans_from.ensures.plans

pub returns-in-Err-clause-plans : goal.returns-in-Err-clause-plans
returns-in-Err-clause-plans g c =
    missing _ c.in-Err.field-0 _ _ (ask_of c.args.file.now) (λ source. IsNoPlanFile c.args.file.now source (Unusable c.args.file)) c.in-Err.ensures.takes c.in-Err.ensures.gives (Unopened refl refl)

pub returns-in-Ok-clause-starved : goal.returns-in-Ok-clause-starved
returns-in-Ok-clause-starved g c = opened-before-memory _ c.in-Ok.input (g.F.Opener.sources c.args.files.now) (ask_of c.args.file.now) c.plans_from.result c.in-Ok.ensures.gives
