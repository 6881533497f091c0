-- The plan of this number is one of the file's.
use Rattle.byte_io.specs.Sources.{ask_of}
use Rattle.plan_pack.proofs.ListLemmas.{open-before-memory}
use Rattle.plan_pack.proofs.PlanAtLemmas.{none-picked, plan-picked}
use Rattle.plan_pack.proofs.reading.plan_at.Goals as goal

pub returns-in-Ok-clause-plan : goal.returns-in-Ok-clause-plan
returns-in-Ok-clause-plan g c = plan-picked c.args.file.now c.args.place _ _ c.in-Ok.plans c.picked.result c.in-Ok.ensures.plans c.picked.ensures

pub returns-in-Err-clause-plan : goal.returns-in-Err-clause-plan
returns-in-Err-clause-plan g c = none-picked c.args.file.now c.args.place _ _ c.in-Err.stop c.in-Err.ensures.plans

pub returns-in-Ok-clause-starved : goal.returns-in-Ok-clause-starved
returns-in-Ok-clause-starved g c = open-before-memory (g.F.Opener.sources c.args.files.now) (ask_of c.args.file.now) c.picked.result c.in-Ok.ensures.starved
