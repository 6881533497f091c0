-- A list that has no plan names no pattern.
use Rattle.byte_io.specs.Sources.{ask_of}
use Rattle.plan_pack.proofs.ListLemmas.{none-named, open-before-memory}
use Rattle.plan_pack.proofs.planning.plan_of.Goals as goal

pub returns-in-Ok-clause-named : goal.returns-in-Ok-clause-named
returns-in-Ok-clause-named g c = none-named c.args.reading c.args.file.now _ _ _ c.planned.result c.planned.ensures.faults c.in-Ok.ensures.list

pub returns-in-Ok-clause-starved : goal.returns-in-Ok-clause-starved
returns-in-Ok-clause-starved g c = open-before-memory (g.F.Opener.sources c.args.files.now) (ask_of c.args.file.now) c.planned.result c.in-Ok.ensures.starved
