-- The plans of the file are migrated, or there are none.
use Rattle.byte_io.specs.Sources.{ask_of}
use Rattle.plan_pack.specs.Packing.{answer_of}
use Rattle.plan_pack.proofs.ListLemmas.{open-before-memory}
use Rattle.plan_pack.proofs.MigrateLemmas.{migrate-had, migrate-stopped}
use Rattle.plan_pack.proofs.migrating.migrate_file.Goals as goal

pub returns-in-Ok-clause-migrated : goal.returns-in-Ok-clause-migrated
returns-in-Ok-clause-migrated g c =
    migrate-had g.F.Output.ByteOut.written c.args.input.now c.args.output.now _ _ _ c.in-Ok.plans c.migrate_to.result c.in-Ok.ensures.plans
    (rw c.as_slice.ensures.value at c.migrate_to.ensures.migrated)

pub returns-in-Err-clause-migrated : goal.returns-in-Err-clause-migrated
returns-in-Err-clause-migrated g c = migrate-stopped g.F.Output.ByteOut.written c.args.input.now c.args.output.now _ _ c.in-Err.stop c.in-Err.ensures.plans

pub returns-in-Ok-clause-opens : goal.returns-in-Ok-clause-opens
returns-in-Ok-clause-opens g c = open-before-memory (g.F.Opener.sources c.args.files.now) (ask_of c.args.input.now) (answer_of c.migrate_to.result) c.in-Ok.ensures.starved
