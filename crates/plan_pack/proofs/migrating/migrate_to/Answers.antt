-- A file that was begun holds a prefix of the migrated plans.
use Rattle.plan_pack.proofs.MigrateLemmas.{moved-stopped}
use Rattle.plan_pack.proofs.migrating.migrate_to.Goals as goal

pub returns-in-Ok-clause-migrated : goal.returns-in-Ok-clause-migrated
returns-in-Ok-clause-migrated g c =
    moved-stopped g.F.Output.ByteOut.written c.args.plans.now c.in-Ok.new.items c.args.name.now _ _ c.in-Err.unmade c.in-Ok.ensures.plans
    (rw c.as_slice.ensures.value at c.in-Err.ensures.made)
