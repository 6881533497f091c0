use Rattle.std.proofs.Common.{take}
use Rattle.plan_pack.specs.Migrated.{AreMigrated}
use Rattle.plan_pack.proofs.migrating.migrate.Given as goal

-- the plans so far were migrated
abbrev pub invariant-loop-plan : goal.invariant-loop-plan
invariant-loop-plan l = AreMigrated (take l.plan-index l.plans) l.new.items
