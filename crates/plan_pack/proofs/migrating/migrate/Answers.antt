-- One plan more was migrated.
use Rattle.std.proofs.Common.{rules, ◌≡◌, ◌++◌, ◌∷◌, []}
use Rattle.lit_base.proofs.Places.{zipped_more}
use Rattle.plan_pack.specs.Migrated.{IsMigrated}
use Rattle.plan_pack.proofs.migrating.migrate.Goals as goal

pub loop-plan-preserved : goal.loop-plan-preserved
loop-plan-preserved c =
    let pushed : c.push.new.self.items ≡ c.loop-plan.new.items ++ c.in_ok-migrated.field-0 ∷ [] = search rules in
    zipped_more IsMigrated c.args.plans.now c.loop-plan.new.items c.push.new.self.items c.loop-plan.plan-index c.plan-item.result c.in_ok-migrated.field-0
    c.loop-plan-test.true c.plan-item.is c.loop-plan.invariant c.in_ok-migrated.ensures pushed
