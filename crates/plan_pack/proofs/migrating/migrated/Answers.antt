-- The new plan is the list's, and costs no more.
use Rattle.std.proofs.Common.{◌∙◌, subst, sym}
use Rattle.lit_base.specs.declared.profile.Profile.TheVariants.{Sixteen}
use Rattle.list_plan.specs.Planned.{IsPlanned}
use Rattle.plan_pack.proofs.MigrateLemmas.{migrated}
use Rattle.plan_pack.proofs.migrating.migrated.Goals as goal

pub returns-in_ok-shared_index-in-Ok : goal.returns-in_ok-shared_index-in-Ok
returns-in_ok-shared_index-in-Ok c =
    let plan = c.in-Ok.ensures in
    let list = c.in_ok-shared_index-in-Ok.ensures in
    let made : IsPlanned c.list.result.now Sixteen c.in-Ok.certificate = record { for_profile = plan.profile; first = plan.first; cost = plan.cost; potentials = plan.potentials; len = plan.len } in
    rw c.certified.ensures (migrated c.args.old.now _ c.certificate-certificate.ensures.certified list (subst (λ l. IsPlanned l Sixteen c.in-Ok.certificate) (c.list.ensures ∙ sym list) made))
