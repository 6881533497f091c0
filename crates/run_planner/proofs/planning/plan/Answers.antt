-- The prices of the list's meter are the list's costs.
use Rattle.std.proofs.Common.{subst}
use Rattle.lit_base.specs.Costs.{run_cost}
use Rattle.lit_base.specs.Profiles.{buckets}
use Rattle.lit_base.specs.Literals.{lengths}
use Rattle.run_planner.specs.Plans.{IsOnlyPlan}
use Rattle.run_planner.specs.TailCosts.{AreTailCosts}
use Rattle.run_planner.proofs.Certificates.{certified_by_meter}
use Rattle.run_planner.proofs.planning.plan.Goals as goal

pub certified_law-requires : goal.certified_law-requires
certified_law-requires c =
    let given = c.in_ok-certificate.ensures in
    certified_by_meter c.args.profile c.args.list.now c.in_ok-certificate.certificate c.len-n.result _ given.profile c.len-n.ensures.value c.new-meter.ensures.prices given.first given.cost given.potentials given.len

pub returns-clause-potentials : goal.returns-clause-potentials
returns-clause-potentials c =
    let certificate = c.in_ok-certificate.certificate in
    let tails = subst (λ p. AreTailCosts p c.len-n.result (buckets c.args.profile) certificate.potentials) c.new-meter.ensures.prices c.in_ok-certificate.ensures.potentials in
    subst (λ n. AreTailCosts (run_cost (lengths c.args.list.now)) n (buckets c.args.profile) certificate.potentials) c.len-n.ensures.value tails

pub returns-clause-certified : goal.returns-clause-certified
returns-clause-certified c =
    let given = c.in_ok-certificate.ensures in
    certified_by_meter c.args.profile c.args.list.now c.in_ok-certificate.certificate c.len-n.result _ given.profile c.len-n.ensures.value c.new-meter.ensures.prices given.first given.cost given.potentials given.len

pub returns-clause-only : goal.returns-clause-only
returns-clause-only c =
    let given = c.in_ok-certificate.ensures in
    let certificate = c.in_ok-certificate.certificate in
    let only = subst (λ p. IsOnlyPlan p c.args.profile c.len-n.result certificate) c.new-meter.ensures.prices given.only in
    subst (λ n. IsOnlyPlan (run_cost (lengths c.args.list.now)) c.args.profile n certificate) c.len-n.ensures.value only
