use Rattle.list_plan.specs.Planned.{IsPlanned}
use Rattle.list_plan.proofs.compiling.compile.Goals as goal

-- the plan is compiled as it was made
pub returns-clause-planned : goal.returns-clause-planned
returns-clause-planned c =
    let made : IsPlanned c.args.list c.args.profile c.in_ok-certificate.certificate =
    record { for_profile = c.in_ok-certificate.ensures.profile; first = c.in_ok-certificate.ensures.first; cost = c.in_ok-certificate.ensures.cost; potentials = c.in_ok-certificate.ensures.potentials; len = c.in_ok-certificate.ensures.len } in
    rw c.certified.ensures made

-- and what no assignment costs less than is its cost
pub returns-clause-least : goal.returns-clause-least
returns-clause-least c = rw c.certified.ensures c.in_ok-certificate.ensures.least
