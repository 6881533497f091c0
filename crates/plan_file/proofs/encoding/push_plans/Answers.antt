-- One more entry is appended, and its plan can stand in a file.
use Rattle.std.proofs.Common.{◌≡◌, ◌<◌, length, get_or, rules, subst}
use Rattle.std.proofs.lemmas.List.Elements.{All-more}
use Rattle.lit_plan.specs.Plans.{Plan}
use Rattle.plan_file.specs.declared.version.Version.TheVariants.{Two}
use Rattle.plan_file.specs.Spelling.{IsPlan, plan_text}
use Rattle.plan_file.proofs.StreamLemmas.{texts_more}
use Rattle.plan_file.proofs.encoding.push_plans.Goals as goal

pub loop-plan-preserved : goal.loop-plan-preserved
loop-plan-preserved c =
    let plans = c.args.plans.now in
    let i = c.loop-plan.plan-index in
    let plan : Plan = c.plan-item.result in
    let within : i < length plans = search rules in
    let is : plan ≡ get_or plans i plan = search rules in
    let more = c.in_ok-push_plan.ensures in (
      texts_more plan_text c.args.out.now.items c.loop-plan.out.items _ plans i plan plan within is c.loop-plan.invariant.0 more.text,
      All-more (IsPlan Two) plans i plan within c.loop-plan.invariant.1 (subst (IsPlan Two) is more.right),
    )
