-- The search is one by the shared plan.
use Rattle.std.proofs.Common.{◌∙◌, Ok, subst}
use Rattle.lit_plan.specs.Plans.{Plan}
use Rattle.text_search.specs.Searched.{AddsHits}
use Rattle.flow_scan.proofs.tuned_plan.TunedPlan.scan_until.Goals as goal

pub returns-clause-hits : goal.returns-clause-hits
returns-clause-hits c =
    subst (λ (p : Plan). AddsHits p.literals c.args.text.now c.args.from c.args.from c.args.most c.args.out.now.items c.scan_until.new.out.items (Ok c.in_ok-stop.stop))
    (c.deref-compiled.ensures ∙ c.self.view_is) c.in_ok-stop.ensures.hits
