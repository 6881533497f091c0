-- Memory runs out only where the plan that was taken out has an end to find.
use Rattle.std.proofs.Common.{Option, sym, subst}
use Rattle.std.specs.Prelude.{IfSome}
use Rattle.c_handle.specs.declared.states.SharedPlan.{SharedPlan}
use Rattle.lit_base.specs.NextEnds.{NoEndAfter}
use Rattle.fiolargu.specs.Found.{plan_of}
use Rattle.fiolargu.proofs.StatusLemmas.{scan_starved}
use Rattle.fiolargu.proofs.scans.fiolargu_scan.Goals as goal

pub returns-clause-quiet : goal.returns-clause-quiet
returns-clause-quiet c = λ memory.
    subst (λ (held : Option SharedPlan). IfSome (plan_of held) (λ p. NoEndAfter p.literals c.args.text.now c.args.place.now → ⊥))
    (sym c.in-Some.ensures.taken) (rw c.deref_mut.ensures.value at (c.scan_held-status.ensures.quiet (scan_starved c.scan_held-status.ensures.refused memory)))
