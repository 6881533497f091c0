-- Nothing ends past the text; before its end, the walk by the plan finds the next end.
use Rattle.std.proofs.Common.{ap, length, arith, subst}
use Rattle.text_ends.specs.Walks.{Walk}
use Rattle.text_ends.proofs.HitLists.{none_past}
use Rattle.text_search.specs.Searched.{FindsNext, Searched}
use Rattle.text_search.proofs.text_search.TextSearch.next_end_after.Goals as goal

pub returns-then-from-text-clause-next : goal.returns-then-from-text-clause-next
returns-then-from-text-clause-next c =
    none_past c.args.self.now.plan.literals c.args.self.now.text c.args.from (omega (arith, c.if-from-text.true, ap length c.text.ensures))

pub returns-clause-next : goal.returns-clause-next
returns-clause-next c =
    subst (λ (s : Searched). FindsNext s.plan.literals s.text c.args.from c.next_of.result) c.self.view_is
    (rw c.self.invariant at (subst (λ (w : Walk). FindsNext w.literals w.text w.from c.next_of.result) c.skip_to.ensures c.next_of.ensures.next))
