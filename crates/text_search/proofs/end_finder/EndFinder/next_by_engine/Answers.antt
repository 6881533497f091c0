-- Each walk is over the finder's literals, which are the plan's, and the text of the search.
use Rattle.std.proofs.Common.{◌≡◌, Option, IfSome, ◌∙◌, subst}
use Rattle.text_ends.specs.Walks.{Walk}
use Rattle.factor_search.specs.Factors.{Factored}
use Rattle.text_search.specs.Searched.{FindsNext}
use Rattle.text_search.proofs.end_finder.EndFinder.next_by_engine.Goals as goal

pub returns-in-Factors-Some-clause-next : goal.returns-in-Factors-Some-clause-next
returns-in-Factors-Some-clause-next c =
    let same = subst (λ (o : Option Factored). IfSome o (λ w. w.literals ≡ c.self.inside.shift_or.literals)) c.in-Factors-Some.is-1 c.self.invariant.0 in
    rw (same ∙ c.self.view_is ∙ c.requires.plan, c.text-text.ensures) at (subst (λ (w : Walk). FindsNext w.literals w.text w.from c.next_of-found.result) c.after-ends.ensures c.next_of-found.ensures.next)

pub returns-in-ShiftOr-default-clause-next : goal.returns-in-ShiftOr-default-clause-next
returns-in-ShiftOr-default-clause-next c =
    rw (c.self.view_is ∙ c.requires.plan, c.text-text.ensures) at (subst (λ (w : Walk). FindsNext w.literals w.text w.from c.next_of-found-in-ShiftOr-default.result) c.after-ends-in-ShiftOr-default.ensures c.next_of-found-in-ShiftOr-default.ensures.next)
