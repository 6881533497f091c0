-- The walk is over the finder's literals, which are the plan's, and the text of the search.
use Rattle.std.proofs.Common.{◌∙◌, subst}
use Rattle.text_ends.specs.Walks.{Walk}
use Rattle.text_search.specs.Searched.{FindsNext}
use Rattle.text_search.proofs.end_finder.EndFinder.next_by_automaton.Goals as goal

pub returns-clause-next : goal.returns-clause-next
returns-clause-next c =
    rw (c.self.invariant.1 ∙ c.self.view_is ∙ c.requires.plan, c.text-text.ensures) at (subst (λ (w : Walk). FindsNext w.literals w.text w.from c.next_of-found.result) c.in-Some.ensures.some c.next_of-found.ensures.next)
