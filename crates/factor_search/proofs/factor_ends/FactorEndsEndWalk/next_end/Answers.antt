-- The pending ends belong to the list's literals, and nothing ends between the last end and them.
use Rattle.std.proofs.Common.{MatchOption, subst}
use Rattle.lit_base.specs.NextEnds.{IsNextEnd, NoEndAfter}
use Rattle.text_ends.specs.Walks.{Walk}
use Rattle.text_ends.proofs.EndLemmas.{next_or_none_further}
use Rattle.factor_search.proofs.factor_ends.FactorEndsEndWalk.next_end.Goals as goal

pub returns-clause-next : goal.returns-clause-next
returns-clause-next c =
    let s = c.self.inside in
    subst (λ (w : Walk). MatchOption c.next_verified-found.result (NoEndAfter w.literals w.text w.from) (λ found. IsNextEnd w.literals w.text w.from found.0)) c.self.view_is
    (next_or_none_further s.factors.now.literals s.text.now s.from s.state.seen c.self.invariant.2 c.next_verified-found.result c.self.invariant.1 c.next_verified-found.ensures.next)
