-- The candidates come from the list's prefilter, and nothing ends between the last end and them.
use Rattle.std.proofs.Common.{MatchOption, ◌∙◌, subst, arith}
use Rattle.lit_base.specs.NextEnds.{IsNextEnd, NoEndAfter}
use Rattle.text_ends.specs.Walks.{Walk}
use Rattle.text_ends.proofs.EndLemmas.{next_further, none_further}
use Rattle.prefilter_search.proofs.prefilter_ends.PrefilterEndsEndWalk.next_end.Goals as goal

pub next_verified-found-requires-clause-covers : goal.next_verified-found-requires-clause-covers
next_verified-found-requires-clause-covers c = c.self.invariant.0

pub invariant_of-self : goal.invariant_of-self
invariant_of-self c =
    let reached = c.in-Some.ensures.reached in (
      rw c.next_verified-found.ensures.prefilter c.self.invariant.0,
      c.next_verified-found.ensures.text ∙ c.self.invariant.1,
      omega (arith, reached),
      λ end after within here. absurd (omega (arith, after, within, reached)),
    )

pub invariant_of-self-in_default : goal.invariant_of-self-in_default
invariant_of-self-in_default c =
    let s = c.self.inside in
    let ends = none_further s.list.now s.text.now s.from s.candidates.from c.self.invariant.3 c.in_default.ensures.next in (
      rw c.next_verified-found.ensures.prefilter c.self.invariant.0,
      c.next_verified-found.ensures.text ∙ c.self.invariant.1,
      omega (arith, c.next_verified-found.ensures.ahead, c.self.invariant.2),
      λ end after within here. ends end after here,
    )

pub returns-in_default-clause-next : goal.returns-in_default-clause-next
returns-in_default-clause-next c =
    let s = c.self.inside in
    subst (λ (w : Walk). MatchOption c.next_verified-found.result (NoEndAfter w.literals w.text w.from) (λ found. IsNextEnd w.literals w.text w.from found.0)) c.self.view_is
    (rw c.in_default.is (none_further s.list.now s.text.now s.from s.candidates.from c.self.invariant.3 c.in_default.ensures.next))

pub returns-in-Some-clause-next : goal.returns-in-Some-clause-next
returns-in-Some-clause-next c =
    let s = c.self.inside in
    subst (λ (w : Walk). MatchOption c.next_verified-found.result (NoEndAfter w.literals w.text w.from) (λ found. IsNextEnd w.literals w.text w.from found.0)) c.self.view_is
    (rw c.in-Some.is (next_further s.list.now s.text.now s.from s.candidates.from c.self.invariant.3 c.in-Some.end c.self.invariant.2 c.in-Some.ensures.next))
