-- The hit's line is the first one, or stands round the first end of a literal.
use Rattle.std.proofs.Common.{◌∙◌, subst, sym}
use Rattle.lit_base.specs.NextEnds.{IsNextEnd, NoEndAfter}
use Rattle.text_lines.specs.HitLines.{HitSearch}
use Rattle.text_lines.proofs.HitLineLemmas.{first-line-hit, misses-all}
use Rattle.text_lines.proofs.hit_line.HitLines.first.Goals as goal

pub returns-in_err-end-clause-hit : goal.returns-in_err-end-clause-hit
returns-in_err-end-clause-hit c =
    let none = subst (λ (s : HitSearch). NoEndAfter s.plan.literals s.rest 0) (c.likely.ensures.same ∙ sym c.self.view_is) c.in_err-end.ensures.next in
    rw (c.from_residual.ensures, ← c.self.view_is) (misses-all c.self.inside.compiled.now.literals c.self.invariant.normal c.self.inside.rest.now none)

pub returns-in-Some-split_line_after-clause-hit : goal.returns-in-Some-split_line_after-clause-hit
returns-in-Some-split_line_after-clause-hit c =
    let next = subst (λ (s : HitSearch). IsNextEnd s.plan.literals s.rest 0 c.in_ok-end.end) (c.likely.ensures.same ∙ sym c.self.view_is) c.in_ok-end.ensures.next in
    let near = c.in-Some-split_line_after in
    rw (← c.self.view_is, c.first_of.ensures.line, c.first_of.ensures.after)
    (first-line-hit c.self.inside.compiled.now.literals c.self.invariant.normal c.self.invariant.apart c.self.inside.rest.now c.first_of.result.missed.now near.line.now near.after.now c.in_ok-end.end
    next.after next.here c.first_of.ensures.missed near.ensures.line near.ensures.after)

pub line_round-requires-clause-some : goal.line_round-requires-clause-some
line_round-requires-clause-some c = c.in_ok-end.ensures.next.after

pub line_round-requires-clause-within : goal.line_round-requires-clause-within
line_round-requires-clause-within c =
    let next = subst (λ (s : HitSearch). IsNextEnd s.plan.literals s.rest 0 c.in_ok-end.end) (c.likely.ensures.same ∙ sym c.self.view_is) c.in_ok-end.ensures.next in
    next.within

pub returns-clause-hit : goal.returns-clause-hit
returns-clause-hit c =
    let next = subst (λ (s : HitSearch). IsNextEnd s.plan.literals s.rest 0 c.in_ok-end.end) (c.likely.ensures.same ∙ sym c.self.view_is) c.in_ok-end.ensures.next in
    rw (← c.self.view_is) (c.line_round.ensures c.self.inside.compiled.now.literals c.self.invariant.normal c.self.invariant.apart next)
