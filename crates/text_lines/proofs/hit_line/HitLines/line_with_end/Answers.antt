-- The literal that ends in the text ends in its first line.
use Rattle.std.proofs.Common.{◌<◌, subst, sym, arith}
use Rattle.lit_base.specs.Occurrences.{HasEnd}
use Rattle.text_lines.specs.HitLines.{HitSearch}
use Rattle.text_lines.proofs.HitLineLemmas.{first-line-hit}
use Rattle.text_lines.proofs.hit_line.HitLines.line_with_end.Goals as goal

pub returns-clause-hit : goal.returns-clause-hit
returns-clause-hit c =
    let some : 0 < c.args.at = omega (arith, c.if-at-eq0.false) in
    let here = subst (λ (s : HitSearch). HasEnd s.plan.literals s.rest c.args.at) (sym c.self.view_is) (c.has_end.ensures.end c.if-not-has_end.false) in
    rw (← c.self.view_is, c.first_of.ensures.line, c.first_of.ensures.after)
    (first-line-hit c.self.inside.compiled.now.literals c.self.invariant.normal c.self.invariant.apart c.self.inside.rest.now c.first_of.result.missed.now c.in_ok-line.line.now c.in_ok-line.after.now c.args.at
    some here c.first_of.ensures.missed c.in_ok-line.ensures c.if-line-at.false)
