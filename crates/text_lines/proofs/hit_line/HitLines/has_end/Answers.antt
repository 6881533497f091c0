-- The literal that ends in the whole ends in the text.
use Rattle.std.proofs.Common.{◌≡◌, ◌+◌, ◌-◌, length, subst, arith}
use Rattle.lit_base.specs.Occurrences.{Occurs}
use Rattle.text_lines.proofs.AfterLines.{after-len, rest-end}
use Rattle.text_lines.proofs.hit_line.HitLines.has_end.Goals as goal

pub returns-then-ends_at-clause-end : goal.returns-then-ends_at-clause-end
returns-then-ends_at-clause-end c = λ _.
    let literal = c.self.inside.column.literal in
    rw (← c.self.view_is) (literal, subst (λ list. Occurs list c.self.inside.rest.now literal c.args.at) c.index-list.ensures (c.ends_at.ensures.0 c.if-ends_at.true))

pub returns-in-Some-clause-end : goal.returns-in-Some-clause-end
returns-in-Some-clause-end c = λ _.
    let text = c.self.inside.text.now in
    let rest = c.self.inside.rest.now in
    let from = length text - length rest in
    let place : from + length rest ≡ length text = omega (arith, after-len text rest c.self.invariant.after) in
    rw (← c.self.view_is) (rest-end c.self.inside.compiled.now.literals c.self.invariant.apart text rest from c.args.at c.self.invariant.after place c.requires.some
    (c.in-Some.first, subst (λ list. Occurs list text c.in-Some.first (from + c.args.at)) c.index-list.ensures c.in-Some.ensures.first.occurs))
