-- What ends after the lines before a text ends in the text. The search is one of the text by the plan.
use Rattle.std.proofs.Common.{◌≡◌, ◌+◌, ◌-◌, IfSome, length, arith, ap, subst, sym}
use Rattle.text_search.specs.Searched.{Searched}
use Rattle.text_lines.proofs.AfterLines.{after-len, rest-next, rest-none}
use Rattle.text_lines.proofs.hit_line.HitLines.first_end.Goals as goal

pub next_end_by-requires : goal.next_end_by-requires
next_end_by-requires c = subst (λ (s : Searched). IfSome c.self.inside.finder (λ list. list ≡ s.plan.literals)) (sym c.self.invariant.by_plan) c.self.invariant.serves

pub returns-in_err-end-clause-next : goal.returns-in_err-end-clause-next
returns-in_err-end-clause-next c =
    let text = c.self.inside.text.now in
    let rest = c.self.inside.rest.now in
    let place : (length text - length rest) + length rest ≡ length text = omega (arith, after-len text rest c.self.invariant.after) in
    let none = rw (ap (λ (s : Searched). s.plan.literals) c.self.invariant.by_plan, ap (λ (s : Searched). s.text) c.self.invariant.by_plan) at c.in_err-end.ensures.next in
    rw (c.from_residual.ensures, ← c.self.view_is) (rest-none c.self.inside.compiled.now.literals c.self.invariant.apart text rest (length text - length rest) c.self.invariant.after place none)

pub returns-clause-next : goal.returns-clause-next
returns-clause-next c =
    let text = c.self.inside.text.now in
    let rest = c.self.inside.rest.now in
    let place : (length text - length rest) + length rest ≡ length text = omega (arith, after-len text rest c.self.invariant.after) in
    let next = rw (ap (λ (s : Searched). s.plan.literals) c.self.invariant.by_plan, ap (λ (s : Searched). s.text) c.self.invariant.by_plan) at c.in_ok-end.ensures.next in
    rw (← c.self.view_is) (rest-next c.self.inside.compiled.now.literals c.self.invariant.apart text rest (length text - length rest) c.in_ok-end.end c.self.invariant.after place next)
