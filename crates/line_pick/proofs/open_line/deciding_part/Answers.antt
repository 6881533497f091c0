-- By each of the rules, a part decides the line.
use Rattle.std.proofs.Common.{◌≡◌, Some, ap, arith, sym}
use Rattle.std.specs.Option.{option_copied}
use Rattle.line_pick.specs.Matching.{picks}
use Rattle.line_pick.specs.OpenLines.{longest_in}
use Rattle.line_pick.proofs.OpenLemmas.{literals-picked, none-picked, null-picked, part-weaker, prefix-part, prefix-picked}
use Rattle.line_pick.proofs.open_line.deciding_part.Goals as goal

pub returns-then-matcher-clause-part : goal.returns-then-matcher-clause-part
returns-then-matcher-clause-part c =
    let m = c.args.search.now.matcher in
    let p = c.prefix_longer in
    prefix-part (picks m) (longest_in (option_copied m.plan)) c.longest_with.result c.args.line.now p.result.start p.result.end
    (prefix-picked m c.if-matcher.true c.longest_with.result c.longest_with.ensures.greatest c.args.line.now p.result.end p.ensures.end) p.ensures.start p.ensures.end (omega (arith, c.longest_with.ensures.value))

pub returns-then-matcher-2-clause-part : goal.returns-then-matcher-2-clause-part
returns-then-matcher-2-clause-part c =
    let m = c.args.search.now.matcher in
    let p = c.prefix_longer-then-matcher-2 in
    prefix-part (picks m) (longest_in (option_copied m.plan)) 0 c.args.line.now p.result.start p.result.end (λ more. null-picked m c.if-matcher.false c.if-matcher-2.true _ _) p.ensures.start p.ensures.end (omega arith)

pub returns-in-Some-clause-part : goal.returns-in-Some-clause-part
returns-in-Some-clause-part c =
    let m = c.args.search.now.matcher in
    let q = c.in-Some.compiled.now in
    let known : option_copied m.plan ≡ Some q = ap option_copied c.in-Some.is in
    part-weaker _ _ _ (longest_in (option_copied m.plan)) c.args.line.now c.hit_or_tail.result.start c.hit_or_tail.result.end
    (literals-picked m q known c.if-matcher.false c.if-matcher-2.false) (sym (ap longest_in known)) c.hit_or_tail.ensures.part

pub returns-in-None-clause-part : goal.returns-in-None-clause-part
returns-in-None-clause-part c =
    let m = c.args.search.now.matcher in
    let p = c.prefix_longer-in-None in
    prefix-part (picks m) (longest_in (option_copied m.plan)) 0 c.args.line.now p.result.start p.result.end (λ more. none-picked m c.if-matcher-2.false (ap option_copied c.in-None.is) _ _) p.ensures.start p.ensures.end (omega arith)
