-- By each of the rules, a line goes on as it is.
use Rattle.std.proofs.Common.{◌<◌, arith, ap, length}
use Rattle.std.specs.Option.{option_copied}
use Rattle.std.proofs.lemmas.Bool.{ltb-true}
use Rattle.std.proofs.lemmas.Grind.{common_steps}
use Rattle.line_pick.proofs.OpenLemmas.{decided-any, decided-hit, decided-long, none-picked, null-picked}
use Rattle.line_pick.proofs.open_line.is_decided.Goals as goal

pub returns-then-matcher : goal.returns-then-matcher
returns-then-matcher c = λ long.
    let m = c.args.matcher in
    decided-long m c.if-matcher.true c.longest_with.result c.longest_with.ensures.greatest c.args.line.now (ltb-true _ _ long)

pub returns-then-matcher-2 : goal.returns-then-matcher-2
returns-then-matcher-2 c = λ _.
    let m = c.args.matcher in
    let some : 0 < length c.args.line.now = grind (arith, common_steps) in
    decided-any _ c.args.line.now some (null-picked m c.if-matcher.false c.if-matcher-2.true)

pub returns-in-Some : goal.returns-in-Some
returns-in-Some c = λ ends.
    let m = c.args.matcher in
    let some : 0 < length c.args.line.now = grind (arith, common_steps) in
    decided-hit m c.in-Some.compiled.now c.args.line.now (ap option_copied c.in-Some.is) c.if-matcher.false c.if-matcher-2.false some (c.ends_with_literal.ensures ends)

pub returns-in-None : goal.returns-in-None
returns-in-None c = λ _.
    let m = c.args.matcher in
    let some : 0 < length c.args.line.now = grind (arith, common_steps) in
    decided-any _ c.args.line.now some (none-picked m c.if-matcher-2.false (ap option_copied c.in-None.is))
