-- A literal as long as the line ends with it only as a whole.
use Rattle.std.proofs.Common.{◌∙◌, arith, sym}
use Rattle.line_pick.proofs.Literals.{bounded-texts, too-long, whole-matches}
use Rattle.line_pick.proofs.matcher.is_literal.Goals as goal

pub returns-then-longest-line : goal.returns-then-longest-line
returns-then-longest-line c =
    let l = c.args.list.now in
    sym (too-long l.folding l.texts c.args.line.now (λ k d inside. omega (arith, c.if-longest-line.true, bounded-texts l.texts c.longest-longest.result c.longest-longest.ensures.greatest k d inside)))

pub returns : goal.returns
returns c =
    c.is_some.ensures
    ∙ whole-matches c.args.list.now c.normal_law.ensures c.args.line.now c.first_as_long-first.result c.first_as_long-first.ensures.shorter c.first_as_long-first.ensures.as_long c.next_ending.result c.next_ending.ensures.first
