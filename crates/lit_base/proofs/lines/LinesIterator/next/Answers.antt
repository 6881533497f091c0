-- An empty rest has no line.
use Rattle.std.proofs.Common.{◌≡◌, [], arith, ap, ◌∙◌}
use Rattle.std.proofs.lemmas.Grind.{common_steps}
use Rattle.lit_base.specs.Lines.{lines}
use Rattle.lit_base.proofs.LineLemmas.{lines-nil}
use Rattle.lit_base.proofs.lines.LinesIterator.next.Goals as goal

pub returns-then-is_empty-clause-steps : goal.returns-then-is_empty-clause-steps
returns-then-is_empty-clause-steps c =
    let empty : c.args.self.now.rest.now ≡ [] = grind (arith, common_steps) in
    let none : lines c.args.self.now.rest.now ≡ [] = ap lines empty ∙ lines-nil in
    (none, none)
