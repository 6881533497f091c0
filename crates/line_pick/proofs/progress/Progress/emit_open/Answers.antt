-- Nothing is no line.
use Rattle.std.proofs.Common.{◌≡◌, [], ap, arith}
use Rattle.std.proofs.lemmas.Grind.{common_steps}
use Rattle.lit_base.specs.Lines.{last_line}
use Rattle.line_pick.specs.Emitting.{NoneLeft, numbered}
use Rattle.line_pick.specs.Matching.{picks}
use Rattle.line_pick.proofs.EmittedLemmas.{Emitted-lines}
use Rattle.line_pick.proofs.progress.Progress.emit_open.Goals as goal

pub returns-then-is_empty-clause-emitted : goal.returns-then-is_empty-clause-emitted
returns-then-is_empty-clause-emitted g c =
    let empty : [] ≡ c.args.self.now.held.items = grind (arith, common_steps) in
    Emitted-lines (ap (λ t. numbered (picks c.args.search.now.matcher) c.args.self.now.lines (last_line t)) empty) NoneLeft
