-- The line is numbered if it is selected.
use Rattle.std.proofs.Common.{sym}
use Rattle.line_pick.specs.Emitting.{NoneLeft, answer_of}
use Rattle.line_pick.proofs.EmittedLemmas.{Emitted-lines, Emitted-one, numbered-one}
use Rattle.line_pick.proofs.emitting.emit_if.Goals as goal

pub returns-then-selected-clause-emitted : goal.returns-then-selected-clause-emitted
returns-then-selected-clause-emitted g c =
    Emitted-lines (numbered-one (λ _. c.args.selected) c.args.before c.args.line.now (sym c.if-selected.true)) (Emitted-one (answer_of c.emit.result) c.emit.ensures.taken)

pub returns-else-selected-clause-emitted : goal.returns-else-selected-clause-emitted
returns-else-selected-clause-emitted g c =
    Emitted-lines (numbered-one (λ _. c.args.selected) c.args.before c.args.line.now (sym c.if-selected.false)) NoneLeft
