-- Lines emitted of the rest are emitted of the text, and the lines of the rest are still to be counted.
use Rattle.std.proofs.Common.{◌≡◌, ◌≤◌, ◌+◌, length}
use Rattle.lit_base.specs.Lines.{ended_lines}
use Rattle.text_lines.specs.Cutting.{AreNewlines}
use Rattle.line_pick.specs.Emitting.{numbered}
use Rattle.line_pick.specs.Matching.{picks}
use Rattle.line_pick.proofs.EmittedLemmas.{EmittedOn}
use Rattle.line_pick.proofs.emitting.emit_lines.Given as goal

abbrev pub invariant-loop-cut : goal.invariant-loop-cut
invariant-loop-cut g l = record {
  newlines : AreNewlines l.rest l.newlines;
  room : l.lines + length l.rest ≤ l.fn.before + length l.fn.text;
  count : l.lines + length (ended_lines l.rest) ≡ l.fn.before + length (ended_lines l.fn.text);
  emitted : EmittedOn g.S.Sink.takes l.initial.sink (numbered (picks l.matcher) l.fn.before (ended_lines l.fn.text)) l.sink (numbered (picks l.matcher) l.lines (ended_lines l.rest));
}

abbrev pub decreases-loop-cut : goal.decreases-loop-cut
decreases-loop-cut g l = length l.rest
