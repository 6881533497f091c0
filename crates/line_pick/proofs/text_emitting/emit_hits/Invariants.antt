-- Lines emitted of the rest are emitted of the text, and the lines of the rest are still to be counted, if lines are
-- numbered.
use Rattle.std.proofs.Common.{◌≡◌, ◌≤◌, ◌+◌, length, true}
use Rattle.lit_base.specs.Lines.{ended_lines}
use Rattle.lit_base.specs.Selected.{is_selected}
use Rattle.line_pick.specs.Emitting.{as_numbered, numbered}
use Rattle.line_pick.proofs.EmittedLemmas.{EmittedOn}
use Rattle.line_pick.proofs.text_emitting.emit_hits.Given as goal

abbrev pub invariant-loop-hit : goal.invariant-loop-hit
invariant-loop-hit g l =
    let all = l.fn.hits.plan.literals in
    record {
      plan : l.hits.plan ≡ l.fn.hits.plan;
      finder : l.hits.finder ≡ l.fn.hits.finder;
      room : l.lines + length l.hits.rest ≤ l.fn.before + length l.fn.hits.rest;
      count : l.is_numbered ≡ true → l.lines + length (ended_lines l.hits.rest) ≡ l.fn.before + length (ended_lines l.fn.hits.rest);
      emitted : EmittedOn (as_numbered l.is_numbered g.S.Sink.takes) l.initial.sink (numbered (is_selected all.folding l.rule.whole l.rule.invert all.texts) l.fn.before (ended_lines l.fn.hits.rest)) l.sink (numbered (is_selected all.folding l.rule.whole l.rule.invert all.texts) l.lines (ended_lines l.hits.rest));
    }

abbrev pub decreases-loop-hit : goal.decreases-loop-hit
decreases-loop-hit g l = length l.hits.rest
