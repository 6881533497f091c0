-- The open line is emitted under the number that is shown.
use Rattle.std.proofs.Common.{rules, cond}
use Rattle.lit_base.specs.Lines.{last_line}
use Rattle.line_pick.specs.Matching.{picks}
use Rattle.line_pick.proofs.NumberLemmas.{Emitted-moved, Emitted-taken, shown-same}
use Rattle.line_pick.proofs.picker.Picker.finish.Goals as goal

pub returns-clause-running : goal.returns-clause-running
returns-clause-running g c = rw (← c.self.view_is) (λ running.
    let p = c.self.inside.progress in
    record {
      emitted = rw c.answered-answer.ensures (Emitted-moved g.S.Sink.takes (picks c.self.inside.search.matcher) p.lines (cond p.is_numbered p.lines 0) (last_line p.held.items) p.is_numbered (shown-same p.is_numbered p.lines) (Emitted-taken g.S.Sink.takes p.is_numbered c.emit_open.ensures.emitted));
      state = search rules;
      fault = search rules;
    })
