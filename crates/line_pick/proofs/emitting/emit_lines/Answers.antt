-- One line more, the last one emitted, and the end of the text.
use Rattle.std.proofs.Common.{◌+◌, refl, arith}
use Rattle.std.proofs.lemmas.Result.{err_from_is_err_and}
use Rattle.lit_base.specs.Lines.{ended_lines}
use Rattle.line_pick.specs.Emitting.{numbered}
use Rattle.line_pick.specs.Matching.{picks}
use Rattle.line_pick.proofs.EmittedLemmas.{Emitted-lines, EmittedOn-prefix, EmittedOn-last, EmittedOn-end, numbered-first, count-none, count-first, length-first, answer_to-More, numbered-one}
use Rattle.line_pick.proofs.CutLemmas.{no-newlines}
use Rattle.line_pick.proofs.emitting.emit_lines.Goals as goal

pub loop-cut-init : goal.loop-cut-init
loop-cut-init g c = record {
  newlines = no-newlines c.args.text.now;
  room = omega arith;
  count = refl;
  emitted = record { go = λ answer t h. h };
}

pub selects_next-selected-requires-clause-line : goal.selects_next-selected-requires-clause-line
selects_next-selected-requires-clause-line g c = record { rest = c.in-Some.cut.after.now; whole = c.in-Some.ensures.line.whole }

pub returns-in_err-emit_if-clause-emitted : goal.returns-in_err-emit_if-clause-emitted
returns-in_err-emit_if-clause-emitted g c =
    let p = err_from_is_err_and c.from_residual.result c.from_residual.ensures.1 in
    let test = picks c.args.matcher in
    rw (p.1, p.2) (EmittedOn-last (numbered test (c.loop-cut.lines + 1) (ended_lines c.in-Some.cut.after.now)) c.loop-cut.invariant.emitted
    (numbered-first test c.loop-cut.lines c.loop-cut.rest.now c.in-Some.cut.line.now c.in-Some.cut.after.now c.in-Some.ensures.line) (Emitted-lines (numbered-one test c.loop-cut.lines c.in-Some.cut.line.now c.selects_next-selected.ensures) c.in_err-emit_if.ensures.emitted) (answer_to-More c.in_err-emit_if.field-0.0))

pub loop-cut-preserved : goal.loop-cut-preserved
loop-cut-preserved g c =
    let test = picks c.args.matcher in
    let rest = c.loop-cut.rest.now in
    let line = c.in-Some.cut.line.now in
    let after = c.in-Some.cut.after.now in
    let first = c.in-Some.ensures.line in
    record {
      newlines = c.in-Some.ensures.newlines;
      room = omega (arith, c.loop-cut.invariant.room, length-first test c.loop-cut.lines rest line after first);
      count = omega (arith, c.loop-cut.invariant.count, count-first test c.loop-cut.lines rest line after first);
      emitted = EmittedOn-prefix c.loop-cut.invariant.emitted (numbered-first test c.loop-cut.lines rest line after first) (Emitted-lines (numbered-one test c.loop-cut.lines line c.selects_next-selected.ensures) c.in_ok-emit_if.ensures.emitted);
    }

pub returns-clause-emitted : goal.returns-clause-emitted
returns-clause-emitted g c = EmittedOn-end (picks c.args.matcher) c.loop-cut.lines c.loop-cut.rest.now c.in_default.ensures.line c.loop-cut.invariant.emitted

pub returns-clause-count : goal.returns-clause-count
returns-clause-count g c = omega (arith, c.loop-cut.invariant.count, count-none c.loop-cut.rest.now c.in_default.ensures.line)
