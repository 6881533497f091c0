-- A read that fails, a read that finds the end, one more piece, and the last one.
use Rattle.std.proofs.Common.{◌≡◌, ◌<◌, [], refl, rules, arith, Ok, ◌∙◌, subst, take}
use Rattle.std.proofs.lemmas.Result.{err_from_is_err_and}
use Rattle.grep_run.specs.Scanning.{FeedsPiece}
use Rattle.grep_run.specs.Writers.{writer}
use Rattle.grep_run.proofs.ScanLemmas.{so_far-cut, so_far-end, so_far-ended, so_far-fault, so_far-more, so_far-turns}
use Rattle.grep_run.proofs.scanning.read_lines.Goals as goal

pub returns-in-Err-clause-answer : goal.returns-in-Err-clause-answer
returns-in-Err-clause-answer g d = λ o test name c before s e short. so_far-fault _ d.read_some.new.buf (d.loop-turn.invariant.reading o test name c before s e) d.in-Err.field-0 d.in-Err.ensures.bytes short

pub returns-in-Ok-eq0-clause-answer : goal.returns-in-Ok-eq0-clause-answer
returns-in-Ok-eq0-clause-answer g d = λ o test name c before s e short.
    let none : d.in-Ok-eq0.field-0 ≡ 0 = search rules in
    let ends = so_far-end _ d.read_some.new.buf (d.loop-turn.invariant.reading o test name c before s e) d.in-Ok-eq0.field-0 none (omega (arith, d.loop-turn.invariant.room)) d.in-Ok-eq0.ensures.bytes in
    d.end_lines.ensures.answer o test name c before _ ends.0 short ends.1

pub returns-in_err-end-in-Ok-clause-answer : goal.returns-in_err-end-in-Ok-clause-answer
returns-in_err-end-in-Ok-clause-answer g d =
    let p = err_from_is_err_and d.from_residual.result d.from_residual.ensures.1 in
    rw p.1 (λ o test name c before s e short.
    let r = d.loop-turn.invariant.reading o test name c before s e in
    so_far-cut _ d.read_some.new.buf r d.in-Ok.count _ d.in-Ok.ensures.bytes (d.in_err-end-in-Ok.ensures.answer o test name r.done _ r.stands))

pub returns-in-Some-clause-answer : goal.returns-in-Some-clause-answer
returns-in-Some-clause-answer g d = λ o test name c before s e short.
    let r = d.loop-turn.invariant.reading o test name c before s e in
    so_far-ended _ d.read_some.new.buf r d.in-Ok.count d.in-Some.end _ d.feed.new.picker d.feed.new.block _ d.in-Ok.ensures.bytes short refl
    (subst (λ x. FeedsPiece o test name r.done (take d.in-Ok.count d.read_some.new.buf) (Ok x) d.feed.new.picker d.feed.new.block before (writer g.W.ByteOut.written g.W.ByteOut.has_failed d.feed.new.out)) d.in-Some.is (d.in_ok-end-in-Ok.ensures.answer o test name r.done _ r.stands))

pub loop-turn-preserved : goal.loop-turn-preserved
loop-turn-preserved g d = record {
  reading = λ o test name c before s e.
      let r = d.loop-turn.invariant.reading o test name c before s e in
      let some : 0 < d.in-Ok.count = search rules in
      so_far-more _ d.read_some.new.buf r d.in-Ok.count d.feed.new.picker d.feed.new.block _ d.in-Ok.ensures.bytes some d.in-Ok.ensures.within
      (subst (λ x. FeedsPiece o test name r.done (take d.in-Ok.count d.read_some.new.buf) (Ok x) d.feed.new.picker d.feed.new.block before (writer g.W.ByteOut.written g.W.ByteOut.has_failed d.feed.new.out)) d.in_default.is (d.in_ok-end-in-Ok.ensures.answer o test name r.done _ r.stands));
  room = omega (arith, d.loop-turn.invariant.room);
  plan = d.in_ok-end-in-Ok.ensures.plan ∙ d.loop-turn.invariant.plan;
  flag = search rules;
  unread = search rules;
}

pub returns-clause-answer : goal.returns-clause-answer
returns-clause-answer g d = λ o test name c before s e short. so_far-turns (g.I.ByteIn.coming d.loop-turn.input) [] (d.loop-turn.invariant.reading o test name c before s e) short (omega (arith, d.loop-turn-test.false))
