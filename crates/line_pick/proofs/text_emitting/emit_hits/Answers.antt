-- The lines before a hit, the hit's line, and the last lines.
use Rattle.std.proofs.Common.{◌≡◌, ◌+◌, length, refl, sym, ap, ◌∙◌, arith, subst, true, ◌≤◌, false}
use Rattle.std.proofs.lemmas.Result.{IfOk-weaker, err_from_is_err_and}
use Rattle.lit_base.specs.Lines.{ended_lines}
use Rattle.lit_base.specs.Selected.{matches}
use Rattle.lit_plan.specs.Plans.{Plan}
use Rattle.text_lines.specs.HitLines.{AllMiss, HitSearch}
use Rattle.line_pick.specs.Emitting.{answer_of}
use Rattle.line_pick.proofs.AroundHitLines.{hit-count, hit-length, missed-numbered}
use Rattle.line_pick.proofs.EmittedHits.{EmittedOn-hit, hit-last, missed-last}
use Rattle.line_pick.proofs.EmittedLemmas.{Emitted-lines, answer_to-More}
use Rattle.line_pick.proofs.NumberLemmas.{Emitted-taken}
use Rattle.line_pick.proofs.text_emitting.emit_hits.Goals as goal

pub loop-hit-init : goal.loop-hit-init
loop-hit-init g c = record {
  plan = refl;
  finder = refl;
  room = omega arith;
  count = λ _. refl;
  emitted = record { go = λ answer t h. h };
}

pub selects_at_hit-selected-requires : goal.selects_at_hit-selected-requires
selects_at_hit-selected-requires g c =
    subst (λ (p : Plan). matches p.literals.folding false p.literals.texts c.in-Some.hit.line.now ≡ true) (c.loop-hit.invariant.plan ∙ sym c.compiled-compiled.ensures) c.in-Some.ensures.hit.hit

pub returns-in_err-lines-clause-emitted : goal.returns-in_err-lines-clause-emitted
returns-in_err-lines-clause-emitted g c =
    let p = err_from_is_err_and c.from_residual.result c.from_residual.ensures.1 in
    rw (p.1, p.2) (missed-last g.S.Sink.takes c.args.is_numbered c.args.rule.whole c.args.rule.invert c.loop-hit.lines c.loop-hit.invariant.plan c.in-Some.ensures.hit c.loop-hit.invariant.emitted
    c.in_err-lines.ensures.emitted (answer_to-More c.in_err-lines.field-0.0))

pub returns-in_err-emit_if-clause-emitted : goal.returns-in_err-emit_if-clause-emitted
returns-in_err-emit_if-clause-emitted g c =
    let p = err_from_is_err_and c.from_residual-in_err-emit_if.result c.from_residual-in_err-emit_if.ensures.1 in
    rw (p.1, p.2) (hit-last g.S.Sink.takes c.args.is_numbered c.args.rule.whole c.args.rule.invert c.loop-hit.lines c.loop-hit.invariant.plan c.in-Some.ensures.hit c.loop-hit.invariant.emitted
    c.compiled-compiled.ensures c.selects_at_hit-selected.ensures c.in_ok-lines.ensures.count c.in_ok-lines.ensures.emitted c.in_err-emit_if.ensures.emitted (answer_to-More c.in_err-emit_if.field-0.0))

pub loop-hit-preserved : goal.loop-hit-preserved
loop-hit-preserved g c = rw c.in-Some.ensures.moved (record {
  plan = c.loop-hit.invariant.plan;
  finder = c.loop-hit.invariant.finder;
  room = omega (arith, c.loop-hit.invariant.room, c.in_ok-lines.ensures.bound, hit-length c.in-Some.ensures.hit);
  count = λ e. omega (arith, c.loop-hit.invariant.count e, c.in_ok-lines.ensures.count e, hit-count c.in-Some.ensures.hit);
  emitted = EmittedOn-hit g.S.Sink.takes c.args.is_numbered c.args.rule.whole c.args.rule.invert c.loop-hit.lines c.loop-hit.invariant.plan c.in-Some.ensures.hit c.loop-hit.invariant.emitted
      c.compiled-compiled.ensures c.selects_at_hit-selected.ensures c.in_ok-lines.ensures.count c.in_ok-lines.ensures.emitted c.in_ok-emit_if.ensures.emitted;
})

pub returns-then-credit-eq0-clause-emitted : goal.returns-then-credit-eq0-clause-emitted
returns-then-credit-eq0-clause-emitted g c =
    let on = EmittedOn-hit g.S.Sink.takes c.args.is_numbered c.args.rule.whole c.args.rule.invert c.loop-hit.lines c.loop-hit.invariant.plan c.in-Some.ensures.hit c.loop-hit.invariant.emitted
    c.compiled-compiled.ensures c.selects_at_hit-selected.ensures c.in_ok-lines.ensures.count c.in_ok-lines.ensures.emitted c.in_ok-emit_if.ensures.emitted in
    let each = rw c.compiled-compiled.ensures at c.emit_whole_lines.ensures.emitted in
    on.go (answer_of c.emit_whole_lines.result) c.emit_whole_lines.new.sink (Emitted-taken g.S.Sink.takes c.args.is_numbered each)

pub returns-then-credit-eq0-clause-count : goal.returns-then-credit-eq0-clause-count
returns-then-credit-eq0-clause-count g c =
    let after = c.in-Some.hit.after.now in
    IfOk-weaker c.emit_whole_lines.result (λ lines. lines ≡ (c.in_ok-lines.lines + 1) + length (ended_lines after)) (λ lines. c.args.is_numbered ≡ true → lines ≡ c.args.before + length (ended_lines c.args.hits.now.rest))
    (λ lines is e. omega (arith, is, c.loop-hit.invariant.count e, c.in_ok-lines.ensures.count e, hit-count c.in-Some.ensures.hit)) c.emit_whole_lines.ensures.count

pub returns-then-credit-eq0-clause-bound : goal.returns-then-credit-eq0-clause-bound
returns-then-credit-eq0-clause-bound g c =
    let after = c.in-Some.hit.after.now in
    IfOk-weaker c.emit_whole_lines.result (λ lines. lines ≤ (c.in_ok-lines.lines + 1) + length after) (λ lines. lines ≤ c.args.before + length c.args.hits.now.rest)
    (λ lines is. omega (arith, is, c.loop-hit.invariant.room, c.in_ok-lines.ensures.bound, hit-length c.in-Some.ensures.hit)) c.emit_whole_lines.ensures.bound

pub returns-clause-emitted : goal.returns-clause-emitted
returns-clause-emitted g c =
    let l = c.args.hits.now.plan.literals in
    let rest = c.loop-hit.hits.rest in
    let same : c.rest.result.now ≡ rest = c.rest.ensures ∙ ap (λ (s : HitSearch). s.rest) c.in_default.ensures.moved in
    let misses = subst (λ (q : Plan). AllMiss q.literals rest) c.loop-hit.invariant.plan c.in_default.ensures.hit in
    let last = rw same at c.emit_all_if-2.ensures.emitted in
    c.loop-hit.invariant.emitted.go (answer_of c.emit_all_if-2.result) c.emit_all_if-2.new.sink
    (Emitted-lines (sym (missed-numbered l c.args.rule.whole c.args.rule.invert c.loop-hit.lines rest misses)) last)

pub returns-clause-count : goal.returns-clause-count
returns-clause-count g c =
    let same : c.rest.result.now ≡ c.loop-hit.hits.rest = c.rest.ensures ∙ ap (λ (s : HitSearch). s.rest) c.in_default.ensures.moved in
    IfOk-weaker c.emit_all_if-2.result (λ lines. c.args.is_numbered ≡ true → lines ≡ c.loop-hit.lines + length (ended_lines c.rest.result.now)) (λ lines. c.args.is_numbered ≡ true → lines ≡ c.args.before + length (ended_lines c.args.hits.now.rest))
    (λ lines is e. is e ∙ ap (λ t. c.loop-hit.lines + length (ended_lines t)) same ∙ c.loop-hit.invariant.count e) c.emit_all_if-2.ensures.count

pub returns-clause-bound : goal.returns-clause-bound
returns-clause-bound g c =
    let same : c.rest.result.now ≡ c.loop-hit.hits.rest = c.rest.ensures ∙ ap (λ (s : HitSearch). s.rest) c.in_default.ensures.moved in
    IfOk-weaker c.emit_all_if-2.result (λ lines. lines ≤ c.loop-hit.lines + length c.rest.result.now) (λ lines. lines ≤ c.args.before + length c.args.hits.now.rest)
    (λ lines is. omega (arith, is, c.loop-hit.invariant.room, ap length same)) c.emit_all_if-2.ensures.bound
