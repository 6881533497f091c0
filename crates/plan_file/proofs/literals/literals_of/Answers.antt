use Rattle.std.proofs.Common.{[], ◌∙◌, arith, sym}
use Rattle.std.proofs.lemmas.Result.{err_from_is_err_and}
use Rattle.lit_base.specs.declared.limits.TheConstants.{MAX_LIST_LEN}
use Rattle.plan_file.specs.Reading.{literal_at, literals_at}
use Rattle.plan_file.proofs.LoopLemmas.{left_more, literals_all, literals_stop, stops}
use Rattle.plan_file.proofs.LiteralLemmas.{literal_next}
use Rattle.plan_file.proofs.literals.literals_of.Goals as goal

pub returns-in_err-literal : goal.returns-in_err-literal
returns-in_err-literal c =
    let p = err_from_is_err_and c.from_residual.result c.from_residual.ensures.1 in
    rw (p.1, p.2) (stops (literal_at c.args.fold c.loop.room c.loop.before.now c.loop.rest.now) (literals_at c.args.fold c.args.count MAX_LIST_LEN [] c.args.bytes.now) c.in_err-literal.field-0.0
    (λ wrong is. sym c.loop.invariant.left ∙ literals_stop c.args.fold c.loop.room c.loop.before.now c.loop.list c.args.count c.loop.counter c.loop.rest.now wrong c.loop-test.true is) c.in_err-literal.ensures)

pub push-requires-clause-short : goal.push-requires-clause-short
push-requires-clause-short c =
    (literal_next c.args.fold c.loop.room c.loop.before.now c.loop.rest.now (c.in_ok-literal.literal.now, c.in_ok-literal.after.now) c.in_ok-literal.ensures).short

pub push-requires-clause-small : goal.push-requires-clause-small
push-requires-clause-small c =
    omega (arith, c.loop.invariant.total_len, (literal_next c.args.fold c.loop.room c.loop.before.now c.loop.rest.now (c.in_ok-literal.literal.now, c.in_ok-literal.after.now) c.in_ok-literal.ensures).fits)

pub loop-preserved : goal.loop-preserved
loop-preserved c =
    left_more c.args.fold c.loop.room c.loop.before.now c.loop.list c.push.new.list c.args.count c.loop.counter c.loop.rest.now c.in_ok-literal.literal.now c.in_ok-literal.after.now (literals_at c.args.fold c.args.count MAX_LIST_LEN [] c.args.bytes.now)
    (literal_next c.args.fold c.loop.room c.loop.before.now c.loop.rest.now (c.in_ok-literal.literal.now, c.in_ok-literal.after.now) c.in_ok-literal.ensures).fits
    c.loop-test.true c.in_ok-literal.ensures c.loop.invariant c.in_ok-push.ensures.ok

pub returns : goal.returns
returns c = sym c.loop.invariant.left ∙ literals_all c.args.fold c.loop.room c.loop.before.now c.loop.list c.args.count c.loop.counter c.loop.rest.now c.loop-test.false
