use Rattle.std.proofs.Common.{◌∙◌, refl}
use Rattle.std.proofs.lemmas.Result.{err_from_is_err_and}
use Rattle.scan_serve.proofs.RunLemmas.{answers_none, answers_then, halts_after}
use Rattle.scan_serve.proofs.frames.answer_all.Goals as goal

pub loop-len-init : goal.loop-len-init
loop-len-init g c = record {
  answers = answers_none g.S.Answer.step c.args.session.now c.args.bytes.now c.args.place.now (g.W.ByteOut.written c.args.out.now) c.args.outbox.now c.requires;
  flag = refl;
}

pub loop-len-preserved : goal.loop-len-preserved
loop-len-preserved g c =
    let found = rw c.in-Some.is at c.in_ok-len.ensures.found in
    record {
      answers = answers_then g.S.Answer.step c.args.session.now c.loop-len.session c.answer_one.new.session c.args.bytes.now c.args.place.now c.loop-len.place _ (g.W.ByteOut.written c.args.out.now) (g.W.ByteOut.written c.loop-len.out) (g.W.ByteOut.written c.answer_one.new.out) c.args.outbox.now c.loop-len.outbox c.answer_one.new.outbox c.loop-len.invariant.answers found.1;
      flag = c.in_ok-len.ensures.flag (λ e. cc) ∙ c.loop-len.invariant.flag;
    }

pub returns-in_err-len-clause-halt : goal.returns-in_err-len-clause-halt
returns-in_err-len-clause-halt g c =
    let p = err_from_is_err_and c.from_residual.result c.from_residual.ensures.1 in
    rw (p.1, p.2) (halts_after g.S.Answer.step c.args.session.now c.loop-len.session c.answer_one.new.session c.args.bytes.now c.args.place.now c.loop-len.place (g.W.ByteOut.written c.args.out.now) (g.W.ByteOut.written c.loop-len.out) (g.W.ByteOut.written c.answer_one.new.out) c.args.outbox.now c.loop-len.outbox c.answer_one.new.outbox c.in_err-len.field-0.0 c.loop-len.invariant.answers c.in_err-len.ensures.halt)

pub returns-clause-ok : goal.returns-clause-ok
returns-clause-ok g c =
    let found = rw c.in_default.is at c.in_ok-len.ensures.found in
    (found.0, found.1, answers_then g.S.Answer.step c.args.session.now c.loop-len.session c.answer_one.new.session c.args.bytes.now c.args.place.now c.loop-len.place c.loop-len.place (g.W.ByteOut.written c.args.out.now) (g.W.ByteOut.written c.loop-len.out) (g.W.ByteOut.written c.answer_one.new.out) c.args.outbox.now c.loop-len.outbox c.answer_one.new.outbox c.loop-len.invariant.answers found.2)
