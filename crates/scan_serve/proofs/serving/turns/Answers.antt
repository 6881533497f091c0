use Rattle.std.proofs.Common.{◌∙◌, arith, refl}
use Rattle.std.proofs.lemmas.Result.{err_from_is_err_and}
use Rattle.scan_serve.proofs.ServeLemmas.{has_no_end, served_then_ends, served_then_prefix, serving_none, serving_then}
use Rattle.scan_serve.proofs.serving.turns.Goals as goal

pub loop-turn-init : goal.loop-turn-init
loop-turn-init g c = record {
  goes = serving_none g.S.Answer.step c.args.session.now (g.R.ByteIn.coming c.args.input.now) (g.W.ByteOut.written c.args.out.now) c.args.window.now c.requires;
  empty = c.new-outbox.ensures;
  turns = omega arith;
  unread = refl;
  unwritten = refl;
}

pub returns-in_err-ended-clause-stop : goal.returns-in_err-ended-clause-stop
returns-in_err-ended-clause-stop g c =
    let p = err_from_is_err_and c.from_residual.result c.from_residual.ensures.1 in
    rw p.1 (served_then_prefix g.S.Answer.step c.args.session.now c.loop-turn.session (g.R.ByteIn.coming c.args.input.now) (g.R.ByteIn.coming c.loop-turn.input) (g.R.ByteIn.coming c.turn.new.input) (g.W.ByteOut.written c.args.out.now) (g.W.ByteOut.written c.loop-turn.out) (g.W.ByteOut.written c.turn.new.out) c.args.window.now c.loop-turn.window c.loop-turn.invariant.goes.served c.in_err-ended.ensures.stop)

pub returns-in-Some-clause-ends : goal.returns-in-Some-clause-ends
returns-in-Some-clause-ends g c =
    let ends = rw c.in-Some.is at c.in_ok-ended.ensures.ends in
    served_then_ends g.S.Answer.step c.args.session.now c.loop-turn.session c.turn.new.session (g.R.ByteIn.coming c.args.input.now) (g.R.ByteIn.coming c.loop-turn.input) (g.R.ByteIn.coming c.turn.new.input) (g.W.ByteOut.written c.args.out.now) (g.W.ByteOut.written c.loop-turn.out) (g.W.ByteOut.written c.turn.new.out) c.args.window.now c.loop-turn.window c.in-Some.ended (λ e. c.in_ok-ended.ensures.not_starved (cc)) c.loop-turn.invariant.goes.served ends

pub returns-in-Some-clause-no_stop : goal.returns-in-Some-clause-no_stop
returns-in-Some-clause-no_stop g c = λ e. c.in_ok-ended.ensures.no_stop (cc)

pub loop-turn-preserved : goal.loop-turn-preserved
loop-turn-preserved g c =
    let goes = rw c.in_default.is at c.in_ok-ended.ensures.goes_on in
    let more = rw c.in_default.is at c.in_ok-ended.ensures.more in
    record {
      goes = serving_then g.S.Answer.step c.args.session.now c.loop-turn.session c.turn.new.session (g.R.ByteIn.coming c.args.input.now) (g.R.ByteIn.coming c.loop-turn.input) (g.R.ByteIn.coming c.turn.new.input) (g.W.ByteOut.written c.args.out.now) (g.W.ByteOut.written c.loop-turn.out) (g.W.ByteOut.written c.turn.new.out) c.args.window.now c.loop-turn.window c.turn.new.window c.loop-turn.invariant.goes.served goes;
      empty = c.in_ok-ended.ensures.empty;
      turns = omega (arith, more, c.loop-turn.invariant.turns);
      unread = c.in_ok-ended.ensures.unread (has_no_end _ _ c.in_default.is) ∙ c.loop-turn.invariant.unread;
      unwritten = c.in_ok-ended.ensures.unwritten (λ e. cc) ∙ c.loop-turn.invariant.unwritten;
    }
