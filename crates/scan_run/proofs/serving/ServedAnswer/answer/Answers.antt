-- The session answers, and keeps its tickets.
use Rattle.std.proofs.Common.{subst}
use Rattle.scan_serve.specs.Answering.{Stopped}
use Rattle.scan_serve.proofs.SendLemmas.{err_weaker}
use Rattle.scan_wire.specs.Messages.{borrowed_parts}
use Rattle.scan_run.specs.Beside.{Beside, IsStepBeside}
use Rattle.scan_run.proofs.FeedLemmas.{stopped_with}
use Rattle.scan_run.proofs.serving.ServedAnswer.answer.Goals as goal

pub returns-clause-err : goal.returns-clause-err
returns-clause-err g c =
    err_weaker c.answer_request.result
    (λ stopped. subst (λ (s : Beside). Stopped IsStepBeside s (borrowed_parts c.args.request) (g.W.ByteOut.written c.args.out.now) (g.W.ByteOut.written c.answer_request.new.out) c.args.outbox.now) c.self.view_is
    (stopped_with c.self.inside.loaded.now c.self.inside.session _ _ _ _ stopped))
    c.answer_request.ensures.err
