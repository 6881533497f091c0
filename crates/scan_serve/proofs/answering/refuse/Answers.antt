use Rattle.std.proofs.Common.{ap}
use Rattle.std.proofs.lemmas.Result.{on_ok_weaker}
use Rattle.scan_wire.specs.Frames.{reply_text}
use Rattle.scan_wire.specs.Messages.{ReplyParts}
use Rattle.scan_serve.proofs.SendLemmas.{err_weaker, sends_is, sends_then_failed, sends_then_flushed}
use Rattle.scan_serve.proofs.answering.refuse.Goals as goal

pub returns-clause-ok : goal.returns-clause-ok
returns-clause-ok g c =
    let added = sends_is _ _ _ _ _ _ (ap (λ (r : ReplyParts). reply_text r) c.refusal.ensures.value) c.in_ok-push.ensures.ok in
    on_ok_weaker c.flush.result (λ sent. sends_then_flushed _ _ _ _ _ _ _ added sent) c.flush.ensures.ok

pub returns-clause-err : goal.returns-clause-err
returns-clause-err g c =
    let added = sends_is _ _ _ _ _ _ (ap (λ (r : ReplyParts). reply_text r) c.refusal.ensures.value) c.in_ok-push.ensures.ok in
    err_weaker c.flush.result (λ sent. sends_then_failed _ _ _ _ _ _ added sent) c.flush.ensures.err
