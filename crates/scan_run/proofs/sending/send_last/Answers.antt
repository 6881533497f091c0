use Rattle.std.proofs.Common.{map}
use Rattle.scan_wire.specs.Frames.{replies_text, reply_text}
use Rattle.scan_wire.specs.Messages.{Fed, Hits}
use Rattle.scan_serve.proofs.SendLemmas.{err_weaker, less_is, less_of_more, reply_some, sends_is, sends_then, sends_then_less}
use Rattle.scan_run.specs.Feeding.{last_block}
use Rattle.scan_run.proofs.SendingLemmas.{ok_weaker, on_err, sent_place}
use Rattle.scan_run.proofs.sending.send_last.Goals as goal

pub returns-in_err-send_rest-clause-err : goal.returns-in_err-send_rest-clause-err
returns-in_err-send_rest-clause-err g c =
    let blocks = last_block c.args.hits.now in
    let sent_full = replies_text (map (Hits c.args.stream) blocks) in
    on_err c.from_residual.result
    (less_is _ _ _ _ _ (sent_place c.args.stream blocks c.args.place)
    (less_of_more _ _ c.args.outbox.now sent_full (reply_text (Fed c.args.stream c.args.place)) (reply_some (Fed c.args.stream c.args.place)) c.in_err-send_rest.ensures.err.prefix))

pub returns-clause-ok : goal.returns-clause-ok
returns-clause-ok g c =
    let blocks = last_block c.args.hits.now in
    let sent_full = replies_text (map (Hits c.args.stream) blocks) in
    ok_weaker c.push.result
    (λ sent. sends_is _ _ _ _ _ _ (sent_place c.args.stream blocks c.args.place)
    (sends_then _ _ _ c.args.outbox.now _ _ sent_full (reply_text (Fed c.args.stream c.args.place)) c.in_ok-send_rest.ensures.ok sent))
    c.push.ensures.ok

pub returns-clause-err : goal.returns-clause-err
returns-clause-err g c =
    let blocks = last_block c.args.hits.now in
    let sent_full = replies_text (map (Hits c.args.stream) blocks) in
    err_weaker c.push.result
    (λ sent. less_is _ _ _ _ _ (sent_place c.args.stream blocks c.args.place)
    (sends_then_less _ _ _ c.args.outbox.now _ sent_full (reply_text (Fed c.args.stream c.args.place)) c.in_ok-send_rest.ensures.ok sent))
    c.push.ensures.err
