use Rattle.scan_wire.specs.Messages.{Feed, reply_parts}
use Rattle.scan_serve.proofs.SendLemmas.{err_weaker}
use Rattle.scan_core.specs.Sessions.{IsEvent}
use Rattle.scan_core.proofs.StepLemmas.{event_refused}
use Rattle.scan_run.proofs.FeedLemmas.{answered_one, stopped_one}
use Rattle.scan_run.proofs.SendingLemmas.{ok_weaker}
use Rattle.scan_run.proofs.feeding.answer_feed.Goals as goal

pub returns-in-Err-clause-ok : goal.returns-in-Err-clause-ok
returns-in-Err-clause-ok g c =
    let s = c.args.session.now in
    let request = Feed c.args.stream c.args.piece.now in
    let reply = reply_parts c.reply.result in
    ok_weaker c.push.result
    (answered_one IsEvent s s request reply _ _ _ _ (event_refused s request c.in-Err.refusal reply c.in-Err.ensures.refused c.reply.ensures))
    c.push.ensures.ok

pub returns-in-Err-clause-err : goal.returns-in-Err-clause-err
returns-in-Err-clause-err g c =
    let s = c.args.session.now in
    let request = Feed c.args.stream c.args.piece.now in
    let reply = reply_parts c.reply.result in
    err_weaker c.push.result
    (stopped_one IsEvent s s request reply _ _ _ (event_refused s request c.in-Err.refusal reply c.in-Err.ensures.refused c.reply.ensures))
    c.push.ensures.err
