-- The reply is written once the session agrees with the loaded plans.
use Rattle.scan_wire.specs.Messages.{Publish, reply_parts, texts_of}
use Rattle.scan_serve.proofs.SendLemmas.{err_weaker}
use Rattle.scan_run.specs.Beside.{IsEventBeside}
use Rattle.scan_run.proofs.FeedLemmas.{answered_one, stopped_one}
use Rattle.scan_run.proofs.SendingLemmas.{ok_weaker}
use Rattle.scan_run.proofs.answering.answer_publish.Goals as goal

pub returns-clause-ok : goal.returns-clause-ok
returns-clause-ok g c =
    ok_weaker c.push.result
    (answered_one (IsEventBeside c.args.loaded.now) c.args.session.now c.publish.new.self (Publish c.args.fold c.args.profile (texts_of c.args.literals.now)) (reply_parts c.in-Ok.reply) _ _ _ _
    (record { event = c.in-Ok.ensures.ok; agreed = c.agree_replied.ensures; found = tt }))
    c.push.ensures.ok

pub returns-clause-err : goal.returns-clause-err
returns-clause-err g c =
    err_weaker c.push.result
    (stopped_one (IsEventBeside c.args.loaded.now) c.args.session.now c.publish.new.self (Publish c.args.fold c.args.profile (texts_of c.args.literals.now)) (reply_parts c.in-Ok.reply) _ _ _
    (record { event = c.in-Ok.ensures.ok; agreed = c.agree_replied.ensures; found = tt }))
    c.push.ensures.err
