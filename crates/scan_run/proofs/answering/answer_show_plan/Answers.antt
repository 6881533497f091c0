-- A prefix of the one reply is written.
use Rattle.scan_wire.specs.Messages.{ShowPlan, reply_parts}
use Rattle.scan_serve.proofs.SendLemmas.{err_weaker}
use Rattle.scan_core.specs.Sessions.{IsEvent}
use Rattle.scan_run.proofs.FeedLemmas.{stopped_one}
use Rattle.scan_run.proofs.answering.answer_show_plan.Goals as goal

pub returns-clause-err : goal.returns-clause-err
returns-clause-err g c =
    let s = c.args.session.now in
    err_weaker c.push.result (stopped_one IsEvent s s (ShowPlan c.args.stream) (reply_parts c.in-Ok.reply) _ _ _ c.in-Ok.ensures.ok) c.push.ensures.err
