-- Of the one reply to a Close a prefix is written.
use Rattle.scan_wire.specs.Messages.{Close, reply_parts}
use Rattle.scan_serve.proofs.SendLemmas.{err_weaker}
use Rattle.scan_run.specs.Beside.{IsEventBeside}
use Rattle.scan_run.proofs.FeedLemmas.{stopped_one}
use Rattle.scan_run.proofs.answering.answer_request.Goals as goal

pub returns-in-Close-clause-err : goal.returns-in-Close-clause-err
returns-in-Close-clause-err g c =
    rw c.in-Close.is (err_weaker c.push.result
    (stopped_one (IsEventBeside c.args.loaded.now) c.args.session.now c.close.new.self (Close c.in-Close.stream) (reply_parts c.close.result) _ _ _
    (record { event = c.close.ensures; agreed = tt; found = tt }))
    c.push.ensures.err)
