-- A file that was not read, and a file that was.
use Rattle.std.proofs.lemmas.Result.{err_from_is_err_and}
use Rattle.scan_run.proofs.LoadLemmas.{judges-read, judges-unread, loads-unread}
use Rattle.scan_run.proofs.loading.publish_file.Goals as goal

pub returns-in_err-plans-clause-loads : goal.returns-in_err-plans-clause-loads
returns-in_err-plans-clause-loads g c =
    let p = err_from_is_err_and c.from_residual.result c.from_residual.ensures.1 in
    let e = c.in_err-plans.ensures in
    rw (p.1, p.2) (loads-unread c.args.store.now (g.I.ByteIn.coming c.args.input.now) (g.I.ByteIn.coming c.read_plans.new.input) c.args.tickets.now.items
    (g.E.ByteOut.written c.args.err.now) c.in_err-plans.field-0.0 e.faults e.wrong e.shown)

pub returns-in_err-plans-clause-judged : goal.returns-in_err-plans-clause-judged
returns-in_err-plans-clause-judged g c =
    let p = err_from_is_err_and c.from_residual.result c.from_residual.ensures.1 in
    let e = c.in_err-plans.ensures in
    rw (p.1, p.2) (judges-unread (g.I.ByteIn.coming c.args.input.now) c.in_err-plans.field-0.0 e.only e.exact e.clean)

pub returns-clause-judged : goal.returns-clause-judged
returns-clause-judged g c =
    judges-read (g.I.ByteIn.coming c.args.input.now) c.in_ok-plans.plans c.publish_plans.ensures.prefix.more c.publish_plans.result c.in_ok-plans.ensures.exact c.in_ok-plans.ensures.ending c.publish_plans.ensures.prefix.left
