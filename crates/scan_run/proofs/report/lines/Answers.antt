-- A line wants memory only where there is one.
use Rattle.std.proofs.Common.{◌<◌, length, rules}
use Rattle.byte_io.proofs.TransferLemmas.{OnErr-any}
use Rattle.scan_run.proofs.report.lines.Goals as goal

pub returns-in_err-push_line-clause-starved : goal.returns-in_err-push_line-clause-starved
returns-in_err-push_line-clause-starved c =
    let some : 0 < length c.args.endings.now = search rules in
    OnErr-any c.from_residual.result some
