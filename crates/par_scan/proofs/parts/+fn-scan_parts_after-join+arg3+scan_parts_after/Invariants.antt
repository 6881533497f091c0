-- One worker fewer stands before the last part.
use Rattle.std.proofs.Common.{◌-◌, ◌*◌}
use Rattle.par_scan.proofs.parts.+fn-scan_parts_after-join+arg3+scan_parts_after.Given as goal

abbrev pub decreases-join+arg3 : goal.decreases-join+arg3
decreases-join+arg3 g l = 2 * l.workers - 1

abbrev pub decreases-scan_parts_after : goal.decreases-scan_parts_after
decreases-scan_parts_after g l = 2 * l.workers
