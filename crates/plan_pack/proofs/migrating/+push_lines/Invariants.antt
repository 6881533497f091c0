use Rattle.std.proofs.Common.{length}
use Rattle.plan_pack.proofs.migrating.+push_lines.Given as goal

abbrev pub decreases-push_lines : goal.decreases-push_lines
decreases-push_lines l = length l.old.now
