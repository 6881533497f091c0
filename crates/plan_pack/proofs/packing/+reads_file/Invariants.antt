use Rattle.std.proofs.Common.{length}
use Rattle.plan_pack.proofs.packing.+reads_file.Given as goal

abbrev pub decreases-reads_file : goal.decreases-reads_file
decreases-reads_file l = length l.operands.now
