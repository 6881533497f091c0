use Rattle.std.proofs.Common.{length}
use Rattle.plan_pack.proofs.packing.+pack_with.Given as goal

abbrev pub decreases-pack_with : goal.decreases-pack_with
decreases-pack_with g l = length l.names.now
