use Rattle.std.proofs.Common.{length}
use Rattle.nib_mask.proofs.masks.+table.Given as goal

abbrev pub decreases-table : goal.decreases-table
decreases-table l = length l.ends.now
