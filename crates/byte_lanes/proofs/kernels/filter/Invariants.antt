use Rattle.std.proofs.Common.{◌≤◌, ◌-◌, length}
use Rattle.byte_lanes.specs.Filtered.{IsFilteredBelow}
use Rattle.byte_lanes.proofs.kernels.filter.Given as goal

abbrev pub invariant-loop-out : goal.invariant-loop-out
invariant-loop-out l = (l.at ≤ length l.out) × IsFilteredBelow l.masks l.x0 l.x1 l.x2 l.at l.out

abbrev pub decreases-loop-out : goal.decreases-loop-out
decreases-loop-out l = length l.out - l.at
