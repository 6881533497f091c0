use Rattle.std.proofs.Common.{◌≤◌, ◌-◌, length}
use Rattle.byte_lanes.specs.Lanes.{HoldsBelow}
use Rattle.byte_lanes.proofs.kernels.any_set.Given as goal

abbrev pub invariant-loop-at : goal.invariant-loop-at
invariant-loop-at l = (l.at ≤ length l.numbers) × HoldsBelow (λ _. 0) l.at l.numbers

abbrev pub decreases-loop-at : goal.decreases-loop-at
decreases-loop-at l = length l.numbers - l.at
