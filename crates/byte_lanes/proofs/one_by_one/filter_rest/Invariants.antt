use Rattle.byte_lanes.specs.Filtered.{IsFilteredBelow}
use Rattle.byte_lanes.proofs.one_by_one.filter_rest.Given as goal

abbrev pub invariant-loop-place : goal.invariant-loop-place
invariant-loop-place l = IsFilteredBelow l.masks l.x0 l.x1 l.x2 l.place l.out
