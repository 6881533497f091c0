use Rattle.std.proofs.Common.{◌-◌}
use Rattle.byte_lanes.specs.PlacesAfter.{NoneWithin}
use Rattle.lane_filter.proofs.candidates.single_bits.Given as goal

abbrev pub invariant-loop-end : goal.invariant-loop-end
invariant-loop-end g l = NoneWithin (g.T.EndTest.candidate l.test l.text) l.from (l.end - 1)
