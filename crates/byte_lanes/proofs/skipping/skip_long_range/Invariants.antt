use Rattle.std.proofs.Common.{◌≤◌, ◌-◌, length}
use Rattle.byte_lanes.specs.PlacesAfter.{NoneWithin}
use Rattle.byte_lanes.proofs.skipping.skip_long_range.Given as goal

abbrev pub invariant-loop-seen : goal.invariant-loop-seen
invariant-loop-seen g l =
    (l.from ≤ l.seen) × (l.seen ≤ length l.text) × NoneWithin (g.T.EndTest.candidate l.test l.text) l.from l.seen

abbrev pub decreases-loop-seen : goal.decreases-loop-seen
decreases-loop-seen g l = length l.text - l.seen
