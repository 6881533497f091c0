use Rattle.std.proofs.Common.{◌-◌, length, slice_index}
use Rattle.shift_search.specs.Probes.{IsPassed}
use Rattle.shift_search.proofs.shift_or.ShiftOr.next_by_step.Given as goal

-- nothing ends up to the last of the positions, and the last word before rules out ends after it
abbrev pub invariant-fours : goal.invariant-fours
invariant-fours g l = IsPassed l.self l.text l.start l.at (slice_index l.before 3)

abbrev pub decreases-fours : goal.decreases-fours
decreases-fours g l = length l.text - l.at
