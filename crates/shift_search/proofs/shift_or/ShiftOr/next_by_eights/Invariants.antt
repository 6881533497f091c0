use Rattle.std.proofs.Common.{◌-◌, length}
use Rattle.shift_search.specs.Probes.{IsPassed}
use Rattle.shift_search.proofs.shift_or.ShiftOr.next_by_eights.Given as goal

-- nothing ends up to the last of the eight positions, and `carried` rules out ends after it
abbrev pub invariant-eights : goal.invariant-eights
invariant-eights g l = IsPassed l.self l.text l.start l.at l.carried

abbrev pub decreases-eights : goal.decreases-eights
decreases-eights g l = length l.text - l.at
