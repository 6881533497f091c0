use Rattle.std.proofs.Common.{ℕ, ◌+◌, ◌*◌, ◌-◌, ◌<◌, slice_index}
use Rattle.lit_base.specs.NextEnds.{NoEndUpTo}
use Rattle.shift_search.proofs.shift_or.ShiftOr.has_end.Given as goal

-- nothing ends at the positions of the words whose numbers were passed
abbrev pub invariant-loop-slot : goal.invariant-loop-slot
invariant-loop-slot l = (slot : ℕ) → slot < l.slot → NoEndUpTo l.self.literals l.text (l.at + 8 * slice_index l.numbers slot - 1) (l.at + 8 * slice_index l.numbers slot + 7)
