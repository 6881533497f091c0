use Rattle.lit_base.specs.NextEnds.{NoEndUpTo}
use Rattle.shift_search.proofs.shift_or.ShiftOr.first_between.Given as goal

-- nothing ends up to the place reached
abbrev pub invariant-loop-seen : goal.invariant-loop-seen
invariant-loop-seen l = NoEndUpTo l.self.literals l.text l.from l.seen
