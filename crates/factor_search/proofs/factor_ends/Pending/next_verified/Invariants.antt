use Rattle.std.proofs.Common.{◌+◌, ◌-◌, ◌≤◌, length}
use Rattle.lit_base.specs.NextEnds.{NoEndUpTo}
use Rattle.factor_search.specs.PendingEnds.{ArePendingEnds}
use Rattle.factor_search.proofs.factor_ends.Pending.next_verified.Given as goal

-- nothing ends before the block that is reached
abbrev pub invariant-blocks-2 : goal.invariant-blocks-2
invariant-blocks-2 l = record {
  state : ArePendingEnds l.factors l.text l.state.seen l.state;
  ahead : l.fn.self.seen ≤ l.state.seen;
  none : NoEndUpTo l.factors.literals l.text l.fn.self.seen l.state.seen;
}

abbrev pub decreases-blocks-2 : goal.decreases-blocks-2
decreases-blocks-2 l = length l.text - (l.state.seen + l.state.count)
