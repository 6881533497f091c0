use Rattle.std.proofs.Common.{ℕ, ◌+◌, ◌-◌, ◌≤◌, length}
use Rattle.lit_base.specs.NextEnds.{NoEndUpTo}
use Rattle.factor_search.specs.PendingEnds.{ArePending}
use Rattle.factor_search.proofs.probing.next_pending.Given as goal

-- nothing ends in the blocks passed
abbrev pub invariant-blocks-2 : goal.invariant-blocks-2
invariant-blocks-2 l = record {
  prefix : 3 ≤ l.at;
  ahead : l.seen ≤ l.at;
  inside : l.at ≤ length l.text;
  none : (from : ℕ) → l.seen ≤ from → ArePending l.factors l.text from l.seen (l.seen + 1) l.hash_bits → NoEndUpTo l.factors.literals l.text from l.at;
  pending : (from : ℕ) → ArePending l.factors l.text from l.seen (l.seen + 1) l.hash_bits → ArePending l.factors l.text from l.at (l.at + 1) l.hash_bits;
}

abbrev pub decreases-blocks-2 : goal.decreases-blocks-2
decreases-blocks-2 l = length l.text - l.at
