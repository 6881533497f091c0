use Rattle.std.proofs.Common.{◌≡◌, ℕ, ◌+◌, ◌-◌, ◌*◌, ◌<◌}
use Rattle.std.specs.Int.{bit_at}
use Rattle.lit_base.specs.NextEnds.{NoEndUpTo}
use Rattle.shift_search.proofs.shift_or.ShiftOr.verify_four.Given as goal

-- nothing ends at the positions of the words whose bits are gone
abbrev pub invariant-words : goal.invariant-words
invariant-words l = record {
  few : l.unseen < 16;
  none : (i : ℕ) → i < 4 → bit_at l.unseen i ≡ 0 → NoEndUpTo l.self.literals l.text (l.at + 8 * i - 1) (l.at + 8 * i + 7);
}

abbrev pub decreases-words : goal.decreases-words
decreases-words l = l.unseen
