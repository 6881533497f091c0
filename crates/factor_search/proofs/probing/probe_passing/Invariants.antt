use Rattle.std.proofs.Common.{◌≡◌, ℕ, ◌+◌, ◌<◌, length}
use Rattle.std.specs.Int.{bit_at}
use Rattle.factor_search.proofs.PendingSteps.{AreLeft}
use Rattle.factor_search.proofs.probing.probe_passing.Given as goal

-- a literal whose factor ends in the block is pending, or its position remains, and the remaining positions are in the
-- block and the text
abbrev pub invariant-places : goal.invariant-places
invariant-places l = record {
  left : AreLeft l.factors l.text l.seen l.found l.rest;
  kept : (back : ℕ) → back < 64 → bit_at l.hash_bits back ≡ 1 → bit_at l.found back ≡ 1;
  low : (back : ℕ) → bit_at l.rest back ≡ 1 → (back < 56) × (l.seen + back < length l.text);
}

abbrev pub decreases-places : goal.decreases-places
decreases-places l = l.rest
