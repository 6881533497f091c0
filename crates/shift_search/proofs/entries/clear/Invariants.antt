use Rattle.std.proofs.Common.{◌≡◌, ◌<◌, ◌≤◌, vec_len}
use Rattle.shift_search.specs.ShiftOr.{AreCleared}
use Rattle.shift_search.proofs.entries.clear.Given as goal

-- the entries passed lack the bit
abbrev pub invariant-loop-number : goal.invariant-loop-number
invariant-loop-number l = record {
  len : vec_len l.entries ≡ vec_len l.fn.entries;
  cleared : AreCleared l.fn.entries.items l.entries.items (λ number other. ((l.first ≤ number) × (number < l.number)) × (other ≡ l.bit));
}
