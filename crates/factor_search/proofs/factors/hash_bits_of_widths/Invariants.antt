use Rattle.std.proofs.Common.{◌≡◌, ℕ, ◌<◌, ◌≤◌}
use Rattle.std.specs.Int.{bit_at}
use Rattle.list_index.specs.HashBits.{HasBit}
use Rattle.list_index.specs.Suffixes.{hash_of, masked_key}
use Rattle.factor_search.specs.declared.widths.TheConstants.{HASH_BITS}
use Rattle.factor_search.proofs.factors.hash_bits_of_widths.Given as goal

-- the hash bits by the widths passed are found
abbrev pub invariant-loop-width : goal.invariant-loop-width
invariant-loop-width l = record {
  some : 0 < l.width;
  found : (width back : ℕ) → l.least ≤ width → width < l.width → HasBit l.hash_bits (hash_of HASH_BITS (masked_key l.word width l.case_bits)) back → bit_at l.found back ≡ 1;
}
