use Rattle.std.proofs.Common.{◌≡◌, ℕ, ◌%◌, ◌<◌, slice_index}
use Rattle.std.specs.Int.{bit_at}
use Rattle.nib_mask.proofs.prefixes.add_to_all.Given as goal

-- the entries passed have the bucket, and all that the table had
abbrev pub invariant-loop-value : goal.invariant-loop-value
invariant-loop-value l = record {
  here : (value : ℕ) → value < l.value → bit_at (slice_index l.table value) (l.bucket % 8) ≡ 1;
  kept : (value bit : ℕ) → bit_at (slice_index l.fn.table value) bit ≡ 1 → bit_at (slice_index l.table value) bit ≡ 1;
}
