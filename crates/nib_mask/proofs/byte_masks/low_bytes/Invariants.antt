use Rattle.std.proofs.Common.{◌≡◌, ℕ, ◌%◌, ◌<◌, length, get_or}
use Rattle.nib_mask.proofs.byte_masks.low_bytes.Given as goal

-- the entries passed hold the low bytes
abbrev pub invariant-loop-value : goal.invariant-loop-value
invariant-loop-value l =
    (length l.bytes ≡ 16) × ((k : ℕ) → k < l.value → get_or l.bytes k 0 ≡ get_or l.table k 0 % 256)
