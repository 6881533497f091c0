use Rattle.std.proofs.Common.{ℕ, ◌<◌, get_or}
use Rattle.nib_mask.specs.Prefixes.{KeepsPrefixes}
use Rattle.nib_mask.proofs.prefixes.table.Given as goal

-- the entries have the bits of the prefixes passed
abbrev pub invariant-loop-place : goal.invariant-loop-place
invariant-loop-place l =
    (value : ℕ) → value < 16 → KeepsPrefixes l.list l.place l.offsets l.buckets l.position l.half value (get_or l.table value 0)
