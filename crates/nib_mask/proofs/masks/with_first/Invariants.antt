use Rattle.std.proofs.Common.{◌≡◌, ℕ, ◌+◌, ◌*◌, ◌<◌, length, get_or}
use Rattle.std.specs.Int.{bit_at}
use Rattle.nib_mask.proofs.masks.with_first.Given as goal

-- the entries passed have the run's bit and the bits of later runs
abbrev pub invariant-loop-value : goal.invariant-loop-value
invariant-loop-value l =
    (length l.table ≡ 16) × ((k : ℕ) → k < l.value → get_or l.table k 0 ≡ bit_at l.kept k + 2 * get_or l.later k 0)
