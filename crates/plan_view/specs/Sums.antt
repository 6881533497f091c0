-- Sums over numbers from 0 on.
use Rattle.std.specs.Prelude.{ℕ, sum_by}
use Rattle.std.specs.List.{range_with_len}

-- f 0 + f 1 + .. + f (n - 1)
unfoldable pub sum_below : ℕ → (ℕ → ℕ) → ℕ
sum_below n f = sum_by f (range_with_len 0 n)
