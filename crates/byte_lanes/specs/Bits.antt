-- The bits of a mask.
use Rattle.std.specs.Prelude.{◌≡◌, ◌↔◌, ℕ, ◌<◌}
use Rattle.std.specs.Int.{bit_at}

-- low is the place of the lowest bit of the mask, and rest is the mask without it
pub record SplitsLowest (mask low rest : ℕ) : Type 0 where
  pub small : low < 64
  pub set : bit_at mask low ≡ 1
  pub lowest : (k : ℕ) → k < low → bit_at mask k ≡ 0
  pub less : rest < mask
  pub others : (k : ℕ) → (bit_at rest k ≡ 1) ↔ ((low < k) × (bit_at mask k ≡ 1))
