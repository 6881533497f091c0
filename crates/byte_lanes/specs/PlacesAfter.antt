-- The positions of a text after one of them, in order.
use Rattle.std.specs.Prelude.{◌≡◌, ℕ, ◌+◌, ◌-◌, ◌<◌, ◌≤◌}
use Rattle.std.specs.Int.{bit_at}

-- P holds at no position after `from` and up to `to`
abbrev pub NoneWithin : (ℕ → Type 0) → ℕ → ℕ → Type 0
NoneWithin P from to = (end : ℕ) → from < end → end ≤ to → ¬ P end

-- the position is the first after `from` at which P holds
pub record IsFirstAfter (P : ℕ → Type 0) (from place : ℕ) : Type 0 where
  pub after : from < place
  pub holds : P place
  pub quiet : (end : ℕ) → from < end → end < place → ¬ P end

-- the positions after `from` and up to `done` at which P holds are those that the mask has a bit for, bit k standing
-- for first + k
pub record AreMarked (P : ℕ → Type 0) (from first done mask : ℕ) : Type 0 where
  pub reached : from ≤ done
  pub set : (k : ℕ) → bit_at mask k ≡ 1 → (from < first + k) × (first + k ≤ done) × P (first + k)
  pub all : (end : ℕ) → from < end → end ≤ done → P end → (first ≤ end) × (bit_at mask (end - first) ≡ 1)
