-- Tail costs: the least costs of cutting the remaining places.
use Rattle.std.specs.Prelude.{◌≡◌, ℕ, ◌<◌, ◌≤◌, List, length}
use Rattle.lit_base.specs.Cuts.{CutsFrom, cut_price}
use Rattle.lit_base.specs.Potentials.{potential}

-- by the prices c of a run, v is the least price of cutting the places from p up to n into at most r runs:
-- some such cut has it, and none has less
pub record IsTailCost (c : ℕ → ℕ → ℕ) (n r p v : ℕ) : Type 0 where
  pub reached : (ends : List ℕ) × CutsFrom n p ends × (length ends ≤ r) × (cut_price c p ends ≡ v)
  pub least : (ends : List ℕ) → CutsFrom n p ends → length ends ≤ r → v ≤ cut_price c p ends

-- `most` rows of n potentials each, every one of them a tail cost
abbrev pub AreTailCosts : (ℕ → ℕ → ℕ) → ℕ → ℕ → List ℕ → Type 0
AreTailCosts c n most hs = (r p : ℕ) → 1 ≤ r → r ≤ most → p < n → IsTailCost c n r p (potential hs n r p)
