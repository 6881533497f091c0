-- Potentials: numbers h(r, p), lower bounds of the cost of cutting the literals from p on into at most r runs.
use Rattle.std.specs.Prelude.{ℕ, ◌+◌, ◌-◌, ◌*◌, ◌<◌, ◌≤◌, ◌==◌, if◌then◌else◌, List, slice_index}

-- h(r, p) of n literals in a list that holds it row by row, r from 1 on; after the last literal it is 0
unfoldable pub potential : List ℕ → ℕ → ℕ → ℕ → ℕ
potential hs n r p = if p == n then 0 else slice_index hs ((r - 1) * n + p)

-- by the costs c of a run: no potential is above one run to the end, nor above one run and the potential after it
pub record BoundsBelow (c h : ℕ → ℕ → ℕ) (most n : ℕ) : Type 0 where
  pub ends : (r p : ℕ) → 1 ≤ r → r ≤ most → p < n → h r p ≤ c p n
  pub steps : (r p q : ℕ) → 2 ≤ r → r ≤ most → p < q → q < n → h r p ≤ c p q + h (r - 1) q
