-- How many workers may share a scan.
use Rattle.std.specs.Prelude.{ℕ, ◌≤◌}

-- 1 to 16
pub record AreWorkers (count : ℕ) : Type 0 where
  pub some : 1 ≤ count
  pub few : count ≤ 16
