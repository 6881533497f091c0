-- How many files of patterns may share a plan file.
use Rattle.std.specs.Prelude.{ℕ, ◌≤◌}

-- 1 to 64
pub record AreFiles (count : ℕ) : Type 0 where
  pub some : 1 ≤ count
  pub few : count ≤ 64
