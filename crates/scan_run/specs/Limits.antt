-- How many connections a run may accept.
use Rattle.std.specs.Prelude.{◌≡◌, ℕ, ◌≤◌}
use Rattle.scan_run.specs.declared.connections.TheConstants.{MAX_CONNECTIONS}

-- one, or more up to the limit
pub record AreConnections (count : ℕ) : Type 0 where
  pub some : 1 ≤ count
  pub few : count ≤ MAX_CONNECTIONS

-- the limit is 64
abbrev pub ConnectionsLaw : Type 0
ConnectionsLaw = MAX_CONNECTIONS ≡ 64
