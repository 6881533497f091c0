use Rattle.std.specs.Prelude.{◌≡◌, ◌≤◌, ℕ, length}
use Rattle.bench_lanes.proofs.texts.quiet_text.Given as goal

-- `count` bytes so far, and no more than wanted
pub record IsSoFar (items count len : ℕ) : Type 0 where
  pub long : items ≡ count
  pub within : count ≤ len

abbrev pub invariant-loop : goal.invariant-loop
invariant-loop l = IsSoFar (length l.text.items) l.counter l.len
