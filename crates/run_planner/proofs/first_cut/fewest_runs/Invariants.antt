-- No fewer runs reach the price.
use Rattle.std.proofs.Common.{◌≡◌, ℕ, ◌<◌, ◌≤◌}
use Rattle.lit_base.specs.Potentials.{potential}
use Rattle.run_planner.proofs.first_cut.fewest_runs.Given as goal

abbrev pub invariant-loop-r : goal.invariant-loop-r
invariant-loop-r l = (r : ℕ) → 1 ≤ r → r < l.r → potential l.rows l.n r 0 ≡ potential l.rows l.n l.most 0 → ⊥
