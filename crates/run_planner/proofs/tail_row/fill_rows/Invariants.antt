-- The rows before this one are filled, each within its prices.
use Rattle.std.proofs.Common.{◌≡◌, ℕ, ◌+◌, ◌-◌, ◌*◌, ◌^◌, ◌<◌, ◌≤◌, length}
use Rattle.run_planner.specs.TailCosts.{AreTailCosts}
use Rattle.run_planner.proofs.tail_row.fill_rows.Given as goal

abbrev pub invariant-loop-r : goal.invariant-loop-r
invariant-loop-r g l = record {
  prices : g.M.Meter.prices l.meter ≡ g.M.Meter.prices l.fn.meter;
  size : g.M.Meter.size l.meter ≡ g.M.Meter.size l.fn.meter;
  len : length l.rows ≡ length l.fn.rows;
  filled : AreTailCosts (g.M.Meter.prices l.fn.meter) l.n l.r l.rows;
  count : (d : ℕ) → l.n < 2 ^ d → g.M.Meter.count l.meter ≤ g.M.Meter.count l.fn.meter + l.n + (l.r - 1) * (d * (l.n - 1) + l.n);
  coarse : g.M.Meter.count l.meter ≤ g.M.Meter.count l.fn.meter + 8192 + l.r * 2 ^ 26;
}
