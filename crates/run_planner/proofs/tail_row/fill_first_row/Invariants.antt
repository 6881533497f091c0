-- The places before this one are filled, with a price for each.
use Rattle.std.proofs.Common.{◌≡◌, ℕ, ◌+◌, ◌<◌, length, get_or}
use Rattle.run_planner.proofs.tail_row.fill_first_row.Given as goal

abbrev pub invariant-loop-place : goal.invariant-loop-place
invariant-loop-place g l = record {
  prices : g.M.Meter.prices l.meter ≡ g.M.Meter.prices l.fn.meter;
  size : g.M.Meter.size l.meter ≡ g.M.Meter.size l.fn.meter;
  count : g.M.Meter.count l.meter ≡ g.M.Meter.count l.fn.meter + l.place;
  len : length l.rows ≡ length l.fn.rows;
  filled : (p : ℕ) → p < l.place → get_or l.rows p 0 ≡ g.M.Meter.prices l.fn.meter p l.n;
}
