-- The best of the ends before this one, and a price for each.
use Rattle.std.proofs.Common.{◌≡◌, ℕ, ◌+◌, ◌<◌, ◌≤◌, get_or}
use Rattle.run_planner.proofs.split_row.best_end.Given as goal

abbrev pub invariant-loop-end : goal.invariant-loop-end
invariant-loop-end g l = record {
  prices : g.M.Meter.prices l.meter ≡ g.M.Meter.prices l.fn.meter;
  size : g.M.Meter.size l.meter ≡ g.M.Meter.size l.fn.meter;
  count : g.M.Meter.count l.meter + l.from ≡ g.M.Meter.count l.fn.meter + l.end;
  from : l.from ≤ l.best.end;
  before : l.best.end < l.end;
  price : l.best.price ≡ g.M.Meter.prices l.fn.meter l.place l.best.end + get_or l.later l.best.end 0;
  least : (q : ℕ) → l.from ≤ q → q < l.end → l.best.price ≤ g.M.Meter.prices l.fn.meter l.place q + get_or l.later q 0;
}
