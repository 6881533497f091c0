-- No end before this one reaches the price.
use Rattle.std.proofs.Common.{◌≡◌, ℕ, ◌+◌, ◌<◌, get_or}
use Rattle.run_planner.proofs.first_cut.first_reaching.Given as goal

abbrev pub invariant-loop-end : goal.invariant-loop-end
invariant-loop-end g l = record {
  prices : g.M.Meter.prices l.meter ≡ g.M.Meter.prices l.fn.meter;
  size : g.M.Meter.size l.meter ≡ g.M.Meter.size l.fn.meter;
  count : g.M.Meter.count l.meter + l.place + 1 ≡ g.M.Meter.count l.fn.meter + l.end;
  before : (q : ℕ) → l.place < q → q < l.end → g.M.Meter.prices l.fn.meter l.place q + get_or l.later q 0 ≡ l.price → ⊥;
}
