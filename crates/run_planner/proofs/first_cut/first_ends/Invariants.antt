-- Each first cheapest cut of the remaining places completes the first cheapest cut of all.
use Rattle.std.proofs.Common.{◌≡◌, ℕ, ◌+◌, ◌-◌, ◌<◌, ◌≤◌, List, ◌++◌, length}
use Rattle.lit_base.specs.Potentials.{potential}
use Rattle.run_planner.specs.FirstCut.{IsFirstTail}
use Rattle.run_planner.proofs.first_cut.first_ends.Given as goal

abbrev pub invariant-loop-place : goal.invariant-loop-place
invariant-loop-place g l = record {
  prices : g.M.Meter.prices l.meter ≡ g.M.Meter.prices l.fn.meter;
  size : g.M.Meter.size l.meter ≡ g.M.Meter.size l.fn.meter;
  count : g.M.Meter.count l.meter ≤ g.M.Meter.count l.fn.meter + l.place;
  within : l.place ≤ l.n;
  runs : length l.ends.items + l.left ≡ l.runs;
  some : l.place < l.n → 1 ≤ l.left;
  whole : (rest : List ℕ) → IsFirstTail (g.M.Meter.prices l.fn.meter) l.n l.left l.place (potential l.rows l.n l.left l.place) rest
      → IsFirstTail (g.M.Meter.prices l.fn.meter) l.n l.runs 0 (potential l.rows l.n l.runs 0) (l.ends.items ++ rest);
}

abbrev pub decreases-loop-place : goal.decreases-loop-place
decreases-loop-place g l = l.n - l.place
