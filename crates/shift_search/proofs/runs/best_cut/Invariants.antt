use Rattle.std.proofs.Common.{◌≤◌, length}
use Rattle.shift_search.proofs.runs.best_cut.Given as goal

-- the place and the end of the run lie within the list
abbrev pub invariant-loop-place : goal.invariant-loop-place
invariant-loop-place l = record {
  best : l.best.0 ≤ length l.list.texts;
  last : l.last ≤ length l.list.texts;
}
