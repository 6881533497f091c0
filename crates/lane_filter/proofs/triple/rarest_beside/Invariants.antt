-- The place found is one of the last, and outside the pair where one tried is.
use Rattle.std.proofs.Common.{◌+◌, ◌<◌, ◌≤◌, length}
use Rattle.lane_filter.proofs.Ranks.{IsBesidePair}
use Rattle.lane_filter.proofs.triple.rarest_beside.Given as goal

abbrev pub invariant-loop-place : goal.invariant-loop-place
invariant-loop-place l = record {
  inside : l.found < length l.literal;
  near : length l.literal ≤ l.found + 256;
  beside : IsBesidePair l.pair (length l.literal) l.start l.place l.found l.least;
}
