-- The place found is one of the last, and apart from the place chosen before, and unlike it, where one tried is.
use Rattle.std.proofs.Common.{◌+◌, ◌<◌, ◌≤◌, IfSome, length}
use Rattle.lane_filter.proofs.Ranks.{IsBeside}
use Rattle.lane_filter.proofs.pair.rarest.Given as goal

abbrev pub invariant-loop-place : goal.invariant-loop-place
invariant-loop-place l = record {
  inside : l.found < length l.literal;
  near : length l.literal ≤ l.found + 256;
  beside : IfSome l.chosen (λ first. IsBeside l.literal l.start l.place l.found first l.least);
}
