-- The literals below are shorter, and those from the high end on are not.
use Rattle.std.proofs.Common.{◌-◌, ◌<◌, ◌≤◌, ℕ, length, get_or}
use Rattle.lit_base.specs.Literals.{lengths}
use Rattle.line_pick.proofs.matcher.first_as_long.Given as goal

abbrev pub invariant-loop-low : goal.invariant-loop-low
invariant-loop-low l = record {
  ordered : l.low ≤ l.high;
  within : l.high ≤ length l.list.texts;
  shorter : (place : ℕ) → place < l.low → get_or (lengths l.list) place 0 < l.len;
  as_long : (place : ℕ) → l.high ≤ place → place < length l.list.texts → l.len ≤ get_or (lengths l.list) place 0;
}

abbrev pub decreases-loop-low : goal.decreases-loop-low
decreases-loop-low l = l.high - l.low
