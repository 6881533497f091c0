-- The newlines from the start on are counted, and no lane is more than there were steps.
use Rattle.std.proofs.Common.{◌≡◌, ◌≤◌, ◌+◌, ◌-◌, ◌/◌, eqb, count_by, length, take}
use Rattle.std.specs.Simd.Lanes.{Each1, sum_l}
use Rattle.text_lines.proofs.counting.newlines_after.Given as goal

abbrev pub invariant-loop-at : goal.invariant-loop-at
invariant-loop-at l = record {
  begun : l.fn.start ≤ l.at;
  within : l.at ≤ length l.text;
  most : Each1 (λ lane. lane ≤ (l.at - l.fn.start) / 64) l.lanes;
  count : count_by (λ b. eqb b 10) (take l.fn.start l.text) + sum_l l.lanes ≡ count_by (λ b. eqb b 10) (take l.at l.text);
}

abbrev pub decreases-loop-at : goal.decreases-loop-at
decreases-loop-at l = length l.text - l.at
