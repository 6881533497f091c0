-- The newlines before a place are counted.
use Rattle.std.proofs.Common.{◌≡◌, ◌≤◌, ◌-◌, eqb, count_by, length, take}
use Rattle.text_lines.proofs.counting.count_stretches.Given as goal

abbrev pub invariant-loop-at : goal.invariant-loop-at
invariant-loop-at l = record {
  within : l.at ≤ length l.text;
  count : l.count ≡ count_by (λ b. eqb b 10) (take l.at l.text);
}

abbrev pub decreases-loop-at : goal.decreases-loop-at
decreases-loop-at l = length l.text - l.at
